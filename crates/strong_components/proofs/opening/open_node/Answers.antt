use Rattle.std.proofs.Common.{◌≡◌, ◌∙◌, ◌∷◌, ℕ, List, length, set, refl, ap, arith}
use Rattle.std.proofs.lemmas.Option.{slice_get_read}
use Rattle.strong_components.specs.declared.marks.Mark.TheVariants.{Open}
use Rattle.strong_components.specs.Search.{waits}
use Rattle.strong_components.proofs.opening.open_node.Goals as goal

pub returns : goal.returns
returns c =
    let at : c.len-place.result ≡ length c.args.search.now.path.items = omega (arith, c.len-place.ensures, c.args.search.now.path.ok.0) in
    record {
      targets = c.index-edges-node.result;
      are = slice_get_read c.args.edges.now (length c.args.edges.now) c.args.node c.index-edges-node.result refl c.requires.node c.index-edges-node.is;
      marks = ap (λ (p : ℕ). set c.args.search.now.marks.items c.args.node (Open p)) at;
      path = c.in_ok-push.ensures.items;
      starts = c.in_ok-push-2.ensures.ok ∙ ap (λ (p : ℕ). p ∷ c.args.search.now.starts) at;
      waiting = c.in_ok-push_edges.ensures ∙ (ap (λ (p : ℕ). waits p c.as_slice.result.now c.args.search.now.waiting) at ∙ ap (λ (ts : List ℕ). waits (length c.args.search.now.path.items) ts c.args.search.now.waiting) c.as_slice.ensures);
      roots = refl;
    }
