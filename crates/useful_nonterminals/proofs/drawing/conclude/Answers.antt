use Rattle.std.proofs.Common.{◌∙◌, refl, sym}
use Rattle.numbered_sets.proofs.WalkLemmas.{walk_begun, walk_further, walk_ended}
use Rattle.useful_nonterminals.proofs.DrawLemmas.{concludes_same, concludes_more, concludes_fewer}
use Rattle.useful_nonterminals.proofs.drawing.conclude.Goals as goal

pub loop-next-init : goal.loop-next-init
loop-next-init c = record {
  long = refl;
  noted = c.requires.noted;
  walk = λ keys chains. walk_begun keys _ _ chains c.args.n _ c.last_place-place.ensures
      (λ P none. concludes_same c.args.rules.now P c.args.marks.now.items c.args.order.now.items c.requires.noted (λ k rule asked found a b. absurd (none k asked)));
}

pub loop-next-preserved : goal.loop-next-preserved
loop-next-preserved c =
    let e = c.in_ok-conclude_one.ensures in
    let i = c.loop-next.invariant in
    record {
      long = e.long ∙ i.long;
      noted = e.noted;
      walk = λ keys chains. walk_further keys _ _ chains c.args.n c.loop-next.place (i.walk keys chains) c.in-Some.next (sym c.in-Some.ensures)
          (λ P R same met drawn. concludes_more c.args.rules.now P _ R _ _ _ _ _ _ (λ k asked. (same k).0 asked) drawn e);
    }

pub returns-clause-drawn : goal.returns-clause-drawn
returns-clause-drawn c = λ keys chains. walk_ended keys _ _ chains c.args.n c.loop-next.place (c.loop-next.invariant.walk keys chains) (sym c.in_default.ensures)
    (λ P same drawn. concludes_fewer c.args.rules.now P _ _ _ _ _ (λ k stands. (same k).1 stands) drawn)
