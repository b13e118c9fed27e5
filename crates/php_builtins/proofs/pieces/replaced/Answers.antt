use Rattle.std.proofs.Common.{◌≡◌, ◌++◌, ◌+◌, List, ℕ, length, take, drop, sym, ◌∙◌, ap, append_assoc}
use Rattle.string_functions.specs.Pieces.{replaced_text}
use Rattle.php_builtins.proofs.PieceLemmas.{replaced_at, replaced_nowhere}
use Rattle.php_builtins.proofs.pieces.replaced.Goals as goal

pub loop-at-preserved : goal.loop-at-preserved
loop-at-preserved c =
    let out : List ℕ = c.loop-at.out.items in
    let before : List ℕ = take c.in-Some.at c.loop-at.rest.now in
    let rest : List ℕ = replaced_text c.args.search.now c.args.with.now (drop (c.in-Some.at + length c.args.search.now) c.loop-at.rest.now) in
    ap (λ (t : List ℕ). c.push_both.new.out.items ++ replaced_text c.args.search.now c.args.with.now t) c.behind-rest.ensures
    ∙ ap (λ (bs : List ℕ). bs ++ rest) c.in_ok-push_both.ensures
    ∙ ap (λ (bs : List ℕ). (out ++ (bs ++ c.args.with.now)) ++ rest) c.front.ensures
    ∙ append_assoc out (before ++ c.args.with.now) rest
    ∙ ap (λ (bs : List ℕ). out ++ bs) (append_assoc before c.args.with.now rest ∙ sym (replaced_at c.args.search.now c.args.with.now c.loop-at.rest.now c.in-Some.at c.requires.search (sym c.in-Some.ensures.place)))
    ∙ c.loop-at.invariant

pub returns : goal.returns
returns c =
    c.in_ok-extend_from_slice.ensures.items
    ∙ ap (λ (bs : List ℕ). c.loop-at.out.items ++ bs) (sym (replaced_nowhere c.args.search.now c.args.with.now c.loop-at.rest.now c.requires.search (sym c.in_default.ensures.place)))
    ∙ c.loop-at.invariant
