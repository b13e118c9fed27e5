use Rattle.std.proofs.Common.{◌+◌, ◌∷◌, ◌++◌, [], List, ℕ, length, drop, sym, ◌∙◌, ap, append_assoc, length-drop, arith}
use Rattle.string_functions.specs.Pieces.{pieces_of}
use Rattle.php_builtins.proofs.PieceLemmas.{pieces_at, pieces_nowhere}
use Rattle.php_builtins.proofs.pieces.cut.Goals as goal

pub loop-at-preserved : goal.loop-at-preserved
loop-at-preserved c =
    let out : List (List ℕ) = c.loop-at.out.items in
    let n : ℕ = c.in-Some.at + length c.args.sep.now in
    let rest : List (List ℕ) = pieces_of c.args.sep.now (drop n c.loop-at.rest.now) in
    let count = ap length c.behind-rest.ensures in (
      ap (λ (t : List ℕ). c.push.new.self.items ++ pieces_of c.args.sep.now t) c.behind-rest.ensures
          ∙ ap (λ (xs : List (List ℕ)). xs ++ rest) c.in_ok-push.ensures.items
          ∙ append_assoc out (c.in_ok-piece.piece ∷ []) rest
          ∙ ap (λ (p : List ℕ). out ++ (p ∷ rest)) (c.in_ok-piece.ensures ∙ c.front.ensures)
          ∙ ap (λ (xs : List (List ℕ)). out ++ xs) (sym (pieces_at c.args.sep.now c.loop-at.rest.now c.in-Some.at c.requires.sep (sym c.in-Some.ensures.place)))
          ∙ c.loop-at.invariant.0,
      omega (arith, count, length-drop n c.loop-at.rest.now, c.loop-at.invariant.1),
    )

pub returns : goal.returns
returns c =
    c.in_ok-push-2.ensures.items
    ∙ ap (λ (p : List ℕ). c.loop-at.out.items ++ p ∷ []) c.in_ok-piece-2.ensures
    ∙ ap (λ (xs : List (List ℕ)). c.loop-at.out.items ++ xs) (sym (pieces_nowhere c.args.sep.now c.loop-at.rest.now c.requires.sep (sym c.in_default.ensures.place)))
    ∙ c.loop-at.invariant.0
