use Rattle.std.proofs.Common.{◌≡◌, ◌++◌, List, [], ◌∷◌, ℕ, refl, subst}
use Rattle.fst_core.specs.declared.machine.Move.{Move}
use Rattle.cut_grammars.proofs.counting.one_move.Goals as goal

pub returns : goal.returns
returns c =
    let m : Move ℕ = record { range = c.args.range; out = c.in_ok-out.out; to = c.args.to } in
    (m, subst (λ (old : List (Move ℕ)). c.push.new.self.items ≡ old ++ m ∷ []) c.new-moves.ensures.items c.in_ok-push.ensures.items, refl, c.in_ok-out.ensures, refl)
