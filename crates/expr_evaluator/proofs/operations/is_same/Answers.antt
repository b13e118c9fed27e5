use Rattle.std.proofs.Common.{◌≡◌, Bool, true, false, refl, sym}
use Rattle.std.specs.Prelude.{IsTrue, ◌↔◌}
use Rattle.std.specs.Bool.{Decides}
use Rattle.plain_values.proofs.IdentityLemmas.{identity}
use Rattle.expr_evaluator.proofs.operations.is_same.Goals as goal

same_test : (r d : Bool) (P : Type 0) → (IsTrue r ↔ P) → Decides d P → r ≡ d
same_test true true P h k = refl
same_test false false P h k = refl
same_test true false P h k = sym (k.1 (h.0 refl))
same_test false true P h k = h.1 (k.0 refl)

pub returns : goal.returns
returns c = same_test _ _ _ c.same.ensures (identity _ _)
