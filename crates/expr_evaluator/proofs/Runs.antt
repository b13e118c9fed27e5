-- Runs one after the other.
use Rattle.std.proofs.Common.{◌≡◌, refl}
use Rattle.script_meaning.specs.Runs.{State, Run, Going, Over, ◌then_do◌}

pub assoc : {A B C : Type 0} (r : Run A) (f : A → State → Run B) (g : B → State → Run C) → ((r then_do f) then_do g) ≡ (r then_do (λ x s. f x s then_do g))
unfolding ◌then_do◌
assoc (Going x s) f g = refl
assoc (Over end printed) f g = refl

pub same_then : {A B : Type 0} (r : Run A) (f g : A → State → Run B) → ((x : A) (s : State) → f x s ≡ g x s) → (r then_do f) ≡ (r then_do g)
unfolding ◌then_do◌
same_then (Going x s) f g h = h x s
same_then (Over end printed) f g h = refl
