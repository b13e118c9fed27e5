-- What a machine puts out, by the numbers of its states.
use Rattle.std.specs.Prelude.{◌≡◌, ℕ, List, Some, slice_get}
use Rattle.text_base.specs.declared.letter.Letter.{Letter}

-- the machine goes from the state with the one number to that with the other by the byte, and puts out the letters
abbrev pub NumberedSteps : {S : Type 0} → (S → ℕ → S → List Letter → Type 0) → List S → ℕ → ℕ → ℕ → List Letter → Type 0
NumberedSteps {S} steps states i byte j letters =
    (s : S) × (t : S) × (slice_get states i ≡ Some s) × (slice_get states j ≡ Some t) × steps s byte t letters

-- the text may end in the state with the number, and the machine puts out the letters then
abbrev pub NumberedEnds : {S : Type 0} → (S → List Letter → Type 0) → List S → ℕ → List Letter → Type 0
NumberedEnds {S} ends states i letters = (s : S) × (slice_get states i ≡ Some s) × ends s letters
