-- What is known of derivatives.
use Rattle.std.specs.Prelude.{◌≡◌, ℕ, Some}
use Rattle.derivatives.specs.Answers.{answer_of}
use Rattle.derivatives.specs.declared.steps.Steps.{Steps}

-- the derivative of an expression by a byte was asked for, and has this number
abbrev pub IsKnown : Steps → ℕ → ℕ → ℕ → Type 0
IsKnown steps place byte n = answer_of steps.answers (record { place = place; byte = byte }) ≡ Some n

-- what was known stays known
abbrev pub StaysKnown : Steps → Steps → Type 0
StaysKnown old new = (place byte n : ℕ) → IsKnown old place byte n → IsKnown new place byte n
