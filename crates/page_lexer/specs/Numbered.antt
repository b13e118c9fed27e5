-- The states of a reader that were met, each at its number, and the steps that are known.
use Rattle.std.specs.Prelude.{◌≡◌, ◌<◌, ℕ, List, Some, slice_get, length}
use Rattle.text_base.specs.declared.page_token.PageToken.{PageToken}
use Rattle.byte_readers.specs.Reading.{emitted}
use Rattle.page_lexer.specs.declared.rows.NumberedStep.{NumberedStep}
use Rattle.page_lexer.specs.declared.rows.Row.{Row}

-- the step is the reader's own from the state by the byte: it leads to the number of the state behind the byte, and puts out the same
pub record IsStep {S : Type 0} (next : S → ℕ → S) (puts : S → ℕ → List PageToken) (states : List S) (s : S) (byte : ℕ)
    (step : NumberedStep) : Type 0 where
  pub to : slice_get states step.to.0 ≡ Some (next s byte)
  pub emit : emitted step.emit ≡ puts s byte

-- the step is known of the byte behind the state with this number
pub record IsKnown (rows : List Row) (n byte : ℕ) (step : NumberedStep) : Type 0 where
  pub row : Row
  pub placed : slice_get rows n ≡ Some row
  pub known : slice_get row.steps byte ≡ Some (Some step)

-- what was known stays known
abbrev pub KeepsKnown : List Row → List Row → Type 0
KeepsKnown old new = (n byte : ℕ) (step : NumberedStep) → IsKnown old n byte step → IsKnown new n byte step

-- nothing is known of the byte behind the state with this number
abbrev pub IsNew : List Row → ℕ → ℕ → Type 0
IsNew rows n byte = (step : NumberedStep) → IsKnown rows n byte step → ⊥

-- of this byte the step is known, and of every other what was known
pub record SetsStep (old new : Row) (byte : ℕ) (step : NumberedStep) : Type 0 where
  pub here : slice_get new.steps byte ≡ Some (Some step)
  pub others : (b : ℕ) → (b ≡ byte → ⊥) → slice_get new.steps b ≡ slice_get old.steps b

-- the state before a text has the number 0, and each step that is known is the reader's own from a state that was met
pub record IsNumbered {S : Type 0} (first : S) (next : S → ℕ → S) (puts : S → ℕ → List PageToken) (states : List S)
    (rows : List Row) : Type 0 where
  pub begins : slice_get states 0 ≡ Some first
  pub met : (n byte : ℕ) (step : NumberedStep) → IsKnown rows n byte step → n < length states
  pub steps : (n byte : ℕ) (step : NumberedStep) (s : S) → IsKnown rows n byte step → slice_get states n ≡ Some s
      → IsStep next puts states s byte step
