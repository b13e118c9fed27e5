-- What an error says.
use Rattle.std.specs.Prelude.{◌≡◌, ℕ, ◌-◌, List, length}
use Rattle.lr_tables.specs.Machine.{Answer, Wrong}
use Rattle.lr_machine.specs.declared.reading.ReadError.{ReadError}
use Rattle.lr_machine.specs.declared.reading.ReadError.TheVariants as errors

-- of want of memory nothing, of a place this
abbrev pub IsRefused : ReadError → (ℕ → Type 0) → Type 0
IsRefused errors.NoMemory P = Unit {0}
IsRefused (errors.Wrong place) P = P place

-- the machine stops at this place of the tokens
pub record StopsAt (answer : Answer) (ks : List ℕ) (place : ℕ) : Type 0 where
  pub left : List ℕ
  pub stops : answer ≡ Wrong left
  pub is : place ≡ length ks - length left
