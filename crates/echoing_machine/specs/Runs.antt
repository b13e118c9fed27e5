-- Runs of neighbouring bytes that do the same.
use Rattle.std.specs.Prelude.{◌≡◌, ℕ, ◌≤◌, ◌&&◌, if◌then◌else◌, nat_le, List, [], ◌∷◌}
use Rattle.text_base.specs.declared.page_token.PageToken.{PageToken}

-- each byte from the first to the last leads where the first leads, and puts out what it puts out
abbrev pub AreAlike : {S : Type 0} → (ℕ → S) → (ℕ → List PageToken) → ℕ → ℕ → Type 0
AreAlike next puts first last = (b : ℕ) → first ≤ b → b ≤ last → (next b ≡ next first) × (puts b ≡ puts first)

-- the last byte of the first run that has the byte, each run given by its first and its last byte; the byte itself where none has it
abbrev pub last_in : List (ℕ × ℕ) → ℕ → ℕ
last_in [] b = b
last_in (run ∷ runs) b = if nat_le run.0 b && nat_le b run.1 then run.1 else last_in runs b
