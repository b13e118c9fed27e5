-- How a text can be written in quotes (PHP manual, "Types: Strings": single quoted, double quoted).
use Rattle.std.specs.Prelude.{◌≢◌, ℕ, List, [], ◌∷◌}

-- the bytes between single quotes stand for the text: `\'` for a quote, `\\` for a backslash, and every other byte for itself, as a
-- backslash before another byte does
pub data Quotes : List ℕ → List ℕ → Type 0 where
  nothing : Quotes [] []
  plain : {b : ℕ} {text bytes : List ℕ} → b ≢ 39 → b ≢ 92 → Quotes text bytes → Quotes (b ∷ text) (b ∷ bytes)
  quote : {text bytes : List ℕ} → Quotes text bytes → Quotes (39 ∷ text) (92 ∷ 39 ∷ bytes)
  backslash : {text bytes : List ℕ} → Quotes text bytes → Quotes (92 ∷ text) (92 ∷ 92 ∷ bytes)
  lone : {b : ℕ} {text bytes : List ℕ} → b ≢ 39 → b ≢ 92 → Quotes (b ∷ text) (b ∷ bytes) → Quotes (92 ∷ b ∷ text) (92 ∷ b ∷ bytes)

-- no double quote, backslash, `$` or `{` is among the bytes
abbrev pub HasNoMark : List ℕ → Type 0
HasNoMark [] = Unit {0}
HasNoMark (b ∷ bytes) = (b ≢ 34) × (b ≢ 92) × (b ≢ 36) × (b ≢ 123) × HasNoMark bytes
