-- Patterns of pages, and the texts that fit them, case by case as for regular expressions; this project's own.
use Rattle.std.specs.Prelude.{◌≡◌, ◌<◌, ℕ, Bool, true, false, not, ◌||◌, List, [], ◌∷◌}
use Rattle.derivatives.specs.Expressions.{lies, Joins}

-- A byte is given by ranges: one that lies in one of them, or, where `true` stands, in none. `void` is the empty text; `seq` is one pattern
-- behind another, `alt` one of two; `any` is `*`, `some` is `+`, `maybe` is `?`.
pub data Pattern : Type 0 where
  byte_of : Bool → List (ℕ × ℕ) → Pattern
  void : Pattern
  seq : Pattern → Pattern → Pattern
  alt : Pattern → Pattern → Pattern
  any : Pattern → Pattern
  some : Pattern → Pattern
  maybe : Pattern → Pattern

-- the byte lies in one of the ranges, both ends in them
abbrev pub in_ranges : List (ℕ × ℕ) → ℕ → Bool
in_ranges [] b = false
in_ranges (r ∷ rs) b = lies r.0 r.1 b || in_ranges rs b

-- the byte is one of those that are meant
abbrev pub is_meant : Bool → List (ℕ × ℕ) → ℕ → Bool
is_meant true rs b = not (in_ranges rs b)
is_meant false rs b = in_ranges rs b

-- the text, as a whole, fits the pattern
pub data Fits : Pattern → List ℕ → Type 0 where
  fits_byte : {out : Bool} {rs : List (ℕ × ℕ)} {b : ℕ} → b < 256 → is_meant out rs b ≡ true → Fits (byte_of out rs) (b ∷ [])
  fits_void : Fits void []
  fits_seq : {p q : Pattern} {u v w : List ℕ} → Joins u v w → Fits p u → Fits q v → Fits (seq p q) w
  fits_first : {p q : Pattern} {w : List ℕ} → Fits p w → Fits (alt p q) w
  fits_second : {p q : Pattern} {w : List ℕ} → Fits q w → Fits (alt p q) w
  fits_none : {p : Pattern} → Fits (any p) []
  fits_more : {p : Pattern} {u v w : List ℕ} → Joins u v w → Fits p u → Fits (any p) v → Fits (any p) w
  fits_some : {p : Pattern} {u v w : List ℕ} → Joins u v w → Fits p u → Fits (any p) v → Fits (some p) w
  fits_absent : {p : Pattern} → Fits (maybe p) []
  fits_present : {p : Pattern} {w : List ℕ} → Fits p w → Fits (maybe p) w
