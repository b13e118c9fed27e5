-- The failure function of a pattern, and how far a text that is read ends in its front (Knuth, Morris and Pratt, Fast pattern matching in
-- strings).
use Rattle.std.specs.Prelude.{◌≡◌, ℕ, zero, suc, ◌+◌, ◌-◌, ◌<◌, ◌≤◌, List, [], ◌∷◌, ◌++◌, length, take, drop, nat_eq, slice_index, if◌then◌else◌}
use Rattle.std.specs.Cmp.Lexicographic.{pointwise}

-- the first `part` bytes of the pattern are also the last of its first `whole` bytes
abbrev pub IsBorder : List ℕ → ℕ → ℕ → Type 0
IsBorder pattern whole part = (part ≤ whole) × (take part pattern ≡ drop (whole - part) (take whole pattern))

-- `part` is the longest border of the first `whole` bytes that is shorter than they
pub record IsFailure (pattern : List ℕ) (whole part : ℕ) : Type 0 where
  pub shorter : part < whole
  pub border : IsBorder pattern whole part
  pub longest : (other : ℕ) → other < whole → IsBorder pattern whole other → other ≤ part

-- the failures of the first `count` fronts, from that of one byte on
pub record AreFailures (pattern failures : List ℕ) (count : ℕ) : Type 0 where
  pub len : length failures ≡ count
  pub each : (k : ℕ) → k < count → IsFailure pattern (k + 1) (slice_index failures k)

-- where `at` bytes of the pattern were read, and then the byte: of the fronts of at most `most` bytes, the longest that this ends in
abbrev pub longest_front : List ℕ → ℕ → ℕ → ℕ → ℕ
longest_front pattern at byte zero = 0
longest_front pattern at byte (suc most) =
    if pointwise nat_eq (take (suc most) pattern) (drop (at - most) (take at pattern ++ byte ∷ [])) then suc most
    else longest_front pattern at byte most

-- how much of the pattern is read after the byte, where `at` bytes of it were read before
abbrev pub next_length : List ℕ → ℕ → ℕ → ℕ
next_length pattern at byte = longest_front pattern at byte (suc at)
