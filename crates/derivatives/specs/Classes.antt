-- Classes of bytes by which an expression has one derivative (Owens, Reppy and Turon, "Regular-expression derivatives re-examined", 2009).
use Rattle.std.specs.Prelude.{◌-◌, ℕ, nat_le, min, if◌then◌else◌}
use Rattle.derivatives.specs.Expressions.{Expr, nothing, empty, range, chain, either, star, among, Members, none, member}
use Rattle.derivatives.specs.Derivatives.{may_end}

-- the last byte
abbrev pub last_byte : ℕ
last_byte = 255

-- the last byte up to which all bytes from this one on lie in the range, or all outside it
abbrev pub last_beside : ℕ → ℕ → ℕ → ℕ
last_beside low high b = if nat_le low b then (if nat_le b high then high else last_byte) else low - 1

abbrev mutual
  -- the last byte up to which all bytes from this one on are alike to each range that may be first
  pub last_alike : ℕ → Expr → ℕ
  last_alike b nothing = last_byte
  last_alike b empty = last_byte
  last_alike b (range low high) = last_beside low high b
  last_alike b (chain x y) = if may_end x then min (last_alike b x) (last_alike b y) else last_alike b x
  last_alike b (either x y) = min (last_alike b x) (last_alike b y)
  last_alike b (star x) = last_alike b x
  last_alike b (among ms) = last_of_all b ms

  -- the same of all members
  pub last_of_all : ℕ → Members → ℕ
  last_of_all b none = last_byte
  last_of_all b (member e q ms) = min (last_alike b e) (last_of_all b ms)
