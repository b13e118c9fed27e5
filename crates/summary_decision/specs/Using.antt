-- The numbers on whose chains productions stand.
use Rattle.std.specs.Prelude.{ℕ, Bool, true, false, Option, None, Some}

-- the nonterminal on the side, where the left side is useful; else the count of nonterminals
abbrev pub key_of : ℕ → Bool → Option ℕ → ℕ
key_of count true None = count
key_of count true (Some a) = a
key_of count false o = count
