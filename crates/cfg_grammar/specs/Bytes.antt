-- The bytes that stand in productions, as numbers below 256.
use Rattle.std.specs.Prelude.{◌≡◌, ◌<◌, ℕ, List, Some, slice_get, Contains}
use Rattle.text_base.specs.declared.byte_range.ByteRange.{ByteRange}
use Rattle.cfg_grammar.specs.declared.symbol.Symbol.TheVariants.{Range}
use Rattle.cfg_grammar.specs.declared.production.Production.{Production}
use Rattle.cfg_grammar.specs.Below.{symbols_of}

-- each range of the production is of bytes
abbrev pub HasBytes : Production → Type 0
HasBytes p = (range : ByteRange) → Contains (symbols_of p.right) (Range range) → range.hi < 256

-- so is each of the first so many productions
abbrev pub FirstHaveBytes : List Production → ℕ → Type 0
FirstHaveBytes ps n = (k : ℕ) (p : Production) → k < n → slice_get ps k ≡ Some p → HasBytes p
