-- The bytes of a system.
use Rattle.std.specs.Prelude.{◌<◌, ℕ, Contains}
use Rattle.text_base.specs.declared.byte_range.ByteRange.{ByteRange}
use Rattle.cfg_grammar.specs.declared.symbol.Symbol.TheVariants.{Range}
use Rattle.cfg_grammar.specs.declared.production.Production.{Production}
use Rattle.cfg_grammar.specs.Below.{symbols_of}
use Rattle.op_system.specs.declared.system.OpRule.{OpRule}
use Rattle.op_system.specs.declared.system.OpSystem.{OpSystem}
use Rattle.least_sets.specs.Bytes.{Adds}

-- what stands in the system as bytes is below 256
pub record HasBytes (s : OpSystem) : Type 0 where
  pub ranges : (p : Production) (range : ByteRange) → Contains s.grammar.productions.items p → Contains (symbols_of p.right) (Range range)
      → range.hi < 256
  pub literals : (rule : OpRule) (byte : ℕ) → Contains s.ops.items rule → Adds rule.op byte → byte < 256
