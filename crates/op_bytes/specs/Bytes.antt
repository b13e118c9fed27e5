-- The byte sets of a system.
use Rattle.std.specs.Prelude.{◌≡◌, ◌<◌, ◌↔◌, ℕ, Bool, List, length, Some, slice_get}
use Rattle.text_base.specs.declared.numbers.Nt as nt
use Rattle.text_base.specs.ByteSet.{Has}
use Rattle.cfg_grammar.specs.declared.symbol.Symbol.TheVariants.{Nt}
use Rattle.op_system.specs.declared.system.OpSystem.{OpSystem}
use Rattle.op_bytes.specs.Texts.{ByteOf}

-- each nonterminal has its least set of bytes
pub record AreByteSets (s : OpSystem) (sets : List (List Bool)) : Type 0 where
  pub size : length sets ≡ s.grammar.count
  pub exact : (a : nt.Nt) (set : List Bool) → slice_get sets a.0 ≡ Some set → (byte : ℕ) → byte < 256 → Has set byte ↔ ByteOf s (Nt a) byte
