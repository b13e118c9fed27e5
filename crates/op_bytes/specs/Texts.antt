-- The texts and the bytes of the sets of a system, with operations as PHP has them, and all texts over its bytes for an operation in a
-- cycle. A system asks nothing of a request.
use Rattle.std.specs.Prelude.{ℕ, List, All}
use Rattle.cfg_grammar.specs.declared.symbol.Symbol.{Symbol}
use Rattle.op_system.specs.Rel.{Rel}
use Rattle.op_system.specs.declared.system.OpSystem.{OpSystem}
use Rattle.least_sets.specs.Forms.{Form}
use Rattle.least_sets.specs.Sets.{In, Byte}
use Rattle.least_sets.specs.Systems.{SystemRow}

-- the table of the system
abbrev pub RowOf : OpSystem → Symbol → Form Symbol → Type 0
RowOf s = SystemRow s.grammar.productions.items s.ops.items

-- a set of the system has the text
abbrev pub TextOf : OpSystem → Symbol → List ℕ → Type 0
TextOf s symbol text = In (RowOf s) Rel (λ w. ⊥) (λ bytes w. All bytes w) symbol text

-- a set of the system has the byte
abbrev pub ByteOf : OpSystem → Symbol → ℕ → Type 0
ByteOf s symbol byte = Byte (RowOf s) (λ w. ⊥) symbol byte
