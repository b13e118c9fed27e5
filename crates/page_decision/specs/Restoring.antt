-- Nodes of a derivation of tokens with the bytes that were left out.
use Rattle.std.specs.Prelude.{ℕ, List, Option, Some, None, slice_get}
use Rattle.cfg_grammar.specs.declared.production.Production.{Production}
use Rattle.cfg_grammar.specs.declared.production.Right.{Right}
use Rattle.cfg_grammar.specs.declared.production.Right.TheVariants as right
use Rattle.cfg_grammar.specs.declared.symbol.Symbol.TheVariants.{Range}
use Rattle.derivations.specs.declared.node.Node.{Node}
use Rattle.derivations.specs.declared.node.Part.TheVariants.{Byte}
use Rattle.derivations.specs.declared.node.Parts.{Parts}
use Rattle.derivations.specs.declared.node.Parts.TheVariants.{One, Two}

-- the parts of a right side by those of the same without its bytes: the first byte of each range
abbrev pub with_bytes : Right → Parts → Parts
with_bytes (right.One (Range range)) parts = One (Byte range.lo)
with_bytes (right.Two (Range first) (Range second)) parts = Two (Byte first.lo) (Byte second.lo)
with_bytes (right.Two (Range first) b) (One p) = Two (Byte first.lo) p
with_bytes (right.Two a (Range second)) (One p) = Two p (Byte second.lo)
with_bytes other parts = parts

-- the same by a production; none changes nothing
abbrev pub with_bytes_of : Option Production → Parts → Parts
with_bytes_of None parts = parts
with_bytes_of (Some p) parts = with_bytes p.right parts

-- which production a node uses, and what stands for its symbols
abbrev pub use_of : Node → ℕ × Parts
use_of node = (node.production, node.parts)

-- the same with the bytes by the production of these that it uses
abbrev pub restored : List Production → Node → ℕ × Parts
restored productions node = (node.production, with_bytes_of (slice_get productions node.production) node.parts)
