-- Derivations as lists of nodes, each behind the nodes that it names.
use Rattle.std.specs.Prelude.{ℕ, ◌+◌, Bool, true, ◌&&◌, List, min, Option, Some, None, nat_lt, slice_get}
use Rattle.derivations.specs.declared.node.Part.{Part}
use Rattle.derivations.specs.declared.node.Part.TheVariants.{Byte, Token, Inner}
use Rattle.derivations.specs.declared.node.Parts.{Parts}
use Rattle.derivations.specs.declared.node.Parts.TheVariants.{Empty, One, Two}
use Rattle.derivations.specs.declared.node.Node.{Node}

-- the most bytes that a length says
abbrev pub most : ℕ
most = 18446744073709551615

-- the bytes of the sentence of a part, at most that many
abbrev pub length_of : Option Node → ℕ
length_of None = 0
length_of (Some node) = node.length

-- the length of a part: 1 for a byte, 0 for a page token, that of its node elsewhere
abbrev pub part_length : List Node → Part → ℕ
part_length nodes (Byte b) = 1
part_length nodes (Token t) = 0
part_length nodes (Inner n) = length_of (slice_get nodes n)

-- the length of all parts, at most the most
abbrev pub parts_length : List Node → Parts → ℕ
parts_length nodes Empty = 0
parts_length nodes (One a) = part_length nodes a
parts_length nodes (Two a b) = min (part_length nodes a + part_length nodes b) most

-- the part is a letter, or a node before this place
abbrev pub part_below : ℕ → Part → Bool
part_below n (Byte b) = true
part_below n (Token t) = true
part_below n (Inner m) = nat_lt m n

-- each part is a letter or a node before this place
abbrev pub parts_below : ℕ → Parts → Bool
parts_below n Empty = true
parts_below n (One a) = part_below n a
parts_below n (Two a b) = part_below n a && part_below n b
