-- What each list of nodes keeps, and the law of derivations.
use Rattle.std.specs.Prelude.{◌≡◌, ℕ, ◌+◌, List, [], ◌∷◌, ◌++◌, min, Some, slice_get, IsTrue}
use Rattle.text_base.specs.declared.letter.Letter.{Letter}
use Rattle.text_base.specs.declared.letter.Letter.TheVariants.{OfByte, OfToken}
use Rattle.text_base.specs.declared.numbers.Nt as nt
use Rattle.cfg_grammar.specs.declared.symbol.Symbol.{Symbol}
use Rattle.cfg_grammar.specs.declared.symbol.Symbol.TheVariants as symbol
use Rattle.cfg_grammar.specs.declared.production.Production.{Production}
use Rattle.cfg_grammar.specs.Derives.{Derives}
use Rattle.derivations.specs.declared.node.Part.{Part}
use Rattle.derivations.specs.declared.node.Parts.{Parts}
use Rattle.derivations.specs.declared.node.Node.{Node}
use Rattle.derivations.specs.Nodes.{most, part_length, parts_length, parts_below}
use Rattle.derivations.specs.Stands.{Stands, IsDerivation}

-- each node names nodes before it, and has the length of its sentence
pub record AreLawful (nodes : List Node) : Type 0 where
  pub before : (n : ℕ) (node : Node) → slice_get nodes n ≡ Some node → IsTrue (parts_below n node.parts)
  pub lengths : (n : ℕ) (node : Node) → slice_get nodes n ≡ Some node → node.length ≡ parts_length nodes node.parts

-- one node more, with these parts
abbrev pub Grows : List Node → List Node → ℕ → Parts → Type 0
Grows old new production parts = new ≡ old ++ (record { production = production; parts = parts; length = parts_length old parts }) ∷ []

-- the bytes among letters
abbrev pub byte_count : List Letter → ℕ
byte_count [] = 0
byte_count (OfByte b ∷ w) = 1 + byte_count w
byte_count (OfToken t ∷ w) = byte_count w

-- what a list of nodes is a derivation of, the productions derive; a node's length is that of its sentence, or the most
abbrev pub DerivationsDerive : Type 0
DerivationsDerive = (productions : List Production) (nodes : List Node) (left : nt.Nt) (w : List Letter)
    → IsDerivation productions nodes left w → Derives productions (symbol.Nt left) w

-- in a lawful list the length of a part is the number of bytes of its sentence, or the most
abbrev pub LengthsAreRight : Type 0
LengthsAreRight = (productions : List Production) (nodes : List Node) (p : Part) (a : Symbol) (w : List Letter) → AreLawful nodes
    → Stands productions nodes p a w → part_length nodes p ≡ min (byte_count w) most
