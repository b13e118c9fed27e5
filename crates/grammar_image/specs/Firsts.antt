-- The first bytes of the sentences of nodes.
use Rattle.std.specs.Prelude.{◌≡◌, ℕ, List, Option, Some, None, slice_get, slice_index_or}
use Rattle.text_base.specs.declared.letter.Letter.{Letter}
use Rattle.cfg_grammar.specs.declared.symbol.Symbol.{Symbol}
use Rattle.cfg_grammar.specs.declared.production.Production.{Production}
use Rattle.derivations.specs.declared.node.Part.{Part}
use Rattle.derivations.specs.declared.node.Part.TheVariants.{Byte, Token, Inner}
use Rattle.derivations.specs.declared.node.Parts.{Parts}
use Rattle.derivations.specs.declared.node.Parts.TheVariants.{Empty, One, Two}
use Rattle.derivations.specs.declared.node.Node.{Node}
use Rattle.derivations.specs.Stands.{Stands}
use Rattle.derivations.specs.Bytes.{bytes_in}

-- the one byte, or else the other
abbrev pub either_byte : Option ℕ → Option ℕ → Option ℕ
either_byte None other = other
either_byte (Some byte) other = Some byte

-- the first byte of a part, where those of the nodes before are known
abbrev pub first_of_part : List (Option ℕ) → Part → Option ℕ
first_of_part firsts (Byte b) = Some b
first_of_part firsts (Token t) = None
first_of_part firsts (Inner n) = slice_index_or firsts n None

-- the first byte of all parts
abbrev pub first_of_parts : List (Option ℕ) → Parts → Option ℕ
first_of_parts firsts Empty = None
first_of_parts firsts (One a) = first_of_part firsts a
first_of_parts firsts (Two a b) = either_byte (first_of_part firsts a) (first_of_part firsts b)

-- each has the first byte of the sentence that its node is a derivation of, if there is one
abbrev pub AreFirsts : List Node → List (Option ℕ) → Type 0
AreFirsts nodes firsts =
    (qs : List Production) (n : ℕ) (o : Option ℕ) (a : Symbol) (w : List Letter) → slice_get firsts n ≡ Some o
    → Stands qs nodes (Inner n) a w → o ≡ slice_get (bytes_in w) 0
