-- What a list of nodes stands for: the derivation whose root is a node, or the one letter that a part is.
use Rattle.std.specs.Prelude.{◌≡◌, ℕ, ◌-◌, List, [], ◌∷◌, ◌++◌, Some, slice_get, length}
use Rattle.text_base.specs.declared.byte_range.ByteRange.{ByteRange}
use Rattle.text_base.specs.declared.page_token.PageToken.{PageToken}
use Rattle.text_base.specs.declared.numbers.Nt as nt
use Rattle.text_base.specs.declared.letter.Letter.{Letter}
use Rattle.text_base.specs.declared.letter.Letter.TheVariants.{OfByte, OfToken}
use Rattle.text_base.specs.ByteRange.{InRange}
use Rattle.cfg_grammar.specs.declared.symbol.Symbol.{Symbol}
use Rattle.cfg_grammar.specs.declared.symbol.Symbol.TheVariants as symbol
use Rattle.cfg_grammar.specs.declared.production.Right.TheVariants as right
use Rattle.cfg_grammar.specs.declared.production.Production.{Production}
use Rattle.derivations.specs.declared.node.Part.{Part}
use Rattle.derivations.specs.declared.node.Part.TheVariants.{Byte, Token, Inner}
use Rattle.derivations.specs.declared.node.Parts.TheVariants.{Empty, One, Two}
use Rattle.derivations.specs.declared.node.Node.{Node}

-- the part is a derivation of the sentence from the symbol, by these productions (Hopcroft and Ullman, 4.3)
pub data Stands (productions : List Production) (nodes : List Node) : Part → Symbol → List Letter → Type 0 where
  by_byte : (range : ByteRange) (byte : ℕ) → InRange range byte
      → Stands productions nodes (Byte byte) (symbol.Range range) (OfByte byte ∷ [])
  by_token : (token : PageToken) → Stands productions nodes (Token token) (symbol.Token token) (OfToken token ∷ [])
  by_empty : (n : ℕ) (node : Node) (left : nt.Nt) → slice_get nodes n ≡ Some node
      → slice_get productions node.production ≡ Some (record { left = left; right = right.Empty }) → node.parts ≡ Empty
      → Stands productions nodes (Inner n) (symbol.Nt left) []
  by_one : (n : ℕ) (node : Node) (left : nt.Nt) (a : Symbol) (p : Part) (w : List Letter) → slice_get nodes n ≡ Some node
      → slice_get productions node.production ≡ Some (record { left = left; right = right.One a }) → node.parts ≡ One p
      → Stands productions nodes p a w → Stands productions nodes (Inner n) (symbol.Nt left) w
  by_two : (n : ℕ) (node : Node) (left : nt.Nt) (a b : Symbol) (p q : Part) (v w : List Letter) → slice_get nodes n ≡ Some node
      → slice_get productions node.production ≡ Some (record { left = left; right = right.Two a b }) → node.parts ≡ Two p q
      → Stands productions nodes p a v → Stands productions nodes q b w → Stands productions nodes (Inner n) (symbol.Nt left) (v ++ w)

-- the root is the last node
abbrev pub root_of : List Node → Part
root_of nodes = Inner (length nodes - 1)

-- the last node is a derivation of the sentence from the nonterminal
abbrev pub IsDerivation : List Production → List Node → nt.Nt → List Letter → Type 0
IsDerivation productions nodes left w = Stands productions nodes (root_of nodes) (symbol.Nt left) w
