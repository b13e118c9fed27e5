-- The pieces that stand for the nodes of a derivation.
use Rattle.std.specs.Prelude.{◌≡◌, ◌≤◌, ℕ, List, [], ◌∷◌, ◌++◌, length, Option, Some, None, slice_get, slice_index_or}
use Rattle.text_base.specs.declared.letter.Letter.{Letter}
use Rattle.cfg_grammar.specs.declared.symbol.Symbol.{Symbol}
use Rattle.cfg_grammar.specs.declared.production.Production.{Production}
use Rattle.derivations.specs.declared.node.Part.{Part}
use Rattle.derivations.specs.declared.node.Part.TheVariants.{Byte, Token, Inner}
use Rattle.derivations.specs.declared.node.Parts.{Parts}
use Rattle.derivations.specs.declared.node.Parts.TheVariants.{Empty, One, Two}
use Rattle.derivations.specs.declared.node.Node.{Node}
use Rattle.derivations.specs.Stands.{Stands}
use Rattle.derivations.specs.declared.fork.Piece.{Piece}
use Rattle.derivations.specs.declared.fork.Piece.TheVariants as piece
use Rattle.derivations.specs.declared.fork.Fork.{Fork}
use Rattle.derivations.specs.Bytes.{bytes_in}
use Rattle.derivations.specs.Forks.{AreForks, maybe_bytes, maybe_rank}

-- the piece of a part, where those of the nodes before are known
abbrev pub piece_of_part : List (Option Piece) → Part → Option Piece
piece_of_part pieces (Byte b) = Some (piece.Byte b)
piece_of_part pieces (Token t) = None
piece_of_part pieces (Inner n) = slice_index_or pieces n None

-- two pieces make a fork; where one of them is nothing, the other stands for both
abbrev pub Joins : List Fork → List Fork → Option Piece → Option Piece → Option Piece → Type 0
Joins old new None q made = (new ≡ old) × (made ≡ q)
Joins old new (Some p) None made = (new ≡ old) × (made ≡ Some p)
Joins old new (Some p) (Some q) made = (new ≡ old ++ (record { first = p; second = q }) ∷ []) × (made ≡ Some (piece.Fork (length old)))

-- what stands for the parts of a node, and the fork that is put behind the others for it, if one is
abbrev pub Makes : List Fork → List Fork → List (Option Piece) → Parts → Option Piece → Type 0
Makes old new pieces Empty made = (new ≡ old) × (made ≡ None)
Makes old new pieces (One a) made = (new ≡ old) × (made ≡ piece_of_part pieces a)
Makes old new pieces (Two a b) made = Joins old new (piece_of_part pieces a) (piece_of_part pieces b) made

-- the pieces stand for the first nodes: each has the bytes of the sentence that its node is a derivation of
pub record ArePieces (nodes : List Node) (forks : List Fork) (pieces : List (Option Piece)) : Type 0 where
  pub forks_are : AreForks forks
  pub within : (n : ℕ) (o : Option Piece) → slice_get pieces n ≡ Some o → maybe_rank o ≤ length forks
  pub right : (productions : List Production) (n : ℕ) (o : Option Piece) (a : Symbol) (w : List Letter) → slice_get pieces n ≡ Some o
      → Stands productions nodes (Inner n) a w → maybe_bytes forks o ≡ bytes_in w
