-- Derivations as lists of nodes: one of `a` and a blank, and near misses.
use Rattle.std.proofs.Common.{◌≡◌, true, false, List, [], ◌∷◌, refl, arith}
use Rattle.text_base.specs.declared.byte_range.ByteRange.{ByteRange}
use Rattle.text_base.specs.declared.letter.Letter.TheVariants.{OfByte, OfToken}
use Rattle.text_base.specs.declared.page_token.PageToken.TheVariants.{Blank}
use Rattle.cfg_grammar.specs.declared.symbol.Symbol.TheVariants as symbol
use Rattle.cfg_grammar.specs.declared.production.Right.TheVariants as right
use Rattle.cfg_grammar.specs.declared.production.Production.{Production}
use Rattle.derivations.specs.declared.node.Part.TheVariants.{Byte, Token, Inner}
use Rattle.derivations.specs.declared.node.Parts.TheVariants.{Empty, One, Two}
use Rattle.derivations.specs.declared.node.Node.{Node}
use Rattle.derivations.specs.Nodes.{most, part_length, parts_length, parts_below}
use Rattle.derivations.specs.Stands.{Stands, IsDerivation}
use Rattle.derivations.specs.Bytes.{bytes_in}

abbrev letter : ByteRange
letter = record { lo = 97; hi = 97; ordered = omega arith }

-- 0 is `a` and then 1, which is a blank
abbrev small : List Production
small =
    record { left = record { 0 = 0 }; right = right.Two (symbol.Range letter) (symbol.Nt (record { 0 = 1 })) }
    ∷ record { left = record { 0 = 1 }; right = right.One (symbol.Token Blank) }
    ∷ []

abbrev nodes : List Node
nodes = record { production = 1; parts = One (Token Blank); length = 0 } ∷ record { production = 0; parts = Two (Byte 97) (Inner 0); length = 1 } ∷ []

derived : IsDerivation small nodes (record { 0 = 0 }) (OfByte 97 ∷ OfToken Blank ∷ [])
derived =
    Stands.by_two 1 (record { production = 0; parts = Two (Byte 97) (Inner 0); length = 1 }) (record { 0 = 0 }) (symbol.Range letter) (symbol.Nt (record { 0 = 1 })) (Byte 97) (Inner 0) (OfByte 97 ∷ []) (OfToken Blank ∷ []) refl refl refl
    (Stands.by_byte letter 97 (omega arith, omega arith))
    (Stands.by_one 0 (record { production = 1; parts = One (Token Blank); length = 0 }) (record { 0 = 1 }) (symbol.Token Blank) (Token Blank) (OfToken Blank ∷ []) refl refl refl (Stands.by_token Blank))

-- its one byte, and its length
one_byte : bytes_in (OfByte 97 ∷ OfToken Blank ∷ []) ≡ 97 ∷ []
one_byte = refl

one_long : part_length nodes (Inner 1) ≡ 1
one_long = refl

-- a node may not name itself, nor a node that is not there; a length stops at the largest number
itself : parts_below 1 (Two (Byte 97) (Inner 1)) ≡ false
itself = refl

before : parts_below 1 (Two (Byte 97) (Inner 0)) ≡ true
before = refl

stops : parts_length (record { production = 0; parts = Empty; length = most } ∷ []) (Two (Inner 0) (Byte 97)) ≡ most
stops = refl
