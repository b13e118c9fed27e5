-- What symbols put out.
use Rattle.std.specs.Prelude.{◌≡◌, ◌↔◌, ◌+◌, ◌%◌, ℕ, List, map}
use Rattle.std.specs.List.{AllZip}
use Rattle.text_base.specs.declared.byte_range.ByteRange.{ByteRange}
use Rattle.text_base.specs.declared.letter.Letter.{Letter}
use Rattle.text_base.specs.declared.letter.Letter.TheVariants.{OfByte, OfToken}
use Rattle.text_base.specs.ByteRange.{InRange}
use Rattle.cfg_grammar.specs.declared.symbol.Symbol.{Symbol}
use Rattle.cfg_grammar.specs.declared.symbol.Symbol.TheVariants.{Range, Token, Nt}
use Rattle.fst_core.specs.declared.out.Out.{Out}
use Rattle.fst_core.specs.Letter.{letter_of}

-- the symbol is no nonterminal, and derives the letter
abbrev pub Puts : Symbol → Letter → Type 0
Puts (Range range) (OfByte byte) = InRange range byte
Puts (Range range) (OfToken token) = ⊥
Puts (Token token) (OfByte byte) = ⊥
Puts (Token token) (OfToken own) = token ≡ own
Puts (Nt a) letter = ⊥

-- the byte comes of one of the range by adding a number, modulo 256
abbrev pub ByOne : ByteRange → ℕ → ℕ → Type 0
ByOne range by c = (b : ℕ) × InRange range b × ((b + by) % 256 ≡ c)

-- the symbols put out exactly what is put out as some byte of the range is read
abbrev pub IsOutput : ByteRange → List Out → List Symbol → Type 0
IsOutput range out symbols = (w : List Letter) → AllZip Puts symbols w ↔ ((b : ℕ) × InRange range b × (map (letter_of b) out ≡ w))

-- what is put out depends on no byte
abbrev pub AreFixed : List Out → Type 0
AreFixed out = (a b : ℕ) → map (letter_of a) out ≡ map (letter_of b) out
