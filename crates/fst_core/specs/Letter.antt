-- What a machine puts out: bytes and page tokens.
use Rattle.std.specs.Prelude.{ℕ, ◌+◌, ◌%◌}
use Rattle.text_base.specs.declared.letter.Letter.{Letter}
use Rattle.text_base.specs.declared.letter.Letter.TheVariants.{OfByte, OfToken}
use Rattle.fst_core.specs.declared.out.Out.{Out}
use Rattle.fst_core.specs.declared.out.Out.TheVariants.{Same, Shift, Byte, Token}

-- what is put out as a byte is read
abbrev pub letter_of : ℕ → Out → Letter
letter_of byte Same = OfByte byte
letter_of byte (Shift by) = OfByte ((byte + by) % 256)
letter_of byte (Byte own) = OfByte own
letter_of byte (Token token) = OfToken token
