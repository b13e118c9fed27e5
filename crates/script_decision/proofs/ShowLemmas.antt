-- The length that a derivation has is that of the bytes of its sentence.
use Rattle.std.proofs.Common.{◌≡◌, List, [], ◌∷◌, length, refl, arith}
use Rattle.text_base.specs.declared.letter.Letter.{Letter}
use Rattle.text_base.specs.declared.letter.Letter.TheVariants.{OfByte, OfToken}
use Rattle.derivations.specs.Lawful.{byte_count}
use Rattle.derivations.specs.Bytes.{bytes_in}

pub counted_bytes : (w : List Letter) → byte_count w ≡ length (bytes_in w)
counted_bytes [] = refl
counted_bytes (OfByte b ∷ w) = let rest : byte_count w ≡ length (bytes_in w) = counted_bytes w in omega arith
counted_bytes (OfToken t ∷ w) = counted_bytes w
