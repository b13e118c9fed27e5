-- The bytes among the letters of a sentence.
use Rattle.std.specs.Prelude.{ℕ, List, [], ◌∷◌}
use Rattle.text_base.specs.declared.letter.Letter.{Letter}
use Rattle.text_base.specs.declared.letter.Letter.TheVariants.{OfByte, OfToken}

-- the bytes among the letters, in their order; page tokens have none
abbrev pub bytes_in : List Letter → List ℕ
bytes_in [] = []
bytes_in (OfByte b ∷ w) = b ∷ bytes_in w
bytes_in (OfToken t ∷ w) = bytes_in w
