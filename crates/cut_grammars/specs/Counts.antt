-- A machine that counts the bytes of a text up to a number, and copies them.
use Rattle.std.specs.Prelude.{◌≡◌, ◌<◌, ◌+◌, ℕ, List, [], ◌∷◌}
use Rattle.text_base.specs.declared.letter.Letter.{Letter}
use Rattle.text_base.specs.declared.letter.Letter.TheVariants.{OfByte}

-- behind fewer bytes than there may be, it reads one more, and puts it out
abbrev pub CountStep : ℕ → ℕ → ℕ → ℕ → List Letter → Type 0
CountStep most s byte t letters = (s < most) × (t ≡ s + 1) × (letters ≡ OfByte byte ∷ [])

-- behind any number of them the text may end, and nothing more is put out
abbrev pub CountEnd : ℕ → List Letter → Type 0
CountEnd s letters = letters ≡ []
