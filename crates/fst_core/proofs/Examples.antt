-- The definitions on small machines, with near misses.
use Rattle.std.proofs.Common.{◌≡◌, ℕ, Bool, true, false, List, [], ◌∷◌, refl}
use Rattle.text_base.specs.declared.page_token.PageToken.TheVariants.{Blank}
use Rattle.text_base.specs.declared.letter.Letter.{Letter}
use Rattle.text_base.specs.declared.letter.Letter.TheVariants.{OfByte, OfToken}
use Rattle.fst_core.specs.Letter.{letter_of}
use Rattle.fst_core.specs.Fits.{is_fixed}
use Rattle.fst_core.specs.Runs.{Runs, Relates, Gives}
use Rattle.fst_core.specs.declared.out.Out.TheVariants.{Same, Shift, Byte, Token}

-- the byte that is read, another one, and one that goes round at 256
same : letter_of 65 Same ≡ OfByte 65
same = refl

shifted : letter_of 65 (Shift 32) ≡ OfByte 97
shifted = refl

shifted_round : letter_of 250 (Shift 10) ≡ OfByte 4
shifted_round = refl

own : letter_of 65 (Byte 7) ≡ OfByte 7
own = refl

token : letter_of 65 (Token Blank) ≡ OfToken Blank
token = refl

-- what stands in an end depends on no byte
same_not_fixed : is_fixed Same ≡ false
same_not_fixed = refl

byte_fixed : is_fixed (Byte 7) ≡ true
byte_fixed = refl

-- a machine that puts out each byte twice, and a 33 at the end
abbrev twice : Bool → ℕ → Bool → List Letter → Type 0
twice s byte t out = (t ≡ true) × (out ≡ OfByte byte ∷ OfByte byte ∷ [])

abbrev bang : Bool → List Letter → Type 0
bang s out = (s ≡ true) × (out ≡ OfByte 33 ∷ [])

twice_run : Runs twice false (97 ∷ []) true (OfByte 97 ∷ OfByte 97 ∷ [])
twice_run = (true, OfByte 97 ∷ OfByte 97 ∷ [], [], (refl, refl), (refl, refl), refl)

twice_whole : Relates false twice bang (97 ∷ []) (OfByte 97 ∷ OfByte 97 ∷ OfByte 33 ∷ [])
twice_whole = (true, OfByte 97 ∷ OfByte 97 ∷ [], OfByte 33 ∷ [], twice_run, (refl, refl), refl)

twice_front : Gives twice bang false (97 ∷ []) (OfByte 97 ∷ OfByte 97 ∷ OfByte 33 ∷ [])
twice_front = (true, OfByte 97 ∷ OfByte 97 ∷ [], OfByte 33 ∷ [], (refl, refl), (refl, refl), refl)

-- the empty text may not end where the machine begins
twice_nothing : (out : List Letter) → Gives twice bang false [] out → ⊥
twice_nothing out g = let e : false ≡ true = g.0 in cc

-- without the letter of the end
twice_no_end : Gives twice bang true [] [] → ⊥
twice_no_end g = let e : [] ≡ OfByte 33 ∷ [] = g.1 in cc
