-- Moves by neighbouring bytes, as they are listed run by run.
use Rattle.std.specs.Prelude.{◌≡◌, ℕ, ◌+◌, ◌≤◌, ◌<◌, ◌⊎◌, ◌↔◌, List, [], ◌∷◌, ◌++◌, map, All}
use Rattle.text_base.specs.declared.byte_range.ByteRange.{ByteRange}
use Rattle.text_base.specs.ByteRange.{InRange}
use Rattle.text_base.specs.declared.letter.Letter.{Letter}
use Rattle.text_base.specs.declared.letter.Letter.TheVariants.{OfByte, OfToken}
use Rattle.text_base.specs.declared.page_token.PageToken.{PageToken}
use Rattle.fst_core.specs.Letter.{letter_of}
use Rattle.fst_core.specs.Offers.{Offers}
use Rattle.fst_core.specs.declared.machine.Move.{Move}
use Rattle.fst_core.specs.declared.out.Out.{Out}

-- the move's bytes stand from the first on and before the last
abbrev pub IsBetween : {S : Type 0} → ℕ → ℕ → Move S → Type 0
IsBetween lo n m = (lo ≤ m.range.lo) × (m.range.hi < n)

-- the bytes of a run more lead to the state, and each puts this out
pub record AddsRun {S : Type 0} (old new : List (Move S)) (run : ByteRange) (to : S) (out : List Out) : Type 0 where
  pub exact : (b : ℕ) (t : S) (letters : List Letter)
      → Offers new b t letters ↔ (Offers old b t letters ⊎ (InRange run b × (to ≡ t) × (map (letter_of b) out ≡ letters)))
  pub within : (lo : ℕ) → lo ≤ run.lo → All (IsBetween lo run.lo) old → All (IsBetween lo (run.hi + 1)) new

-- the tokens, and the byte behind them
abbrev pub echo_letters : List PageToken → ℕ → List Letter
echo_letters tokens byte = map OfToken tokens ++ OfByte byte ∷ []

-- by the bytes before n the moves lead where each byte leads, and put out its tokens and the byte itself
pub record AreMovesBelow {S : Type 0} (next : ℕ → S) (puts : ℕ → List PageToken) (lo n : ℕ) (moves : List (Move S)) : Type 0 where
  pub exact : (b : ℕ) → lo ≤ b → b < n → (t : S) (letters : List Letter)
      → Offers moves b t letters ↔ ((t ≡ next b) × (letters ≡ echo_letters (puts b) b))
  pub within : All (IsBetween lo n) moves
