-- What moves and ends offer that a machine hands out.
use Rattle.std.specs.Prelude.{◌≡◌, ◌==◌, ℕ, ◌≤◌, ◌<◌, ◌⊎◌, ◌↔◌, Bool, ◌&&◌, if◌then◌else◌, nat_le, min, max, List, [], ◌∷◌, map, Contains, All, IsTrue}
use Rattle.std.specs.List.{list_all}
use Rattle.fst_core.specs.Fits.{is_fixed}
use Rattle.fst_core.specs.declared.moves.TableMove.{TableMove}
use Rattle.fst_core.specs.declared.moves.TableEnd.{TableEnd}
use Rattle.std.specs.declared.vec.Vec.{Vec}
use Rattle.std.specs.declared.alloc.Global.{Global}
use Rattle.text_base.specs.declared.byte_range.ByteRange.{ByteRange}
use Rattle.text_base.specs.ByteRange.{InRange}
use Rattle.text_base.specs.declared.letter.Letter.{Letter}
use Rattle.fst_core.specs.Letter.{letter_of}
use Rattle.fst_core.specs.declared.out.Out.{Out}
use Rattle.fst_core.specs.declared.machine.Move.{Move}

-- one of the moves leads by the byte to the state and puts out the letters
abbrev pub Offers : {S : Type 0} → List (Move S) → ℕ → S → List Letter → Type 0
Offers {S} moves byte t letters =
    (m : Move S) × Contains moves m × InRange m.range byte × (m.to ≡ t) × (map (letter_of byte) m.out.items ≡ letters)

-- one of the outputs is these letters; none of them depends on a byte, so 0 stands for it
abbrev pub OffersLast : List (Vec Out Global) → List Letter → Type 0
OffersLast lasts letters = (out : Vec Out Global) × Contains lasts out × (map (letter_of 0) out.items ≡ letters)

-- the move's bytes lie in the range
abbrev pub IsWithin : {S : Type 0} → ByteRange → Move S → Type 0
IsWithin range m = (range.lo ≤ m.range.lo) × (m.range.hi ≤ range.hi)

-- the move of the table leads by the byte from the one state to the other and puts out the letters
abbrev pub StepBy : TableMove → ℕ → ℕ → ℕ → List Letter → Type 0
StepBy m s byte t letters = (m.from ≡ s) × InRange m.range byte × (m.to ≡ t) × (map (letter_of byte) m.out.items ≡ letters)

-- by the bytes of the range, what the move offers in the state is offered beside what was offered before
pub record OffersMore (old new : List (Move ℕ)) (m : TableMove) (s : ℕ) (range : ByteRange) : Type 0 where
  pub exact : (byte : ℕ) → InRange range byte → (t : ℕ) (letters : List Letter)
      → Offers new byte t letters ↔ (Offers old byte t letters ⊎ StepBy m s byte t letters)
  pub within : All (IsWithin range) old → All (IsWithin range) new
  pub given : (n : ℕ) → m.to < n → All (λ x. x.to < n) old → All (λ x. x.to < n) new

-- the end of the table is of the state and puts out the letters
abbrev pub StopOf : TableEnd → ℕ → List Letter → Type 0
StopOf e s letters = (e.state ≡ s) × (map (letter_of 0) e.out.items ≡ letters)

-- what the end offers in the state is offered beside what was offered before
pub record OffersLastMore (old new : List (Vec Out Global)) (e : TableEnd) (s : ℕ) : Type 0 where
  pub exact : (letters : List Letter) → OffersLast new letters ↔ (OffersLast old letters ⊎ StopOf e s letters)
  pub fixed : IsTrue (list_all is_fixed e.out.items) → All (λ out. IsTrue (list_all is_fixed out.items)) old
      → All (λ out. IsTrue (list_all is_fixed out.items)) new

-- what a move offers, as plain values: where its bytes begin and end, what it puts out, and where it leads
abbrev pub offer_of : Move ℕ → ℕ × ℕ × List Out × ℕ
offer_of m = (m.range.lo, m.range.hi, m.out.items, m.to)

-- a byte lies in both ranges
abbrev pub meets : ByteRange → ByteRange → Bool
meets a b = nat_le a.lo b.hi && nat_le b.lo a.hi

-- what the moves of a table offer in a state by the bytes of a range, in their order, each move once
abbrev pub offers_of : List TableMove → ℕ → ByteRange → List (ℕ × ℕ × List Out × ℕ)
offers_of [] s range = []
offers_of (m ∷ moves) s range =
    if m.from == s && meets m.range range
    then (max m.range.lo range.lo, min m.range.hi range.hi, m.out.items, m.to) ∷ offers_of moves s range
    else offers_of moves s range
