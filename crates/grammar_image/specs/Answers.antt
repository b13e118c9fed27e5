-- What the machine answered to what a chart asked.
use Rattle.std.specs.Prelude.{◌≡◌, ◌≤◌, ◌⊎◌, ◌↔◌, ℕ, List, map, Some, slice_get, Contains, All}
use Rattle.text_base.specs.declared.byte_range.ByteRange.{ByteRange}
use Rattle.text_base.specs.declared.letter.Letter.{Letter}
use Rattle.text_base.specs.ByteRange.{InRange}
use Rattle.cfg_grammar.specs.declared.symbol.Symbol.TheVariants.{Range}
use Rattle.cfg_grammar.specs.declared.production.Production.{Production}
use Rattle.fst_core.specs.Letter.{letter_of}
use Rattle.fst_core.specs.declared.machine.Move.{Move}
use Rattle.fst_core.specs.Offers.{Offers, IsWithin}
use Rattle.numbered_sets.specs.Numbers.{Keeps}
use Rattle.grammar_chart.specs.declared.keys.Passage.{Passage}
use Rattle.grammar_chart.specs.declared.keys.Reading.{Reading}
use Rattle.grammar_chart.specs.declared.chart.Chart.{Chart}
use Rattle.grammar_chart.specs.Kept.{IsChartOf, IsCounted}

module _ {S : Type 0} (steps : S → ℕ → S → List Letter → Type 0) where
  -- the reading is a step of the machine between the states with its numbers, by each byte of its part of the range
  pub record IsReading (states : List S) (r : Reading) : Type 0 where
    pub low : r.asked.lo ≤ r.range.lo
    pub high : r.range.hi ≤ r.asked.hi
    pub source : S
    pub is_source : slice_get states r.from ≡ Some source
    pub target : S
    pub is_target : slice_get states r.to ≡ Some target
    pub step : (byte : ℕ) → InRange r.range byte → steps source byte target (map (letter_of byte) r.out.items)

  -- each step by a byte of the range is put out by some reading
  abbrev pub IsAnsweredBy : S → List S → List Passage → List Reading → ByteRange → ℕ → Type 0
  IsAnsweredBy s states fs rs range i =
      (byte : ℕ) → InRange range byte → (t : S) (letters : List Letter) → steps s byte t letters
      → (r : Reading) × Contains rs r × (r.asked ≡ range) × (r.from ≡ i) × (slice_get states r.to ≡ Some t)
      × Contains fs (record { symbol = Range range; from = i; to = r.to }) × (b : ℕ) × InRange r.range b
      × (map (letter_of b) r.out.items ≡ letters)

  -- the same of the state with the number, whichever it is
  abbrev pub IsAnswered : List S → List Passage → List Reading → ByteRange → ℕ → Type 0
  IsAnswered states fs rs range i = (s : S) → slice_get states i ≡ Some s → IsAnsweredBy s states fs rs range i

  -- the same, and there is such a state
  abbrev pub IsAnsweredAt : List S → List Passage → List Reading → ByteRange → ℕ → Type 0
  IsAnsweredAt states fs rs range i = (s : S) × (slice_get states i ≡ Some s) × IsAnsweredBy s states fs rs range i

-- a move is noted as a reading
pub record IsNoted {S : Type 0} (states : List S) (fs : List Passage) (rs : List Reading) (range : ByteRange) (from : ℕ) (m : Move S) :
    Type 0 where
  pub reading : Reading
  pub has : Contains rs reading
  pub asked : reading.asked ≡ range
  pub from_it : reading.from ≡ from
  pub part : reading.range ≡ m.range
  pub out : reading.out.items ≡ m.out.items
  pub target : slice_get states reading.to ≡ Some m.to
  pub passed : Contains fs (record { symbol = Range range; from = from; to = reading.to })

-- what stays, and what is added, as a move is noted
pub record NotesOne {S : Type 0} (states after : List S) (old new : Chart) (range : ByteRange) (from : ℕ) (m : Move S) : Type 0 where
  pub chart : (ps : List Production) → IsChartOf ps old → IsChartOf ps new
  pub from_kept : new.from ≡ old.from
  pub entries : new.entries.keys ≡ old.entries.keys
  pub counted : IsCounted old new 0 0 0
  pub states_kept : Keeps states after
  pub states_only : (s : S) → Contains after s → Contains states s ⊎ (s ≡ m.to)
  pub passages : Keeps old.passages.keys new.passages.keys
  pub readings : (r : Reading) → Contains old.readings.items r → Contains new.readings.items r
  pub only : (r : Reading) → Contains new.readings.items r
      → Contains old.readings.items r
      ⊎ ((r.asked ≡ range) × (r.from ≡ from) × (r.range ≡ m.range) × (r.out.items ≡ m.out.items) × (slice_get after r.to ≡ Some m.to))
  pub noted : IsNoted after new.passages.keys new.readings.items range from m

-- the same of all moves
pub record NotesAll {S : Type 0} (states after : List S) (old new : Chart) (range : ByteRange) (from : ℕ) (moves : List (Move S)) :
    Type 0 where
  pub chart : (ps : List Production) → IsChartOf ps old → IsChartOf ps new
  pub from_kept : new.from ≡ old.from
  pub entries : new.entries.keys ≡ old.entries.keys
  pub counted : IsCounted old new 0 0 0
  pub states_kept : Keeps states after
  pub states_only : (s : S) → Contains after s → Contains states s ⊎ ((m : Move S) × Contains moves m × (s ≡ m.to))
  pub passages : Keeps old.passages.keys new.passages.keys
  pub readings : (r : Reading) → Contains old.readings.items r → Contains new.readings.items r
  pub only : (r : Reading) → Contains new.readings.items r
      → Contains old.readings.items r
      ⊎ ((m : Move S) × Contains moves m × (r.asked ≡ range) × (r.from ≡ from) × (r.range ≡ m.range) × (r.out.items ≡ m.out.items)
      × (slice_get after r.to ≡ Some m.to))
  pub noted : (m : Move S) → Contains moves m → IsNoted after new.passages.keys new.readings.items range from m

-- the machine was asked by a range in a state
pub record Asks {S : Type 0} (steps : S → ℕ → S → List Letter → Type 0) (gives : S → Type 0) (states after : List S) (old new : Chart)
    (range : ByteRange) (from : ℕ) : Type 0 where
  pub source : S
  pub is_source : slice_get states from ≡ Some source
  pub moves : List (Move S)
  pub exact : (byte : ℕ) → InRange range byte → (t : S) (letters : List Letter) → Offers moves byte t letters ↔ steps source byte t letters
  pub within : All (IsWithin range) moves
  pub given : All (λ (m : Move S). gives m.to) moves
  pub notes : NotesAll states after old new range from moves
