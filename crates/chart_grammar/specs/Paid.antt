-- What pays for the productions of an image: the letters that the machine puts out.
use Rattle.std.specs.Prelude.{◌≡◌, ◌+◌, ◌<◌, ◌⊎◌, ◌↔◌, ℕ, suc, List, map, length, Some, slice_get, Contains, All}
use Rattle.std.specs.List.{AllZip}
use Rattle.text_base.specs.declared.numbers.Nt as nt
use Rattle.text_base.specs.declared.letter.Letter.{Letter}
use Rattle.text_base.specs.ByteRange.{InRange}
use Rattle.cfg_grammar.specs.declared.symbol.Symbol.{Symbol}
use Rattle.cfg_grammar.specs.declared.symbol.Symbol.TheVariants.{Range, Nt}
use Rattle.fst_core.specs.Letter.{letter_of}
use Rattle.grammar_chart.specs.declared.keys.Passage.{Passage}
use Rattle.grammar_chart.specs.declared.keys.Reading.{Reading}
use Rattle.chart_grammar.specs.declared.fronts.Front.{Front}
use Rattle.chart_grammar.specs.declared.lifts.Last.{Last}
use Rattle.chart_grammar.specs.declared.saying.Said.{Said}
use Rattle.chart_grammar.specs.declared.saying.Head.{Head}
use Rattle.chart_grammar.specs.declared.saying.Outputs.{Outputs}
use Rattle.chart_grammar.specs.Fronts.{StandsFor, IsFrontOf}
use Rattle.chart_grammar.specs.Outs.{Puts}

-- letters that the machine puts out: as the passage with this number is read by a byte; at an end, in this state, behind the
-- passage with this number
pub data Charge : Type 0 where
  reads : ℕ → ℕ → List Letter → Charge
  ends : ℕ → ℕ → List Letter → Charge

-- the letters that this is about
abbrev pub letters_of : Charge → List Letter
letters_of (reads k byte letters) = letters
letters_of (ends k state letters) = letters

-- the nonterminal that may become the letters
abbrev pub left_by : Charge → ℕ
left_by (reads k byte letters) = suc k
left_by (ends k state letters) = 0

-- the nonterminal before the letters
abbrev pub behind_by : Charge → ℕ
behind_by (reads k byte letters) = 0
behind_by (ends k state letters) = suc k

-- the symbols put out just the letters
abbrev pub Spells : List Symbol → List Letter → Type 0
Spells symbols letters = (w : List Letter) → AllZip Puts symbols w ↔ (w ≡ letters)

module _ (from : nt.Nt) (fs : List Passage) (rs : List Reading) (ls : List Last) where
  -- the machine puts out so
  abbrev pub IsCharge : Charge → Type 0
  IsCharge (reads k byte letters) =
      (r : Reading) × Contains rs r × (slice_get fs k ≡ Some (record { symbol = Range r.asked; from = r.from; to = r.to }))
      × InRange r.range byte × (map (letter_of byte) r.out.items ≡ letters)
  IsCharge (ends k state letters) =
      (l : Last) × Contains ls l × (l.state ≡ state) × (slice_get fs k ≡ Some (record { symbol = Nt from; from = 0; to = state }))
      × (map (letter_of 0) l.out.items ≡ letters)

  module _ (base : ℕ) (fr : List Front) where
    -- what is said is one text that the machine puts out
    pub record IsSaid (s : Said) : Type 0 where
      pub charge : Charge
      pub is_charge : IsCharge charge
      pub symbols : List Symbol
      pub spells : Spells symbols (letters_of charge)
      pub stands : StandsFor base fr s.front symbols
      pub is_left : s.left ≡ left_by charge
      pub is_behind : s.behind ≡ behind_by charge

    -- by the least byte of a range that stays whole the machine puts out as many letters as there are symbols
    pub record IsWide (h : Head) (front : ℕ) : Type 0 where
      pub number : ℕ
      pub letters : List Letter
      pub is_charge : IsCharge (reads number h.lo letters)
      pub symbols : List Symbol
      pub stands : StandsFor base fr front symbols
      pub long : length symbols ≡ length letters
      pub some : 0 < length letters
      pub is_left : h.left ≡ suc number

    -- the front is one of a text that the machine puts out
    pub record OfText (n : ℕ) : Type 0 where
      pub charge : Charge
      pub is_charge : IsCharge charge
      pub symbols : List Symbol
      pub spells : Spells symbols (letters_of charge)
      pub front_of : IsFrontOf base fr n symbols

    -- the front is one of symbols of which a range stays whole
    pub record OfWide (heads : List Head) (wide : List ℕ) (n : ℕ) : Type 0 where
      pub place : ℕ
      pub head : Head
      pub front : ℕ
      pub is_head : slice_get heads place ≡ Some head
      pub is_front : slice_get wide place ≡ Some front
      pub paid : IsWide head front
      pub front_of : IsFrontOf base fr n paid.symbols

  -- letters pay for all that is written but the first productions, which are so many
  pub record IsPaid (base before : ℕ) (o : Outputs) : Type 0 where
    pub said : All (IsSaid base o.fronts.keys) o.said.keys
    pub long : length o.wide.items ≡ length o.heads.keys
    pub wide : (n : ℕ) (h : Head) (f : ℕ) → slice_get o.heads.keys n ≡ Some h → slice_get o.wide.items n ≡ Some f
        → IsWide base o.fronts.keys h f
    pub fronts : (n : ℕ) → n < length o.fronts.keys
        → OfText base o.fronts.keys n ⊎ OfWide base o.fronts.keys o.heads.keys o.wide.items n
    pub count : length o.out.items ≡ before + (length o.said.keys + length o.heads.keys)

-- what is written for a reading is paid for by its letters
abbrev pub ReadingPays : List Passage → ℕ → Reading → Outputs → Outputs → Type 0
ReadingPays fs base r old new = (from : nt.Nt) (rs : List Reading) (ls : List Last) (before : ℕ) → Contains rs r
    → IsPaid from fs rs ls base before old → IsPaid from fs rs ls base before new

-- the same for all of some readings
abbrev pub ReadingsPay : List Passage → ℕ → List Reading → Outputs → Outputs → Type 0
ReadingsPay fs base readings old new = (from : nt.Nt) (rs : List Reading) (ls : List Last) (before : ℕ)
    → ((r : Reading) → Contains readings r → Contains rs r)
    → IsPaid from fs rs ls base before old → IsPaid from fs rs ls base before new

-- what is written for an end is paid for by its letters
abbrev pub EndPays : nt.Nt → List Passage → ℕ → Last → Outputs → Outputs → Type 0
EndPays from fs base l old new = (rs : List Reading) (ls : List Last) (before : ℕ) → Contains ls l
    → IsPaid from fs rs ls base before old → IsPaid from fs rs ls base before new

-- the same for all of some ends
abbrev pub EndsPay : nt.Nt → List Passage → ℕ → List Last → Outputs → Outputs → Type 0
EndsPay from fs base lasts old new = (rs : List Reading) (ls : List Last) (before : ℕ) → ((l : Last) → Contains lasts l → Contains ls l)
    → IsPaid from fs rs ls base before old → IsPaid from fs rs ls base before new
