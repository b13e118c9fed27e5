-- What the writers write.
use Rattle.std.specs.Prelude.{◌≡◌, ℕ, List, None, Contains, IsTrue, map}
use Rattle.text_base.specs.declared.byte_range.ByteRange.{ByteRange}
use Rattle.text_base.specs.declared.numbers.Nt as nt
use Rattle.text_base.specs.ByteRange.{InRange}
use Rattle.cfg_grammar.specs.declared.symbol.Symbol.TheVariants.{Range, Nt}
use Rattle.cfg_grammar.specs.declared.production.Production.{Production}
use Rattle.fst_core.specs.declared.out.Out.{Out}
use Rattle.fst_core.specs.Letter.{letter_of}
use Rattle.numbered_sets.specs.Numbers.{Keeps}
use Rattle.grammar_chart.specs.declared.keys.Begun.{Begun}
use Rattle.grammar_chart.specs.declared.keys.Passage.{Passage}
use Rattle.grammar_chart.specs.declared.keys.Reading.{Reading}
use Rattle.grammar_chart.specs.Rules.{awaited_of}
use Rattle.chart_grammar.specs.declared.fronts.Front.{Front}
use Rattle.chart_grammar.specs.declared.lifts.Last.{Last}
use Rattle.chart_grammar.specs.Lifts.{WholeLift, ReadLift, EndLift, HasWhole, HasReading, HasEnd, front_production}
use Rattle.cfg_grammar.specs.Below.{production_below}
use Rattle.chart_grammar.specs.Written.{WritesBehind}

-- what is written for a begun production: its production, where it is read whole
abbrev pub WholeMade : List Production → List Passage → List Front → Begun → Production → Type 0
WholeMade ps fs fr b p = (awaited_of ps b ≡ None) × WholeLift ps fs b p

-- a begun production that is read whole has its production
abbrev pub WholeHas : List Production → List Passage → List Front → Begun → List Production → Type 0
WholeHas ps fs fr b qs = HasWhole ps fs b qs

-- what is written for a reading: the production of its output for a part of its range
abbrev pub ReadMade : List Passage → ℕ → List Front → Reading → Production → Type 0
ReadMade fs base fr r p = (part : ByteRange) × ReadLift fs fr base r part p

-- a reading has a production for each of its bytes
abbrev pub ReadHas : List Passage → ℕ → List Front → Reading → List Production → Type 0
ReadHas fs base fr r qs = HasReading fs fr base r qs

-- what is written for an end: the production of its output
abbrev pub EndMade : nt.Nt → List Passage → ℕ → List Front → Last → Production → Type 0
EndMade from fs base fr l p = EndLift from fs fr base l p

-- an end has the production of its output, where a passage of the start leads there
abbrev pub EndHas : nt.Nt → List Passage → ℕ → List Front → Last → List Production → Type 0
EndHas from fs base fr l qs = HasEnd from fs fr base l qs

-- a part of a reading has its production
abbrev pub HasPart : List Passage → ℕ → Reading → List Front → ByteRange → List Production → Type 0
HasPart fs base r fr part qs = Contains fs (record { symbol = Range r.asked; from = r.from; to = r.to })
    → (p : Production) × Contains qs p × ReadLift fs fr base r part p

-- what is written for a part of a reading: the production of its output
abbrev pub PartMade : List Passage → ℕ → Reading → List Front → ByteRange → Production → Type 0
PartMade fs base r fr part p = ReadLift fs fr base r part p

-- nothing but productions of the reading is written behind the old ones
pub record WritesSome (fs : List Passage) (base : ℕ) (r : Reading) (w v : List Front) (old new : List Production) : Type 0 where
  pub grows : Keeps w v
  pub puts : WritesBehind (λ (p : Production). ReadMade fs base v r p) old new

-- some part with the byte has its production
abbrev pub HasByte : List Passage → ℕ → Reading → List Front → ℕ → List Production → Type 0
HasByte fs base r fr byte qs = Contains fs (record { symbol = Range r.asked; from = r.from; to = r.to })
    → (part : ByteRange) × (p : Production) × InRange part byte × Contains qs p × ReadLift fs fr base r part p

-- the production of a front is written, if its nonterminals are below the count
pub record AddsFront (base count n : ℕ) (f : Front) (old new : List Production) : Type 0 where
  pub puts : WritesBehind (λ (p : Production). (p ≡ front_production base n f) × IsTrue (production_below count p)) old new
  pub has : IsTrue (production_below count (front_production base n f)) → Contains new (front_production base n f)

-- one text is put out by all bytes of the range
abbrev pub GivesOne : ByteRange → List Out → Type 0
GivesOne range out = (b c : ℕ) → InRange range b → InRange range c → map (letter_of b) out ≡ map (letter_of c) out
