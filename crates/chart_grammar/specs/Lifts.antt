-- The productions of an image, by what they stand for.
use Rattle.std.specs.Prelude.{◌≡◌, ◌≤◌, ◌+◌, ℕ, zero, suc, List, length, None, Some, slice_get, Contains, All, IsTrue}
use Rattle.text_base.specs.declared.byte_range.ByteRange.{ByteRange}
use Rattle.text_base.specs.declared.numbers.Nt as nt
use Rattle.text_base.specs.ByteRange.{InRange}
use Rattle.cfg_grammar.specs.declared.symbol.Symbol.{Symbol}
use Rattle.cfg_grammar.specs.declared.symbol.Symbol.TheVariants.{Range, Nt}
use Rattle.cfg_grammar.specs.declared.production.Right.{Right}
use Rattle.cfg_grammar.specs.declared.production.Right.TheVariants.{Empty, One, Two}
use Rattle.cfg_grammar.specs.declared.production.Production.{Production}
use Rattle.cfg_grammar.specs.Below.{production_below}
use Rattle.grammar_chart.specs.declared.keys.Read.{Read}
use Rattle.grammar_chart.specs.declared.keys.Read.TheVariants.{Nothing, First, Both}
use Rattle.grammar_chart.specs.declared.keys.Begun.{Begun}
use Rattle.grammar_chart.specs.declared.keys.Passage.{Passage}
use Rattle.grammar_chart.specs.declared.keys.Reading.{Reading}
use Rattle.grammar_chart.specs.Rules.{awaited_of, passage_by}
use Rattle.grammar_chart.specs.Charts.{HasRead}
use Rattle.chart_grammar.specs.declared.fronts.Front.{Front}
use Rattle.chart_grammar.specs.declared.lifts.Last.{Last}
use Rattle.chart_grammar.specs.Outs.{IsOutput}
use Rattle.chart_grammar.specs.Fronts.{StandsFor}

-- the nonterminal of this number, as a symbol
abbrev pub nt_of : ℕ → Symbol
nt_of n = Nt (record { 0 = n })

-- each symbol is the passage that it was read by; the passage k has the nonterminal k + 1
abbrev pub RightLift : List Passage → Right → ℕ → Read → Right → Type 0
RightLift fs Empty from Nothing right = right ≡ Empty
RightLift fs Empty from (First t) right = ⊥
RightLift fs Empty from (Both t u) right = ⊥
RightLift fs (One x) from Nothing right = ⊥
RightLift fs (One x) from (First t) right =
    (j : ℕ) × (slice_get fs j ≡ Some (record { symbol = x; from = from; to = t })) × (right ≡ One (nt_of (suc j)))
RightLift fs (One x) from (Both t u) right = ⊥
RightLift fs (Two x y) from Nothing right = ⊥
RightLift fs (Two x y) from (First t) right = ⊥
RightLift fs (Two x y) from (Both t u) right =
    (j : ℕ) × (i : ℕ) × (slice_get fs j ≡ Some (record { symbol = x; from = from; to = t }))
    × (slice_get fs i ≡ Some (record { symbol = y; from = t; to = u })) × (right ≡ Two (nt_of (suc j)) (nt_of (suc i)))

-- the production of a begun production that is read whole
pub record WholeLift (ps : List Production) (fs : List Passage) (b : Begun) (p : Production) : Type 0 where
  pub production : Production
  pub placed : slice_get ps b.place ≡ Some production
  pub number : ℕ
  pub passed : slice_get fs number ≡ Some (passage_by production b)
  pub left : p.left ≡ record { 0 = suc number }
  pub right : RightLift fs production.right b.from b.read p.right

-- what stands for an output, alone
abbrev pub front_right : ℕ → Right
front_right zero = Empty
front_right (suc n) = One (nt_of (suc n))

-- the production of an output of a part of a range
pub record ReadLift (fs : List Passage) (fr : List Front) (base : ℕ) (r : Reading) (part : ByteRange) (p : Production) : Type 0 where
  pub number : ℕ
  pub passed : slice_get fs number ≡ Some (record { symbol = Range r.asked; from = r.from; to = r.to })
  pub low : r.range.lo ≤ part.lo
  pub high : part.hi ≤ r.range.hi
  pub symbols : List Symbol
  pub outs : IsOutput part r.out.items symbols
  pub front : ℕ
  pub stands : StandsFor base fr front symbols
  pub left : p.left ≡ record { 0 = suc number }
  pub right : p.right ≡ front_right front

-- what stands for a front: its last symbol, behind the nonterminal of what is before it, where that is not 0
abbrev pub front_by : ℕ → Symbol → Right
front_by zero last = One last
front_by (suc n) last = Two (nt_of (suc n)) last

-- the production of a front, whose nonterminals are those of passages and fronts
pub record FrontLift (fr : List Front) (base : ℕ) (p : Production) : Type 0 where
  pub number : ℕ
  pub front : Front
  pub at : slice_get fr number ≡ Some front
  pub left : p.left ≡ record { 0 = base + number }
  pub right : p.right ≡ front_by front.before front.last
  pub fits : IsTrue (production_below (base + length fr) p)

-- what stands for a passage and then an output
abbrev pub end_by : ℕ → ℕ → Right
end_by passage zero = One (nt_of passage)
end_by passage (suc n) = Two (nt_of passage) (nt_of (suc n))

-- what stands for a nonterminal, where it is not 0, and then an output
abbrev pub said_right : ℕ → ℕ → Right
said_right zero front = front_right front
said_right (suc n) front = end_by (suc n) front

-- the production of an output at the end
pub record EndLift (from : nt.Nt) (fs : List Passage) (fr : List Front) (base : ℕ) (l : Last) (p : Production) : Type 0 where
  pub number : ℕ
  pub passed : slice_get fs number ≡ Some (record { symbol = Nt from; from = 0; to = l.state })
  pub range : ByteRange
  pub symbols : List Symbol
  pub outs : IsOutput range l.out.items symbols
  pub front : ℕ
  pub stands : StandsFor base fr front symbols
  pub left : p.left ≡ record { 0 = 0 }
  pub right : p.right ≡ end_by (suc number) front

-- the production is one of these
pub data IsLift (ps : List Production) (from : nt.Nt) (bs : List Begun) (fs : List Passage) (rs : List Reading) (fr : List Front) (base : ℕ)
    (ls : List Last) (p : Production) : Type 0 where
  whole : (b : Begun) → Contains bs b → awaited_of ps b ≡ None → WholeLift ps fs b p → IsLift ps from bs fs rs fr base ls p
  of_reading : (r : Reading) (part : ByteRange) → Contains rs r → ReadLift fs fr base r part p → IsLift ps from bs fs rs fr base ls p
  of_front : FrontLift fr base p → IsLift ps from bs fs rs fr base ls p
  of_end : (l : Last) → Contains ls l → EndLift from fs fr base l p → IsLift ps from bs fs rs fr base ls p

-- the begun production has its production, if it is read whole
abbrev pub HasWhole : List Production → List Passage → Begun → List Production → Type 0
HasWhole ps fs b qs = (q : Production) → awaited_of ps b ≡ None → slice_get ps b.place ≡ Some q → Contains fs (passage_by q b)
    → HasRead fs q.right b.from b.read → (p : Production) × Contains qs p × WholeLift ps fs b p

-- the reading has a production by each of its bytes
abbrev pub HasReading : List Passage → List Front → ℕ → Reading → List Production → Type 0
HasReading fs fr base r qs = (byte : ℕ) → InRange r.range byte → Contains fs (record { symbol = Range r.asked; from = r.from; to = r.to })
    → (part : ByteRange) × (p : Production) × InRange part byte × Contains qs p × ReadLift fs fr base r part p

-- the production of the front n
abbrev pub front_production : ℕ → ℕ → Front → Production
front_production base n f = record { left = record { 0 = base + n }; right = front_by f.before f.last }

-- each front has its production, if the nonterminals in it are those of passages and fronts
abbrev pub HasFronts : List Front → ℕ → List Production → Type 0
HasFronts fr base qs = (n : ℕ) (f : Front) → slice_get fr n ≡ Some f
    → IsTrue (production_below (base + length fr) (front_production base n f)) → Contains qs (front_production base n f)

-- where the machine may end, and a passage of the start leads there, the output has its production
abbrev pub HasEnd : nt.Nt → List Passage → List Front → ℕ → Last → List Production → Type 0
HasEnd from fs fr base l qs = Contains fs (record { symbol = Nt from; from = 0; to = l.state })
    → (p : Production) × Contains qs p × EndLift from fs fr base l p

-- all of them are there, and nothing else
pub record AreLifts (ps : List Production) (from : nt.Nt) (bs : List Begun) (fs : List Passage) (rs : List Reading) (fr : List Front)
    (base : ℕ) (ls : List Last) (qs : List Production) : Type 0 where
  pub only : (p : Production) → Contains qs p → IsLift ps from bs fs rs fr base ls p
  pub wholes : All (λ (b : Begun). HasWhole ps fs b qs) bs
  pub readings : All (λ (r : Reading). HasReading fs fr base r qs) rs
  pub fronts : HasFronts fr base qs
  pub ends : All (λ (l : Last). HasEnd from fs fr base l qs) ls
