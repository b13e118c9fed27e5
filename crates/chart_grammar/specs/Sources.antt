-- Where the productions of an image come from: which production of the grammar each one is, and between which states.
use Rattle.std.specs.Prelude.{◌≡◌, ◌≤◌, ◌++◌, ℕ, suc, List, [], length, Some, slice_get, Contains}
use Rattle.text_base.specs.declared.byte_range.ByteRange.{ByteRange}
use Rattle.text_base.specs.declared.letter.Letter.{Letter}
use Rattle.text_base.specs.declared.numbers.Nt as nt
use Rattle.text_base.specs.declared.page_token.PageToken.{PageToken}
use Rattle.text_base.specs.ByteRange.{InRange}
use Rattle.cfg_grammar.specs.declared.symbol.Symbol.TheVariants.{Range, Token, Nt}
use Rattle.cfg_grammar.specs.declared.production.Right.{Right}
use Rattle.cfg_grammar.specs.declared.production.Right.TheVariants.{Empty, One, Two}
use Rattle.cfg_grammar.specs.declared.production.Production.{Production}
use Rattle.cfg_grammar.specs.Derives.{Derives}
use Rattle.grammar_chart.specs.declared.keys.Passage.{Passage}
use Rattle.chart_grammar.specs.Lifts.{nt_of, end_by, front_right}

-- each symbol is replaced by its passage, one behind another from the one state to the other; the passage k has the nonterminal k + 1
abbrev pub Passes : List Passage → Right → ℕ → ℕ → Right → Type 0
Passes fs Empty s t right = (t ≡ s) × (right ≡ Empty)
Passes fs (One x) s t right = (j : ℕ) × (slice_get fs j ≡ Some (record { symbol = x; from = s; to = t })) × (right ≡ One (nt_of (suc j)))
Passes fs (Two x y) s t right =
    (u : ℕ) × (j : ℕ) × (i : ℕ) × (slice_get fs j ≡ Some (record { symbol = x; from = s; to = u }))
    × (slice_get fs i ≡ Some (record { symbol = y; from = u; to = t })) × (right ≡ Two (nt_of (suc j)) (nt_of (suc i)))

-- the production of the image is the one at this place of the grammar, read from a state to a state
pub record ComesOf (ps : List Production) (fs : List Passage) (place : ℕ) (q : Production) : Type 0 where
  pub production : Production
  pub placed : slice_get ps place ≡ Some production
  pub from : ℕ
  pub to : ℕ
  pub number : ℕ
  pub passed : slice_get fs number ≡ Some (record { symbol = Nt production.left; from = from; to = to })
  pub left : q.left ≡ record { 0 = suc number }
  pub right : Passes fs production.right from to q.right

-- no passage of a nonterminal is on its left, so it comes of no production of the grammar
abbrev pub IsOfOutput : List Passage → Production → Type 0
IsOfOutput fs q = (n : ℕ) (a : nt.Nt) (s t : ℕ) → q.left ≡ record { 0 = suc n }
    → slice_get fs n ≡ Some (record { symbol = Nt a; from = s; to = t }) → ⊥

-- each production comes of the one at its place of the grammar
pub record AllComeOf (ps : List Production) (fs : List Passage) (sources : List ℕ) (qs : List Production) : Type 0 where
  pub long : length sources ≡ length qs
  pub comes : (k place : ℕ) (q : Production) → slice_get sources k ≡ Some place → slice_get qs k ≡ Some q → ComesOf ps fs place q

-- no passage is one of a page token
abbrev pub NoneIsOfToken : List Passage → Type 0
NoneIsOfToken fs = (n s t : ℕ) (token : PageToken) → slice_get fs n ≡ Some (record { symbol = Token token; from = s; to = t }) → ⊥

-- the production of the start: a passage of the grammar's start from the first state, and then what stands for an output at the end, where something is put out
pub record IsEnd (start : nt.Nt) (fs : List Passage) (q : Production) : Type 0 where
  pub to : ℕ
  pub number : ℕ
  pub passed : slice_get fs number ≡ Some (record { symbol = Nt start; from = 0; to = to })
  pub front : ℕ
  pub right : q.right ≡ end_by (suc number) front

-- the first productions of an image come of those at these places of the grammar, and no other one comes of any
pub record AreSources (ps : List Production) (start : nt.Nt) (fs : List Passage) (sources : List ℕ) (qs : List Production) : Type 0 where
  pub few : length sources ≤ length qs
  pub comes : (k place : ℕ) (q : Production) → slice_get sources k ≡ Some place → slice_get qs k ≡ Some q → ComesOf ps fs place q
  pub others : (k : ℕ) (q : Production) → length sources ≤ k → slice_get qs k ≡ Some q → IsOfOutput fs q
  pub ends : (q : Production) → Contains qs q → q.left ≡ record { 0 = 0 } → IsEnd start fs q
  pub no_tokens : NoneIsOfToken fs

-- the right side derives the letters
abbrev pub FromRight : List Production → Right → List Letter → Type 0
FromRight qs Empty w = w ≡ []
FromRight qs (One x) w = Derives qs x w
FromRight qs (Two x y) w = (u : List Letter) × (v : List Letter) × Derives qs x u × Derives qs y v × (w ≡ u ++ v)

-- what the passages of ranges derive, and what stands for the outputs at the end: what is put out as a byte of the range is read from the
-- one state to the other (`Puts`), and what is put out at the end in a state (`Closes`)
pub record ArePutOut (start : nt.Nt) (fs : List Passage) (qs : List Production) (Puts : ℕ → ℕ → ℕ → List Letter → Type 0)
    (Closes : ℕ → List Letter → Type 0) : Type 0 where
  pub reads : (n s t : ℕ) (range : ByteRange) (w : List Letter) → slice_get fs n ≡ Some (record { symbol = Range range; from = s; to = t })
      → Derives qs (nt_of (suc n)) w → (byte : ℕ) × InRange range byte × Puts s byte t w
  pub closes : (q : Production) (n t front : ℕ) (w : List Letter) → Contains qs q → q.left ≡ record { 0 = 0 }
      → slice_get fs n ≡ Some (record { symbol = Nt start; from = 0; to = t }) → q.right ≡ end_by (suc n) front → FromRight qs (front_right front) w
      → Closes t w
