-- What a chart keeps, on the lists of its parts.
use Rattle.std.specs.Prelude.{◌≡◌, ◌<◌, ◌≤◌, ◌⊎◌, ◌++◌, ℕ, List, length, map, Option, Some, slice_get, Contains, All, MatchOption}
use Rattle.text_base.specs.declared.numbers.Nt as nt
use Rattle.cfg_grammar.specs.declared.symbol.Symbol.TheVariants.{Nt}
use Rattle.cfg_grammar.specs.declared.production.Right.{Right}
use Rattle.cfg_grammar.specs.declared.production.Right.TheVariants.{Empty, One, Two}
use Rattle.cfg_grammar.specs.declared.production.Production.{Production}
use Rattle.fst_core.specs.Outputs.{Leads}
use Rattle.fst_core.specs.Items.{Enters}
use Rattle.numbered_sets.specs.Numbers.{Keeps, AddsOnly, AreDifferent}
use Rattle.grammar_chart.specs.declared.keys.Entry.{Entry}
use Rattle.grammar_chart.specs.declared.keys.Read.{Read}
use Rattle.grammar_chart.specs.declared.keys.Read.TheVariants.{Nothing, First, Both}
use Rattle.grammar_chart.specs.declared.keys.Begun.{Begun}
use Rattle.grammar_chart.specs.declared.keys.Passage.{Passage}
use Rattle.grammar_chart.specs.declared.keys.Reading.{Reading}
use Rattle.grammar_chart.specs.declared.steps.Visit.{Visit}
use Rattle.grammar_chart.specs.Rules.{awaited_of, passage_of, read_on, begun_at, ReadingStep}
use Rattle.grammar_chart.specs.Visits.{VisitsGrow, AddsWaiting, AddsExit}

-- each symbol that is read has its passage
abbrev pub HasRead : List Passage → Right → ℕ → Read → Type 0
HasRead fs right from Nothing = Unit {0}
HasRead fs Empty from (First t) = ⊥
HasRead fs (One x) from (First t) = Contains fs (record { symbol = x; from = from; to = t })
HasRead fs (Two x y) from (First t) = Contains fs (record { symbol = x; from = from; to = t })
HasRead fs Empty from (Both t u) = ⊥
HasRead fs (One x) from (Both t u) = ⊥
HasRead fs (Two x y) from (Both t u) =
    Contains fs (record { symbol = x; from = from; to = t }) × Contains fs (record { symbol = y; from = t; to = u })

module _ (ps : List Production) (from : nt.Nt) where
  -- the machine comes to the production, and has read what is read of it
  pub record IsBegun (fs : List Passage) (rs : List Reading) (b : Begun) : Type 0 where
    pub production : Production
    pub placed : slice_get ps b.place ≡ Some production
    pub entered : Enters ps (ReadingStep rs) from 0 (Nt production.left) b.from
    pub read : HasRead fs production.right b.from b.read

  -- the machine comes to the entry's symbol in its state
  abbrev pub IsEntered : List Reading → Entry → Type 0
  IsEntered rs e = Enters ps (ReadingStep rs) from 0 e.symbol e.state

  -- some text of the symbol leads from the one state to the other, and the machine comes to the symbol in the one
  abbrev pub IsPassage : List Reading → Passage → Type 0
  IsPassage rs f = Enters ps (ReadingStep rs) from 0 f.symbol f.from × Leads ps (ReadingStep rs) f.from f.symbol f.to

  -- what is listed is so
  pub record IsSound (es : List Entry) (bs : List Begun) (fs : List Passage) (rs : List Reading) : Type 0 where
    pub entered : All (IsEntered rs) es
    pub begun : All (IsBegun fs rs) bs
    pub passed : All (IsPassage rs) fs

-- what is kept of an entry is so, and what waits there has gone on by each exit
pub record IsVisited (ps : List Production) (es : List Entry) (vs : List Visit) (bs : List Begun) (fs : List Passage) : Type 0 where
  pub waiting : (q : ℕ) (v : Visit) (e : Entry) (n : ℕ) → slice_get vs q ≡ Some v → slice_get es q ≡ Some e → Contains v.waiting.items n
      → (b : Begun) × (slice_get bs n ≡ Some b) × (awaited_of ps b ≡ Some e)
  pub exits : (q : ℕ) (v : Visit) (e : Entry) (t : ℕ) → slice_get vs q ≡ Some v → slice_get es q ≡ Some e → Contains v.exits.items t
      → Contains fs (record { symbol = e.symbol; from = e.state; to = t })
  pub combined : (q : ℕ) (v : Visit) (n t : ℕ) → slice_get vs q ≡ Some v → Contains v.waiting.items n → Contains v.exits.items t
      → (b : Begun) × (slice_get bs n ≡ Some b) × Contains bs (read_on b t)

-- the begun production waits at the entry, by its number
abbrev pub WaitsAt : List Entry → List Visit → List Begun → Begun → Entry → Type 0
WaitsAt es vs bs b e = (q : ℕ) × (slice_get es q ≡ Some e) × (v : Visit) × (slice_get vs q ≡ Some v) × (n : ℕ) × Contains v.waiting.items n
    × (slice_get bs n ≡ Some b)

-- a begun production waits at the entry of its next symbol, or, where all is read, its passage is listed
abbrev pub IsTakenUp : List Production → List Entry → List Visit → List Begun → List Passage → Begun → Type 0
IsTakenUp ps es vs bs fs b = MatchOption (awaited_of ps b) (MatchOption (passage_of ps b) (Unit {0}) (λ f. Contains fs f))
    (λ e. WaitsAt es vs bs b e)

-- the passage is an exit of its entry
abbrev pub IsExit : List Entry → List Visit → Passage → Type 0
IsExit es vs f = (q : ℕ) × (slice_get es q ≡ Some (record { symbol = f.symbol; state = f.from })) × (v : Visit) × (slice_get vs q ≡ Some v)
    × Contains v.exits.items f.to

-- the productions of the entry's nonterminal are begun
abbrev pub IsOpened : List Production → List Begun → Entry → Type 0
IsOpened ps bs e = (a : nt.Nt) → e.symbol ≡ Nt a → (place : ℕ) (p : Production) → slice_get ps place ≡ Some p → p.left ≡ a
    → Contains bs (record { place = place; from = e.state; read = Nothing })

-- the begun production has nothing read, and is one of an entry that is opened
pub record IsOfEntry (ps : List Production) (es : List Entry) (opened : ℕ) (b : Begun) : Type 0 where
  pub number : ℕ
  pub production : Production
  pub within : number < opened
  pub placed : slice_get ps b.place ≡ Some production
  pub at : slice_get es number ≡ Some (record { symbol = Nt production.left; state = b.from })
  pub nothing : b.read ≡ Nothing

-- the begun production is what one that waits becomes by an exit of its entry
pub record IsOfExit (vs : List Visit) (bs : List Begun) (b : Begun) : Type 0 where
  pub number : ℕ
  pub visit : Visit
  pub is_visit : slice_get vs number ≡ Some visit
  pub waiting : ℕ
  pub waits : Contains visit.waiting.items waiting
  pub before : Begun
  pub is_before : slice_get bs waiting ≡ Some before
  pub exit : ℕ
  pub exits : Contains visit.exits.items exit
  pub is : b ≡ read_on before exit

-- no begun production arises twice: each comes of an opened entry, or of one that waits and an exit, and none of these is met twice
pub record AriseOnce (ps : List Production) (es : List Entry) (vs : List Visit) (bs : List Begun) (fs : List Passage)
    (opened taken left : ℕ) : Type 0 where
  pub different : AreDifferent bs
  pub arises : (b : Begun) → Contains bs b → IsOfEntry ps es opened b ⊎ IsOfExit vs bs b
  pub waiting : (q : ℕ) (v : Visit) → slice_get vs q ≡ Some v → AreDifferent v.waiting.items
  pub taken_up : (q : ℕ) (v : Visit) (n : ℕ) → slice_get vs q ≡ Some v → Contains v.waiting.items n → n < taken
  pub exits : (q : ℕ) (v : Visit) → slice_get vs q ≡ Some v → AreDifferent v.exits.items
  pub let_through : (q : ℕ) (v : Visit) (e : Entry) (t : ℕ) → slice_get vs q ≡ Some v → slice_get es q ≡ Some e → Contains v.exits.items t
      → (k : ℕ) × (k < left) × (slice_get fs k ≡ Some (record { symbol = e.symbol; from = e.state; to = t }))

-- so of the first of the members
abbrev pub OfFirst : {X : Type 0} → (X → Type 0) → List X → ℕ → Type 0
OfFirst {X} P xs n = (k : ℕ) (x : X) → k < n → slice_get xs k ≡ Some x → P x

-- what a begun production with a number comes to as its next symbol is awaited
pub record Awaits (es new : List Entry) (vs after : List Visit) (bs more : List Begun) (b : Begun) (n : ℕ) (e : Entry) : Type 0 where
  pub place : ℕ
  pub visits : List Visit
  pub visit : Visit
  pub at : slice_get new place ≡ Some e
  pub keeps : Keeps es new
  pub adds : AddsOnly es new e
  pub grows : VisitsGrow vs visits
  pub is_visit : slice_get visits place ≡ Some visit
  pub advances : more ≡ bs ++ map (λ (t : ℕ). read_on b t) visit.exits.items
  pub waits : AddsWaiting visits after place n
  pub long : length visits ≡ length new
  pub still_long : length after ≡ length new

-- what a passage comes to as its entry is left by it
pub record Leaves (es new : List Entry) (vs after : List Visit) (bs more : List Begun) (f : Passage) : Type 0 where
  pub place : ℕ
  pub visits : List Visit
  pub visit : Visit
  pub at : slice_get new place ≡ Some (record { symbol = f.symbol; state = f.from })
  pub keeps : Keeps es new
  pub adds : AddsOnly es new (record { symbol = f.symbol; state = f.from })
  pub grows : VisitsGrow vs visits
  pub is_visit : slice_get visits place ≡ Some visit
  pub advances : more ≡ bs ++ map (λ (n : ℕ). read_on (begun_at bs n) f.to) visit.waiting.items
  pub leaves : AddsExit visits after place f.to
  pub long : length visits ≡ length new
  pub still_long : length after ≡ length new

-- all that a chart keeps
pub record IsChart (ps : List Production) (from : nt.Nt) (es : List Entry) (vs : List Visit) (bs : List Begun) (fs : List Passage)
    (rs : List Reading) (opened taken left : ℕ) : Type 0 where
  pub long : length vs ≡ length es
  pub opened_within : opened ≤ length es
  pub taken_within : taken ≤ length bs
  pub left_within : left ≤ length fs
  pub first : slice_get es 0 ≡ Some (record { symbol = Nt from; state = 0 })
  pub sound : IsSound ps from es bs fs rs
  pub visited : IsVisited ps es vs bs fs
  pub opens : OfFirst (IsOpened ps bs) es opened
  pub takes : OfFirst (IsTakenUp ps es vs bs fs) bs taken
  pub lets : OfFirst (IsExit es vs) fs left
  pub once : AriseOnce ps es vs bs fs opened taken left

-- the passage, if there is one, is added
abbrev pub Finishes : List Passage → List Passage → Option Passage → Type 0
Finishes fs gs one = MatchOption one (gs ≡ fs) (λ f. Keeps fs gs × AddsOnly fs gs f × Contains gs f)
