-- How a pair that is taken up meets others at a production.
use Rattle.std.specs.Prelude.{◌≡◌, ◌↔◌, Bool, ℕ, ◌<◌, ◌≤◌, List, [], ◌∷◌, length, map, take, Option, None, Some, slice_get, Contains}
use Rattle.text_base.specs.declared.page_token.PageToken.{PageToken}
use Rattle.text_base.specs.declared.numbers.Nt as nt
use Rattle.cfg_grammar.specs.declared.symbol.Symbol.{Symbol}
use Rattle.cfg_grammar.specs.declared.symbol.Symbol.TheVariants.{Range, Token, Nt}
use Rattle.cfg_grammar.specs.declared.production.Right.{Right}
use Rattle.cfg_grammar.specs.declared.production.Right.TheVariants.{Empty, One, Two}
use Rattle.cfg_grammar.specs.declared.production.Production.{Production}
use Rattle.numbered_sets.specs.Chains.{AreChains}
use Rattle.numbered_sets.specs.declared.chains.Chains.{Chains}
use Rattle.derivations.specs.declared.node.Part.{Part}
use Rattle.derivations.specs.declared.node.Part.TheVariants as part
use Rattle.derivations.specs.declared.node.Parts.{Parts}
use Rattle.derivations.specs.declared.node.Parts.TheVariants as parts
use Rattle.useful_nonterminals.specs.Useful.{IsUseful}
use Rattle.useful_nonterminals.specs.Rules.{number_in}
use Rattle.summary_decision.specs.declared.joint.Side.{Side}
use Rattle.summary_decision.specs.declared.joint.Side.TheVariants.{First, Second}
use Rattle.summary_decision.specs.declared.joint.Joint.{Joint}
use Rattle.summary_decision.specs.declared.letters.Piece.{Piece}
use Rattle.summary_decision.specs.declared.table.Table.{Table}
use Rattle.summary_decision.specs.declared.table.Join.{Join}
use Rattle.summary_decision.specs.declared.table.Taken.{Taken}
use Rattle.summary_decision.specs.Closed.{Pair, HasSum}
use Rattle.summary_decision.specs.Tables.{known, GoesOn}

-- a symbol on a side, and the other symbol
abbrev pub right_by : Side → Symbol → Symbol → Right
right_by First a b = Two a b
right_by Second a b = Two b a

-- a part on a side, and the other part
abbrev pub parts_by : Side → Part → Part → Parts
parts_by First p q = parts.Two p q
parts_by Second p q = parts.Two q p

-- the composition of the sum on a side with the other sum
abbrev pub composed_by : {S : Type 0} → (S → S → S) → Side → S → S → S
composed_by composed First s t = composed s t
composed_by composed Second s t = composed t s

-- two sums by their numbers, of which the first named stands on the side
abbrev pub join_by : Side → ℕ → ℕ → Join
join_by First own other = record { first = own; second = other }
join_by Second own other = record { first = other; second = own }

-- of two symbols, the one that does not stand on the side
abbrev pub other_by : Side → Symbol → Symbol → Symbol
other_by First a b = b
other_by Second a b = a

-- the number of the nonterminal that stands on a side; one that stands alone is on the first
abbrev pub number_by : Side → Right → Option ℕ
number_by First Empty = None
number_by First (One a) = number_in a
number_by First (Two a b) = number_in a
number_by Second Empty = None
number_by Second (One a) = None
number_by Second (Two a b) = number_in b

-- what stands for a symbol that is no nonterminal: one byte of its range, or its token
abbrev pub IsLetterOf : {S : Type 0} → (List PageToken → S) → Symbol → Option (Piece S) → Type 0
IsLetterOf sum_of (Range range) None = ⊥
IsLetterOf sum_of (Range range) (Some piece) = (piece.part ≡ part.Byte range.lo) × (piece.sum ≡ sum_of [])
IsLetterOf sum_of (Token token) None = ⊥
IsLetterOf sum_of (Token token) (Some piece) = (piece.part ≡ part.Token token) × (piece.sum ≡ sum_of (token ∷ []))
IsLetterOf sum_of (Nt a) None = Unit {0}
IsLetterOf sum_of (Nt a) (Some piece) = ⊥

-- the nonterminal stands on a side of the production at a place, whose left side is useful
abbrev pub StandsOn : Side → List Production → nt.Nt → ℕ → ℕ → Type 0
StandsOn side productions start a place =
    (p : Production) × (slice_get productions place ≡ Some p) × IsUseful productions start p.left × (number_by side p.right ≡ Some a)

-- a chain for each nonterminal, of the places of the productions with useful left sides in which it stands on a side
pub record AreUses (side : Side) (productions : List Production) (start : nt.Nt) (count : ℕ) (uses : Chains) : Type 0 where
  pub keys : List ℕ
  pub chains : AreChains keys uses.last.items uses.before.items
  pub spread : count ≤ length uses.last.items
  pub exact : (a place : ℕ) → a < count → (slice_get keys place ≡ Some a) ↔ StandsOn side productions start a place

-- the nonterminals of the first so many pairs
abbrev pub first_nonterminals : {S : Type 0} → List (Pair S) → ℕ → List ℕ
first_nonterminals pairs n = map (λ x. x.0) (take n pairs)

-- how many pairs are taken up
abbrev pub taken_count : Taken → ℕ
taken_count taken = length taken.chains.before.items

-- a chain for each nonterminal, of the places of its pairs that are taken up
abbrev pub AreTaken : {S : Type 0} → List (Pair S) → Taken → Type 0
AreTaken pairs taken = AreChains (first_nonterminals pairs (taken_count taken)) taken.chains.last.items taken.chains.before.items

module _ {S : Type 0} (sum_of : List PageToken → S) (composed : S → S → S) (whole : S → Bool) (productions : List Production)
    (start : nt.Nt) where
  -- a pair with the sum stands on a side of a production with a useful left side
  pub record IsAt (t : Table S) (joint : Joint) (s : S) : Type 0 where
    pub production : Production
    pub at : slice_get productions joint.place ≡ Some production
    pub useful : IsUseful productions start production.left
    pub nonterminal : nt.Nt
    pub number : number_by joint.side production.right ≡ Some nonterminal.0
    pub pair : slice_get (known t) joint.pair ≡ Some (nonterminal.0, s)
    pub within : joint.pair < t.bound

  -- the same, with the symbol on the other side
  pub record IsBeside (t : Table S) (joint : Joint) (s : S) (b : Symbol) : Type 0 where
    pub production : Production
    pub at : slice_get productions joint.place ≡ Some production
    pub useful : IsUseful productions start production.left
    pub nonterminal : nt.Nt
    pub right : production.right ≡ right_by joint.side (Nt nonterminal) b
    pub pair : slice_get (known t) joint.pair ≡ Some (nonterminal.0, s)
    pub within : joint.pair < t.bound

  -- a pair of a nonterminal before the bound
  abbrev pub IsPartner : Table S → ℕ → ℕ → Type 0
  IsPartner t c j = (j < t.bound) × ((u : S) × (slice_get (known t) j ≡ Some (c, u)))

  -- the compositions with these pairs are there
  pub record MeetsPairs (count : ℕ) (old new : Table S) (joint : Joint) (s : S) (c : ℕ) (Asked : ℕ → Type 0) : Type 0 where
    pub goes : GoesOn sum_of composed whole productions start count old new
    pub met : (j : ℕ) (u : S) (p : Production) → Asked j → slice_get (known old) j ≡ Some (c, u)
        → slice_get productions joint.place ≡ Some p → Contains (known new) (p.left.0, composed_by composed joint.side s u)

  -- the compositions with each sum of the symbol are there, as far as its pairs are among the first so many
  pub record MeetsSymbol (count : ℕ) (old new : Table S) (joint : Joint) (s : S) (n : ℕ) (b : Symbol) : Type 0 where
    pub goes : GoesOn sum_of composed whole productions start count old new
    pub met : (u : S) (p : Production) → HasSum sum_of composed (known old) n b u → slice_get productions joint.place ≡ Some p
        → Contains (known new) (p.left.0, composed_by composed joint.side s u)

  -- what a pair on a side of a right side is to give is there
  abbrev pub IsGiven : List (Pair S) → List (Pair S) → ℕ → ℕ → Side → Right → S → Type 0
  IsGiven old new n left First Empty s = Unit {0}
  IsGiven old new n left First (One a) s = Contains new (left, s)
  IsGiven old new n left First (Two a b) s = (u : S) → HasSum sum_of composed old n b u → Contains new (left, composed s u)
  IsGiven old new n left Second Empty s = Unit {0}
  IsGiven old new n left Second (One a) s = Unit {0}
  IsGiven old new n left Second (Two a b) s = (u : S) → HasSum sum_of composed old n a u → Contains new (left, composed u s)

  -- what the pair gives at productions
  pub record Gives (count : ℕ) (old new : Table S) (side : Side) (s : S) (n : ℕ) (Asked : ℕ → Type 0) : Type 0 where
    pub goes : GoesOn sum_of composed whole productions start count old new
    pub given : (place : ℕ) (p : Production) → Asked place → slice_get productions place ≡ Some p
        → IsGiven (known old) (known new) n p.left.0 side p.right s
