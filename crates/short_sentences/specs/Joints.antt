-- How a pair that is taken up meets others at a production.
use Rattle.std.specs.Prelude.{◌≡◌, ℕ, ◌+◌, ◌≤◌, Bool, List, length, Some, slice_get}
use Rattle.text_base.specs.declared.page_token.PageToken.{PageToken}
use Rattle.text_base.specs.declared.numbers.Nt as nt
use Rattle.cfg_grammar.specs.declared.symbol.Symbol.{Symbol}
use Rattle.cfg_grammar.specs.declared.symbol.Symbol.TheVariants.{Nt}
use Rattle.cfg_grammar.specs.declared.production.Right.{Right}
use Rattle.cfg_grammar.specs.declared.production.Right.TheVariants.{Empty, One, Two}
use Rattle.cfg_grammar.specs.declared.production.Production.{Production}
use Rattle.derivations.specs.declared.node.Part.TheVariants.{Inner}
use Rattle.derivations.specs.declared.node.Node.{Node}
use Rattle.derivations.specs.Nodes.{part_length}
use Rattle.numbered_sets.specs.Chains.{AreChains}
use Rattle.numbered_sets.specs.declared.chains.Chains.{Chains}
use Rattle.useful_nonterminals.specs.Useful.{IsUseful}
use Rattle.summary_decision.specs.declared.joint.Side.{Side}
use Rattle.summary_decision.specs.declared.joint.Side.TheVariants.{First, Second}
use Rattle.summary_decision.specs.declared.joint.Joint.{Joint}
use Rattle.summary_decision.specs.Closed.{Pair}
use Rattle.summary_decision.specs.Joints.{right_by, composed_by, number_by, first_nonterminals}
use Rattle.short_sentences.specs.declared.table.Table.{Table}
use Rattle.short_sentences.specs.declared.taken.Taken.{Taken}
use Rattle.short_sentences.specs.Closed.{HasSum}
use Rattle.short_sentences.specs.Tables.{known, IsReached, GoesOn}

-- how many pairs have their places in chains
abbrev pub chained : Chains → ℕ
chained chains = length chains.before.items

-- a chain for each nonterminal, of the places of its first pairs
abbrev pub AreTaken : {S : Type 0} → List (Pair S) → Chains → Type 0
AreTaken pairs chains = AreChains (first_nonterminals pairs (chained chains)) chains.last.items chains.before.items

-- the length of the pair at a place
abbrev pub length_at : Taken → ℕ → ℕ
length_at taken pair = part_length taken.nodes.nodes.items (Inner pair)

module _ {S : Type 0} (sum_of : List PageToken → S) (composed : S → S → S) (whole : S → Bool) (productions : List Production)
    (start : nt.Nt) where
  -- a pair with the sum, none shorter than the last one, stands on a side of a production with a useful left side
  pub record IsAt (t : Table S) (taken : Taken) (joint : Joint) (s : S) : Type 0 where
    pub production : Production
    pub at : slice_get productions joint.place ≡ Some production
    pub useful : IsUseful productions start production.left
    pub nonterminal : nt.Nt
    pub number : number_by joint.side production.right ≡ Some nonterminal.0
    pub pair : slice_get (known t taken) joint.pair ≡ Some (nonterminal.0, s)
    pub late : taken.length ≤ length_at taken joint.pair

  -- the same, with the symbol on the other side
  pub record IsBeside (t : Table S) (taken : Taken) (joint : Joint) (s : S) (b : Symbol) : Type 0 where
    pub production : Production
    pub at : slice_get productions joint.place ≡ Some production
    pub useful : IsUseful productions start production.left
    pub nonterminal : nt.Nt
    pub right : production.right ≡ right_by joint.side (Nt nonterminal) b
    pub pair : slice_get (known t taken) joint.pair ≡ Some (nonterminal.0, s)
    pub late : taken.length ≤ length_at taken joint.pair

  -- a pair of a nonterminal
  abbrev pub IsPartner : Table S → Taken → ℕ → ℕ → Type 0
  IsPartner t taken c j = (u : S) × (slice_get (known t taken) j ≡ Some (c, u))

  -- the compositions with these pairs are found, by the sums of lengths
  pub record MeetsPairs (count : ℕ) (taken : Taken) (old new : Table S) (joint : Joint) (s : S) (c : ℕ) (Asked : ℕ → Type 0) : Type 0 where
    pub goes : GoesOn sum_of composed whole productions start count taken old new
    pub met : (j : ℕ) (u : S) (p : Production) → Asked j → slice_get (known old taken) j ≡ Some (c, u)
        → slice_get productions joint.place ≡ Some p
        → IsReached new (p.left.0, composed_by composed joint.side s u) (length_at taken joint.pair + length_at taken j)

  -- the compositions with each sum of the symbol are found, as far as its pairs are among the first so many
  pub record MeetsSymbol (count : ℕ) (taken : Taken) (old new : Table S) (joint : Joint) (s : S) (n : ℕ) (b : Symbol) : Type 0 where
    pub goes : GoesOn sum_of composed whole productions start count taken old new
    pub met : (u : S) (m : ℕ) (p : Production) → HasSum sum_of composed (known old taken) taken.nodes.nodes.items n b u m
        → slice_get productions joint.place ≡ Some p
        → IsReached new (p.left.0, composed_by composed joint.side s u) (length_at taken joint.pair + m)

  -- what a pair of so many bytes on a side of a right side is to give is found
  abbrev pub IsGiven : (Pair S → ℕ → Type 0) → List (Pair S) → List Node → ℕ → ℕ → Side → Right → S → ℕ → Type 0
  IsGiven Found pairs nodes n left First Empty s own = Unit {0}
  IsGiven Found pairs nodes n left First (One a) s own = Found (left, s) own
  IsGiven Found pairs nodes n left First (Two a b) s own =
      (u : S) (m : ℕ) → HasSum sum_of composed pairs nodes n b u m → Found (left, composed s u) (own + m)
  IsGiven Found pairs nodes n left Second Empty s own = Unit {0}
  IsGiven Found pairs nodes n left Second (One a) s own = Unit {0}
  IsGiven Found pairs nodes n left Second (Two a b) s own =
      (u : S) (m : ℕ) → HasSum sum_of composed pairs nodes n a u m → Found (left, composed u s) (own + m)

  -- what the pair at a place gives at productions
  pub record Gives (count : ℕ) (taken : Taken) (old new : Table S) (side : Side) (s : S) (pair n : ℕ) (Asked : ℕ → Type 0) : Type 0 where
    pub goes : GoesOn sum_of composed whole productions start count taken old new
    pub given : (place : ℕ) (p : Production) → Asked place → slice_get productions place ≡ Some p
        → IsGiven (IsReached new) (known old taken) taken.nodes.nodes.items n p.left.0 side p.right s (length_at taken pair)
