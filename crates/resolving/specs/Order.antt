-- The order in which rules are added to a draft. No public clause cites this.
use Rattle.std.specs.Prelude.{◌≡◌, ◌<◌, ◌≤◌, ℕ, List, ◌∷◌, length, Some, slice_get, Contains, All}
use Rattle.std.specs.List.Sorted.{IsNonDecreasingBy}
use Rattle.cfg_grammar.specs.declared.production.Production.{Production}
use Rattle.op_system.specs.declared.system.OpRule.{OpRule}
use Rattle.op_system.specs.declared.system.OpSystem.{OpSystem}
use Rattle.resolving.specs.Drafts.{IsDraft, IsDone, IsReady}
use Rattle.resolving.specs.Drafted.{Added, HasAdded, IsNext, Drafted}
use Rattle.resolving.specs.declared.draft.Draft.{Draft}
use Rattle.resolving.specs.declared.order.Ranked.{Ranked}
use Rattle.resolving.specs.Draft.{IsIndexed}

-- the rule at the place has the number
pub record IsRanked (s : OpSystem) (numbers : List ℕ) (ranked : Ranked) : Type 0 where
  pub rule : OpRule
  pub at : slice_get s.ops.items ranked.place ≡ Some rule
  pub number : slice_get numbers rule.left.0 ≡ Some ranked.number

-- some entry is of the place
abbrev pub HasPlace : List Ranked → ℕ → Type 0
HasPlace order place = (ranked : Ranked) × Contains order ranked × (ranked.place ≡ place)

-- each of the first n rules is there once, with its number
pub record AreRankedBelow (s : OpSystem) (numbers : List ℕ) (n : ℕ) (order : List Ranked) : Type 0 where
  pub size : length order ≡ n
  pub each : All (IsRanked s numbers) order
  pub all : (place : ℕ) → place < n → HasPlace order place

-- each rule of the system is there once, with its number
abbrev pub AreRanked : OpSystem → List ℕ → List Ranked → Type 0
AreRanked s numbers order = AreRankedBelow s numbers (length s.ops.items) order

-- no place stands twice in the order
abbrev pub AreOnce : List Ranked → Type 0
AreOnce order = (i j : ℕ) (r q : Ranked) → slice_get order i ≡ Some r → slice_get order j ≡ Some q → r.place ≡ q.place → i ≡ j

-- each rule is there once, and their numbers rise
pub record IsOrder (s : OpSystem) (numbers : List ℕ) (order : List Ranked) : Type 0 where
  pub ranked : AreRanked s numbers order
  pub once : AreOnce order
  pub rises : IsNonDecreasingBy (λ r. r.number) order

-- the draft in memory is one of the system
pub record IsDraftOf (s : OpSystem) (draft : Draft) : Type 0 where
  pub indexed : IsIndexed draft
  pub is_draft : IsDraft s draft.productions.items (length draft.chains.last.items)

-- all rules with lower numbers than this one's are done
abbrev pub IsReadyFor : OpSystem → List ℕ → List Production → OpRule → Type 0
IsReadyFor s numbers ps rule = (k : ℕ) → slice_get numbers rule.left.0 ≡ Some k → IsReady s numbers ps k

-- the draft in memory is drafted from these operations
abbrev pub IsDraftedBy : OpSystem → Draft → List Added → Type 0
IsDraftedBy s draft added = Drafted s draft.productions.items (length draft.chains.last.items) added

-- the rule may be added next
pub record MayBeAdded (s : OpSystem) (rule : OpRule) (draft : Draft) : Type 0 where
  pub added : List Added
  pub drafted : IsDraftedBy s draft added
  pub place : ℕ
  pub next : IsNext s added place rule

-- the rule is done and was added, and what was there stays
pub record AddsRule (s : OpSystem) (rule : OpRule) (old new : Draft) : Type 0 where
  pub draft : IsDraftOf s new
  pub keeps : (p : Production) → Contains old.productions.items p → Contains new.productions.items p
  pub done : IsDone s new.productions.items rule
  pub drafted : (added : List Added) (place : ℕ) → IsDraftedBy s old added → IsNext s added place rule
      → (a : Added) × (a.place ≡ place) × IsDraftedBy s new (a ∷ added)

-- the draft is that of the first n of the order
pub record IsDraftedFrom (s : OpSystem) (order : List Ranked) (n : ℕ) (draft : Draft) : Type 0 where
  pub added : List Added
  pub drafted : IsDraftedBy s draft added
  pub many : length added ≡ n
  pub within : n ≤ length order
  pub before : (i : ℕ) (ranked : Ranked) → i < n → slice_get order i ≡ Some ranked → HasAdded added ranked.place
  pub only : (place : ℕ) → HasAdded added place
      → (i : ℕ) × (ranked : Ranked) × (i < n) × (slice_get order i ≡ Some ranked) × (ranked.place ≡ place)

-- the first n of the order are done
pub record AreAdded (s : OpSystem) (order : List Ranked) (n : ℕ) (draft : Draft) : Type 0 where
  pub is_draft : IsDraftOf s draft
  pub drafted : IsDraftedFrom s order n draft
  pub done : (i : ℕ) (ranked : Ranked) (rule : OpRule) → i < n → slice_get order i ≡ Some ranked
      → slice_get s.ops.items ranked.place ≡ Some rule → IsDone s draft.productions.items rule

-- all rules are done and were added, each once
pub record AllAdded (s : OpSystem) (draft : Draft) : Type 0 where
  pub is_draft : IsDraftOf s draft
  pub added : List Added
  pub drafted : IsDraftedBy s draft added
  pub many : length added ≡ length s.ops.items
  pub all : (place : ℕ) → place < length s.ops.items → HasAdded added place
  pub done : (rule : OpRule) → Contains s.ops.items rule → IsDone s draft.productions.items rule
