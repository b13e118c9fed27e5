-- What is kept of the entries of a chart.
use Rattle.std.specs.Prelude.{◌≡◌, ◌==◌, ◌<◌, ◌⊎◌, ◌++◌, ◌∷◌, ℕ, List, [], Some, slice_get, All, if◌then◌else◌}
use Rattle.grammar_chart.specs.declared.steps.Visit.{Visit}

-- what was kept stays, and of a new entry nothing is kept yet
pub record VisitsGrow (old new : List Visit) : Type 0 where
  pub kept : (q : ℕ) (v : Visit) → slice_get old q ≡ Some v → slice_get new q ≡ Some v
  pub empty : (q : ℕ) (v : Visit) → slice_get new q ≡ Some v → (slice_get old q ≡ Some v) ⊎ ((v.waiting.items ≡ []) × (v.exits.items ≡ []))

-- one more begun production waits at an entry, by its number, behind those of before
abbrev pub AddsWaiting : List Visit → List Visit → ℕ → ℕ → Type 0
AddsWaiting old new at one =
    (q : ℕ) (v : Visit) → slice_get new q ≡ Some v
    → (w : Visit) × (slice_get old q ≡ Some w) × (v.exits ≡ w.exits)
    × (v.waiting.items ≡ (if q == at then w.waiting.items ++ one ∷ [] else w.waiting.items))

-- the numbers of what waits are those of begun productions
abbrev pub AreWithin : List Visit → ℕ → Type 0
AreWithin visits count = (q : ℕ) (v : Visit) → slice_get visits q ≡ Some v → All (λ n. n < count) v.waiting.items

-- one more exit of an entry, behind those of before
abbrev pub AddsExit : List Visit → List Visit → ℕ → ℕ → Type 0
AddsExit old new at exit =
    (q : ℕ) (v : Visit) → slice_get new q ≡ Some v
    → (w : Visit) × (slice_get old q ≡ Some w) × (v.waiting ≡ w.waiting)
    × (v.exits.items ≡ (if q == at then w.exits.items ++ exit ∷ [] else w.exits.items))
