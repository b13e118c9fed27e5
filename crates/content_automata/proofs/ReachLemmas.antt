-- Which states are reached, and that their sets have all flags.
use Rattle.std.proofs.Common.{◌≡◌, ℕ, ◌+◌, ◌<◌, ◌⊎◌, inl, inr, Bool, true, false, List, [], ◌∷◌, ◌++◌, length, Contains, refl, sym, ◌∙◌, ap, subst, arith, Option, Some, None, slice_get}
use Rattle.std.specs.Prelude.{if◌then◌else◌}
use Rattle.dtd_model.specs.Table.{Holding, nothing, anything, text_and, children}
use Rattle.content_automata.specs.Positions.{places_of, first_of}
use Rattle.content_automata.specs.Walks.{place_at, joined}
use Rattle.content_automata.specs.Sets.{names, set_step, members}
use Rattle.content_automata.specs.Shapes.{Shape, empty, any, text, model, shape, first_state, state_behind, states_walk, then_some, IsSized}
use Rattle.content_automata.specs.Tables.{Key, Adds, IsReached, IsLedTo, AllReached, AreSized}
use Rattle.content_automata.proofs.PassLemmas.{one_more, both_below}
use Rattle.content_automata.proofs.RangeLemmas.{set_sized}
use Rattle.content_automata.proofs.ShapeLemmas.{walk_more}

pub first_sized : (h : Holding) → IsSized (shape h) (first_state (shape h))
first_sized nothing = tt
first_sized anything = tt
first_sized (text_and es) = tt
first_sized (children m) = set_sized (length (places_of m)) (first_of m)

-- a set behind a child has all flags
pub behind_sized : (count : ℕ) (s : Shape) (flags next : List Bool) (e : ℕ) → state_behind count s flags e ≡ Some next → IsSized s next
behind_sized count empty flags next e h = tt
behind_sized count any flags next e h = tt
behind_sized count (text es) flags next e h = tt
behind_sized count (model first places) flags next e h = go (names places flags e) h
  where
    go : (x : Bool) → (if x then Some (set_step places flags e) else None) ≡ Some next → length next ≡ length places + 1
    go true h = let same : set_step places flags e ≡ next = cc in ap length (sym same) ∙ set_sized (length places) (joined (place_at places) e (members flags))
    go false h = cc

walk_sized : (count : ℕ) (s : Shape) (flags next : List Bool) (es : List ℕ) → IsSized s flags → states_walk count s flags es ≡ Some next → IsSized s next
walk_sized count s flags next [] z h = let same : flags ≡ next = cc in subst (IsSized s) same z
walk_sized count s flags next (e ∷ es) z h = go (state_behind count s flags e) refl h (λ f g. walk_sized count s f next es g)
  where
    go : (x : Option (List Bool)) → state_behind count s flags e ≡ x → then_some x (λ (f : List Bool). states_walk count s f es) ≡ Some next → ((f : List Bool) → IsSized s f → states_walk count s f es ≡ Some next → IsSized s next) → IsSized s next
    go None is h later = cc
    go (Some f) is h later = later f (behind_sized count s flags f e is) h

pub led_reached : (shapes : List Shape) (k : Key) → IsLedTo shapes k → IsReached shapes k
led_reached shapes k (s, at, es, below, walk) = (s, at, es, walk)

-- each state that is reached has all flags
pub reached_sized : (shapes : List Shape) (k : Key) (s : Shape) → AreSized shapes → IsReached shapes k → slice_get shapes k.0 ≡ Some s → IsSized s k.1
reached_sized shapes k s sized r at =
    let one : Some r.0 ≡ Some s = sym r.1 ∙ at in
    let same : r.0 ≡ s = cc in
    subst (λ (x : Shape). IsSized x k.1) same (walk_sized (length shapes) r.0 (first_state r.0) k.1 r.2 (sized k.0 r.0 r.1) r.3)

pub led_sized : (shapes : List Shape) (k : Key) (s : Shape) → AreSized shapes → IsLedTo shapes k → slice_get shapes k.0 ≡ Some s → IsSized s k.1
led_sized shapes k s sized r at = reached_sized shapes k s sized (led_reached shapes k r) at

-- what is behind a state that is reached is reached
pub reached_more : (shapes : List Shape) (k next : Key) (s : Shape) (e : ℕ) → e < length shapes → IsLedTo shapes k → slice_get shapes k.0 ≡ Some s → next.0 ≡ k.0 → state_behind (length shapes) s k.1 e ≡ Some next.1 → IsLedTo shapes next
reached_more shapes k next s e h (r, declared, es, below, to_here) at same behind =
    let one : Some r ≡ Some s = sym declared ∙ at in
    let same_shape : r ≡ s = cc in
    let walk : states_walk (length shapes) s (first_state s) es ≡ Some k.1 = subst (λ (x : Shape). states_walk (length shapes) x (first_state x) es ≡ Some k.1) same_shape to_here in (
      s,
      ap (slice_get shapes) same ∙ at,
      es ++ e ∷ [],
      both_below (length shapes) es (e ∷ []) below (one_more (length shapes) e [] h (λ d has. none_in d has)),
      walk_more (length shapes) s (first_state s) es e ∙ ap (λ (x : Option (List Bool)). then_some x (λ (f : List Bool). state_behind (length shapes) s f e)) walk ∙ behind,
    )
  where
    none_in : (d : ℕ) → Contains {X = ℕ} [] d → d < length shapes
    none_in d (i, w, is) = absurd (omega (arith, w))

pub all_reached : (shapes : List Shape) (old new : List Key) (k : Key) (s : Shape) → AllReached shapes old → Contains old k → slice_get shapes k.0 ≡ Some s → Adds old new k.0 (length shapes) (state_behind (length shapes) s k.1) → AllReached shapes new
all_reached shapes old new k s all here at adds = λ next c. elim (adds next c) [
  | inl in_old ↦ all next in_old
  | inr more ↦ reached_more shapes k next s more.0 more.1 (all k here) at more.2 more.3
]

pub first_reached : (shapes : List Shape) (e : ℕ) (s : Shape) → slice_get shapes e ≡ Some s → IsLedTo shapes (e, first_state s)
first_reached shapes e s at = (s, at, [], none_in, refl)
  where
    none_in : (d : ℕ) → Contains {X = ℕ} [] d → d < length shapes
    none_in d (i, w, is) = absurd (omega (arith, w))

-- one more state that an element begins in
pub one_reached : (shapes : List Shape) (old new : List Key) (e : ℕ) (s : Shape) → slice_get shapes e ≡ Some s → AllReached shapes old → ((k : Key) → Contains new k → Contains old k ⊎ (k ≡ (e, first_state s))) → AllReached shapes new
one_reached shapes old new e s at all only = λ k c. elim (only k c) [ inl in_old ↦ all k in_old | inr same ↦ subst (IsLedTo shapes) (sym same) (first_reached shapes e s at) ]
