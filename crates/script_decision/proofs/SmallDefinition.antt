-- The content models of the smallest definition have nine states at most, of one move each, and one pair of positions: so a call by it is
-- never refused for them.
use Rattle.std.proofs.Common.{◌≡◌, ◌≤◌, ◌∙◌, ◌&&◌, ◌||◌, ℕ, zero, suc, Bool, true, false, List, [], ◌∷◌, length, Contains, Some, refl, sym, ap, subst, arith}
use Rattle.std.specs.Bool.{beq}
use Rattle.std.specs.Cmp.{IsEquivalence}
use Rattle.std.proofs.lemmas.Cmp.{nat_eq_equiv}
use Rattle.std.specs.Cmp.Lexicographic.{pointwise}
use Rattle.std.specs.List.{list_any, IsDistinct}
use Rattle.std.proofs.lemmas.Map.Made.{length-le_from_is_member}
use Rattle.content_automata.specs.Positions.{places, firsts, positions}
use Rattle.dtd_model.specs.Matches.{may_be_empty}
use Rattle.dtd_model.specs.Mini.{mini_table}
use Rattle.content_automata.specs.Decides.{shapes_in}
use Rattle.content_automata.specs.Shapes.{Shape, text, first_state, states_walk}
use Rattle.content_automata.specs.Tables.{Key, key_eq, IsReached}
use Rattle.content_automata.specs.Counts.{pairs_in, moves_at, moves_in}
use Rattle.content_automata.specs.Refusals.{many_states, many_pairs, many_moves}
use Rattle.content_automata.proofs.BuildLemmas.{all_sized}
use Rattle.content_automata.proofs.KeyLemmas.{exact_key}
use Rattle.content_automata.proofs.ReachLemmas.{reached_sized}
use Rattle.script_decision.specs.Decision.{HasLargeModels}

-- a state of each element, with one flag or two
states : List Key
states = (0, true ∷ true ∷ []) ∷ (0, true ∷ false ∷ []) ∷ (0, false ∷ true ∷ []) ∷ (0, false ∷ false ∷ [])
    ∷ (1, true ∷ true ∷ []) ∷ (1, true ∷ false ∷ []) ∷ (1, false ∷ true ∷ []) ∷ (1, false ∷ false ∷ []) ∷ (2, true ∷ []) ∷ []

two_flags : (e : ℕ) → ((a b : Bool) → list_any (key_eq (e, a ∷ b ∷ [])) states ≡ true) → (flags : List Bool) → length flags ≡ 2 → list_any (key_eq (e, flags)) states ≡ true
two_flags e h [] l = cc
two_flags e h (a ∷ []) l = cc
two_flags e h (a ∷ b ∷ []) l = h a b
two_flags e h (a ∷ b ∷ c ∷ more) l = absurd (omega (arith, l))

of_html : (a b : Bool) → list_any (key_eq (0, a ∷ b ∷ [])) states ≡ true
unfolding states
of_html true true = refl
of_html true false = refl
of_html false true = refl
of_html false false = refl

of_body : (a b : Bool) → list_any (key_eq (1, a ∷ b ∷ [])) states ≡ true
unfolding states
of_body true true = refl
of_body true false = refl
of_body false true = refl
of_body false false = refl

-- an element that holds text alone stays in its one state
stays : (flags next : List Bool) (es : List ℕ) → states_walk 3 (text []) flags es ≡ Some next → flags ≡ next
stays flags next [] h = let same : Some flags ≡ Some next = h in cc
stays flags next (e ∷ es) h = cc

listed : (k : Key) → IsReached (shapes_in mini_table) k → list_any (key_eq k) states ≡ true
unfolding states mini_table places firsts positions may_be_empty
listed (zero, flags) r = two_flags 0 of_html flags (reached_sized (shapes_in mini_table) (0, flags) _ (all_sized mini_table.elements) r refl)
listed (suc zero, flags) r = two_flags 1 of_body flags (reached_sized (shapes_in mini_table) (1, flags) _ (all_sized mini_table.elements) r refl)
listed (suc (suc zero), flags) (s, at, es, walk) =
    let same : text [] ≡ s = cc in
    let one : true ∷ [] ≡ flags = stays (true ∷ []) flags es (subst (λ (x : Shape). states_walk 3 x (first_state x) es ≡ Some flags) (sym same) walk) in
    subst (λ (f : List Bool). list_any (key_eq (2, f)) states ≡ true) one refl
listed (suc (suc (suc e)), flags) (s, at, es, walk) = cc

-- keys are equal exactly where they are one
flags_same : (flags : List Bool) → pointwise beq flags flags ≡ true
flags_same [] = refl
flags_same (true ∷ flags) = flags_same flags
flags_same (false ∷ flags) = flags_same flags

same_key : (k : Key) → key_eq k k ≡ true
same_key k = ap (λ (b : Bool). b && pointwise beq k.1 k.1) (nat_eq_equiv.refl k.0) ∙ flags_same k.1

turned : (p q : Key) (a b : Bool) → key_eq p q ≡ a → key_eq q p ≡ b → a ≡ b
turned p q true true e f = refl
turned p q false false e f = refl
turned p q true false e f = let one : key_eq q p ≡ true = subst (λ (k : Key). key_eq k p ≡ true) (exact_key p q e) (same_key p) in cc (one, f)
turned p q false true e f = let one : key_eq p q ≡ true = subst (λ (k : Key). key_eq k q ≡ true) (exact_key q p f) (same_key q) in cc (one, e)

keys_agree : IsEquivalence key_eq
keys_agree = record {
  refl = same_key;
  symm = λ p q. turned p q (key_eq p q) (key_eq q p) refl refl;
  congr = λ p q r same. ap (λ (k : Key). key_eq k r) (exact_key p q same);
}

-- what holds of each key in a list holds of one that is equal to one of them
found : (P : Key → Type 0) (q : Key) (keys : List Key) → ((k : Key) → Contains keys k → P k) → list_any (key_eq q) keys ≡ true → P q
found P q [] each h = cc
found P q (k ∷ keys) each h = go (key_eq q k) refl h (found P q keys (λ x holds. each x (suc holds.0, omega (arith, holds.1), holds.2)))
  where
    go : (b : Bool) → key_eq q k ≡ b → (b || list_any (key_eq q) keys) ≡ true → (list_any (key_eq q) keys ≡ true → P q) → P q
    go true e h later = subst P (sym (exact_key q k e)) (each k (0, omega arith, refl))
    go false e h later = later h

two_flags_hold : (P : List Bool → Type 0) → ((a b : Bool) → P (a ∷ b ∷ [])) → (flags : List Bool) → length flags ≡ 2 → P flags
two_flags_hold P h [] l = cc
two_flags_hold P h (a ∷ []) l = cc
two_flags_hold P h (a ∷ b ∷ []) l = h a b
two_flags_hold P h (a ∷ b ∷ c ∷ more) l = absurd (omega (arith, l))

-- a state of an element has one move at most
html_moves : (a b : Bool) → moves_at (shapes_in mini_table) (0, a ∷ b ∷ []) ≤ 1
unfolding mini_table places firsts positions may_be_empty
html_moves true true = omega arith
html_moves true false = omega arith
html_moves false true = omega arith
html_moves false false = omega arith

body_moves : (a b : Bool) → moves_at (shapes_in mini_table) (1, a ∷ b ∷ []) ≤ 1
unfolding mini_table places firsts positions may_be_empty
body_moves true true = omega arith
body_moves true false = omega arith
body_moves false true = omega arith
body_moves false false = omega arith

few_moves : (k : Key) → IsReached (shapes_in mini_table) k → moves_at (shapes_in mini_table) k ≤ 1
unfolding mini_table places firsts positions may_be_empty
few_moves (zero, flags) r = two_flags_hold (λ f. moves_at (shapes_in mini_table) (0, f) ≤ 1) html_moves flags (reached_sized (shapes_in mini_table) (0, flags) _ (all_sized mini_table.elements) r refl)
few_moves (suc zero, flags) r = two_flags_hold (λ f. moves_at (shapes_in mini_table) (1, f) ≤ 1) body_moves flags (reached_sized (shapes_in mini_table) (1, flags) _ (all_sized mini_table.elements) r refl)
few_moves (suc (suc zero), flags) r = omega arith
few_moves (suc (suc (suc e)), flags) r = omega arith

all_few : (keys : List Key) → ((k : Key) → Contains keys k → moves_at (shapes_in mini_table) k ≤ 1) → moves_in (shapes_in mini_table) keys ≤ length keys
all_few [] each = omega arith
all_few (k ∷ keys) each =
    let one : moves_at (shapes_in mini_table) k ≤ 1 = each k (0, omega arith, refl) in
    let others : moves_in (shapes_in mini_table) keys ≤ length keys = all_few keys (λ x holds. each x (suc holds.0, omega (arith, holds.1), holds.2)) in
    omega (arith, one, others)

few_keys : (keys : List Key) → IsDistinct key_eq keys → ((k : Key) → Contains keys k → IsReached (shapes_in mini_table) k) → length keys ≤ 9
unfolding states
few_keys keys apart all =
    length-le_from_is_member keys_agree keys states apart (λ q h. found (λ k. list_any (key_eq k) states ≡ true) q keys (λ k holds. listed k (all k holds)) h)

few_pairs : pairs_in (shapes_in mini_table) ≤ 1
unfolding mini_table places firsts positions may_be_empty
few_pairs = omega arith

pub mini_is_small : (count : ℕ) → HasLargeModels mini_table count → ⊥
mini_is_small count (many_states over (keys, long, apart, all)) = let few = few_keys keys apart all in omega (arith, few, long, over)
mini_is_small count (many_pairs over is) = let few = few_pairs in omega (arith, few, is, over)
mini_is_small count (many_moves over (keys, apart, all, most)) =
    let few = few_keys keys apart all in
    let moves = all_few keys (λ k holds. few_moves k (all k holds)) in
    omega (arith, few, moves, most, over)
