-- The moves of states, counted one state after another.
use Rattle.std.proofs.Common.{◌≡◌, ℕ, zero, suc, ◌+◌, ◌<◌, ◌≤◌, inl, List, [], ◌∷◌, ◌++◌, length, take, drop, drop-cons, refl, sym, ◌∙◌, ap, arith, Some, None, slice_get}
use Rattle.std.specs.Prelude.{slice_index_or}
use Rattle.std.proofs.lemmas.Option.{get_or_from_slice_get}
use Rattle.std.proofs.lemmas.List.{take_more}
use Rattle.content_automata.specs.declared.refusal.ContentRefusal.{ContentRefusal}
use Rattle.content_automata.specs.declared.refusal.ContentRefusal.TheVariants.{Limit, Memory}
use Rattle.content_automata.specs.Positions.{Position}
use Rattle.content_automata.specs.Walks.{place_at}
use Rattle.content_automata.specs.Shapes.{Shape, empty}
use Rattle.content_automata.specs.Tables.{Key, Keeps}
use Rattle.content_automata.specs.Counts.{moves_from, moves_of, moves_at, moves_in}
use Rattle.content_automata.specs.Refusals.{IsOver, AreTooMany}

-- one position more
pub from_more : (ps : List Position) (ms : List ℕ) (i sum new long : ℕ) (p : Position) → i < length ms → sum + moves_from ps (drop i ms) ≡ moves_from ps ms → p ≡ place_at ps (slice_index_or ms i 0) → long ≡ length p.behind.positions → new ≡ sum + long → new + moves_from ps (drop (suc i) ms) ≡ moves_from ps ms
from_more ps ms i sum new long p h e is l made =
    let first : moves_from ps (drop i ms) ≡ length (place_at ps (slice_index_or ms i 0)).behind.positions + moves_from ps (drop (suc i) ms) = ap (moves_from ps) (drop-cons ms i 0 h) in
    let size : long ≡ length (place_at ps (slice_index_or ms i 0)).behind.positions = l ∙ ap (λ (q : Position). length q.behind.positions) is in
    omega (arith, first, size, made, e)

shape_at : (shapes : List Shape) (e : ℕ) (s : Shape) → slice_get shapes e ≡ Some s → slice_index_or shapes e empty ≡ s
shape_at shapes e s h = get_or_from_slice_get shapes e s empty h

-- the moves of a state by the shape of its element
pub moves_are : (shapes : List Shape) (k : Key) (s : Shape) (n : ℕ) → slice_get shapes k.0 ≡ Some s → n ≡ moves_of s k.1 → n ≡ moves_at shapes k
moves_are shapes k s n at is = is ∙ ap (λ (x : Shape). moves_of x k.1) (sym (shape_at shapes k.0 s at))

moves_more : (shapes : List Shape) (keys : List Key) (k : Key) → moves_in shapes (keys ++ k ∷ []) ≡ moves_in shapes keys + moves_at shapes k
moves_more shapes [] k = omega arith
moves_more shapes (x ∷ keys) k = let e = moves_more shapes keys k in omega (arith, e)

state_there : (keys : List Key) (n : ℕ) → n < length keys → (k : Key) × (slice_get keys n ≡ Some k)
state_there [] n h = absurd (omega (arith, h))
state_there (x ∷ keys) zero h = (x, refl)
state_there (x ∷ keys) (suc n) h = state_there keys n (omega (arith, h))

-- the moves of one state more
pub sum_more : (shapes : List Shape) (keys : List Key) (at sum m n : ℕ) → at < length keys → sum ≡ moves_in shapes (take at keys) → ((k : Key) → slice_get keys at ≡ Some k → m ≡ moves_at shapes k) → n ≡ sum + m → n ≡ moves_in shapes (take (at + 1) keys)
sum_more shapes keys at sum m n h was of_it made =
    let k = state_there keys at h in
    let same : take (at + 1) keys ≡ take at keys ++ k.0 ∷ [] = take_more keys at k.0 h ∙ ap (λ (z : Key). take at keys ++ z ∷ []) (get_or_from_slice_get keys at k.0 k.0 k.1) in
    let all : moves_in shapes (take (at + 1) keys) ≡ moves_in shapes (take at keys) + moves_at shapes k.0 = ap (moves_in shapes) same ∙ moves_more shapes (take at keys) k.0 in
    let one = of_it k.0 k.1 in
    omega (arith, all, one, was, made)

-- the first states have no more moves than all
pub taken_below : (shapes : List Shape) (keys : List Key) (n : ℕ) → moves_in shapes (take n keys) ≤ moves_in shapes keys
taken_below shapes [] zero = omega arith
taken_below shapes [] (suc n) = omega arith
taken_below shapes (k ∷ keys) zero = omega arith
taken_below shapes (k ∷ keys) (suc n) = let e = taken_below shapes keys n in omega (arith, e)

pub sum_below : (shapes : List Shape) (keys : List Key) (at n : ℕ) → n ≡ moves_in shapes (take at keys) → n ≤ moves_in shapes keys
sum_below shapes keys at n e = let h = taken_below shapes keys at in omega (arith, e, h)

-- states that are kept are the first ones
taken_kept : (old new : List Key) (n : ℕ) → Keeps old new → n ≤ length old → take n new ≡ take n old
taken_kept old new zero keeps h = refl
taken_kept [] new (suc n) keeps h = absurd (omega (arith, h))
taken_kept (x ∷ old) [] (suc n) keeps h = absurd (let no : None ≡ Some x = keeps 0 x refl in cc)
taken_kept (x ∷ old) (y ∷ new) (suc n) keeps h =
    let first : Some y ≡ Some x = keeps 0 x refl in
    let same : y ≡ x = cc in
    ap (λ (z : Key). z ∷ take n new) same ∙ ap (λ (ks : List Key). x ∷ ks) (taken_kept old new n (λ m k at. keeps (suc m) k at) (omega (arith, h)))

pub sum_kept : (shapes : List Shape) (old new : List Key) (at n : ℕ) → Keeps old new → at ≤ length old → n ≡ moves_in shapes (take at old) → n ≡ moves_in shapes (take at new)
sum_kept shapes old new at n keeps h e = e ∙ ap (moves_in shapes) (sym (taken_kept old new at keeps h))

all_taken : (keys : List Key) (n : ℕ) → length keys ≤ n → take n keys ≡ keys
all_taken [] zero h = refl
all_taken [] (suc n) h = refl
all_taken (k ∷ keys) zero h = absurd (omega (arith, h))
all_taken (k ∷ keys) (suc n) h = ap (λ (ks : List Key). k ∷ ks) (all_taken keys n (omega (arith, h)))

-- the moves of all states
pub sum_all : (shapes : List Shape) (keys : List Key) (at n limit : ℕ) → length keys ≤ at → n ≡ moves_in shapes (take at keys) → n ≤ limit → moves_in shapes keys ≤ limit
sum_all shapes keys at n limit h e few = let same = e ∙ ap (moves_in shapes) (all_taken keys at h) in omega (arith, same, few)

-- too many states are too much
pub over_too_many : (shapes : List Shape) (keys : List Key) (r : ContentRefusal) → IsOver keys r → AreTooMany shapes keys r
over_too_many shapes keys (Limit count) over = inl over
over_too_many shapes keys Memory over = tt

-- the moves of the state at a number
pub moves_there : (shapes : List Shape) (keys : List Key) (n count : ℕ) (key k : Key) (s : Shape) → Some key ≡ slice_get keys n → slice_get keys n ≡ Some k → slice_get shapes key.0 ≡ Some s → count ≡ moves_of s key.1 → count ≡ moves_at shapes k
moves_there shapes keys n count key k s at here of_it is =
    let one : Some key ≡ Some k = at ∙ here in
    let same : key ≡ k = cc in
    moves_are shapes key s count of_it is ∙ ap (moves_at shapes) same
