-- What a table decides.
use Rattle.std.proofs.Common.{◌≡◌, ℕ, zero, suc, ◌<◌, inl, inr, Bool, true, false, ◌&&◌, List, [], ◌∷◌, ◌++◌, length, Contains, refl, sym, ◌∙◌, ap, subst, arith, Option, Some, None, slice_get, get_or, nat_eq, eq-eqb}
use Rattle.std.specs.Bool.{beq}
use Rattle.std.specs.Cmp.Lexicographic.{pointwise}
use Rattle.std.specs.List.{IsDistinct}
use Rattle.std.proofs.lemmas.Bool.{cases_lt}
use Rattle.std.proofs.lemmas.List.Elements.{Contains-append_right}
use Rattle.std.proofs.lemmas.Map.Keys.{apart_from_distinct}
use Rattle.std.proofs.lemmas.Option.{slice_get_within}
use Rattle.dtd_model.specs.Table.{Holding}
use Rattle.dtd_model.specs.Matches.{matches}
use Rattle.content_automata.specs.Sets.{is_whole}
use Rattle.content_automata.specs.Shapes.{Shape, shape, first_state, state_behind, states_walk, then_some}
use Rattle.content_automata.specs.Tables.{Table, IsTable, Key, key_eq, CellFits, AreElements, run, ends, next_at, first_at}
use Rattle.content_automata.proofs.ShapeLemmas.{states_decide}

-- some children and then others
pub run_append : (t : Table) (s : ℕ) (es fs : List ℕ) → run t s (es ++ fs) ≡ then_some (run t s es) (λ (n : ℕ). run t n fs)
run_append t s [] fs = refl
run_append t s (e ∷ es) fs = each (next_at t s e) (λ n. run_append t n es fs)
  where
    each : (x : Option ℕ) → ((n : ℕ) → run t n (es ++ fs) ≡ then_some (run t n es) (λ (m : ℕ). run t m fs)) → then_some x (λ (n : ℕ). run t n (es ++ fs)) ≡ then_some (then_some x (λ (n : ℕ). run t n es)) (λ (m : ℕ). run t m fs)
    each None h = refl
    each (Some n) h = h n

one_more : (t : Table) (keys : List Key) (element : ℕ) (cell : Option ℕ) (found : Option (List Bool)) (f : ℕ → Option ℕ) (g : List Bool → Option (List Bool)) → CellFits keys element cell found → ((n : ℕ) (flags : List Bool) → slice_get keys n ≡ Some (element, flags) → CellFits keys element (f n) (g flags)) → CellFits keys element (then_some cell f) (then_some found g)
one_more t keys element None found f g fits later = ap (λ (x : Option (List Bool)). then_some x g) fits
one_more t keys element (Some n) found f g fits later = subst (λ (x : Option (List Bool)). CellFits keys element (f n) (then_some x g)) (sym fits.1) (later n fits.0 fits.2)

run_fits : (shapes : List Shape) (t : Table) (i : IsTable shapes t) (e : ℕ) (s : Shape) → slice_get shapes e ≡ Some s → (es : List ℕ) → AreElements (length shapes) es → (n : ℕ) (flags : List Bool) → slice_get i.keys n ≡ Some (e, flags) → CellFits i.keys e (run t n es) (states_walk (length shapes) s flags es)
run_fits shapes t i e s at [] below n flags here = (flags, refl, here)
run_fits shapes t i e s at (d ∷ es) below n flags here =
    let row = i.rows.fit n (e, flags) (slice_get_within i.keys n (e, flags) here) here in
    let one : Some row.shape_of_it ≡ Some s = sym row.declared ∙ at in
    let same : row.shape_of_it ≡ s = cc in
    let cell = row.cells_fit.fit d (below d (first_in d es)) in
    one_more t i.keys e (next_at t n d) (state_behind (length shapes) s flags d) (λ (m : ℕ). run t m es) (λ (f : List Bool). states_walk (length shapes) s f es)
    (subst (λ (x : Shape). CellFits i.keys e (next_at t n d) (state_behind (length shapes) x flags d)) same cell)
    (λ m f there. run_fits shapes t i e s at es (λ c h. below c (Contains-append_right (d ∷ []) es c h)) m f there)
  where
    first_in : (x : ℕ) (xs : List ℕ) → Contains (x ∷ xs) x
    first_in x xs = (0, omega arith, refl)

ends_fit : (shapes : List Shape) (t : Table) (i : IsTable shapes t) (e : ℕ) (cell : Option ℕ) (found : Option (List Bool)) → CellFits i.keys e cell found → ends t cell ≡ is_whole found
ends_fit shapes t i e None found fits = sym (ap is_whole fits)
ends_fit shapes t i e (Some n) found fits =
    let row = i.rows.fit n (e, fits.0) (slice_get_within i.keys n (e, fits.0) fits.2) fits.2 in
    row.end ∙ sym (ap is_whole fits.1)

within : (shapes : List Shape) (e : ℕ) (s : Shape) → slice_get shapes e ≡ Some s → e < length shapes
within shapes e s at = slice_get_within shapes e s at

-- from the state that an element begins in
pub fits_from : (shapes : List Shape) (t : Table) (i : IsTable shapes t) (e : ℕ) (s : Shape) → slice_get shapes e ≡ Some s → (es : List ℕ) → AreElements (length shapes) es → CellFits i.keys e (run t (first_at t e) es) (states_walk (length shapes) s (first_state s) es)
fits_from shapes t i e s at es below = run_fits shapes t i e s at es below (first_at t e) (first_state s) (i.firsts.fit e s (within shapes e s at) at)

pub decides : (shapes : List Shape) (t : Table) (i : IsTable shapes t) (e : ℕ) (h : Holding) → slice_get shapes e ≡ Some (shape h) → (es : List ℕ) → AreElements (length shapes) es → ends t (run t (first_at t e) es) ≡ matches (length shapes) h es
decides shapes t i e h at es below =
    ends_fit shapes t i e (run t (first_at t e) es) (states_walk (length shapes) (shape h) (first_state (shape h)) es) (fits_from shapes t i e (shape h) at es below)
    ∙ states_decide (length shapes) h es

flags_same : (xs : List Bool) → pointwise beq xs xs ≡ true
flags_same [] = refl
flags_same (true ∷ xs) = flags_same xs
flags_same (false ∷ xs) = flags_same xs

number_same : (n : ℕ) → nat_eq n n ≡ true
number_same n = eq-eqb n n refl

key_same : (k : Key) → key_eq k k ≡ true
key_same k = ap (λ (b : Bool). b && pointwise beq k.1 k.1) (number_same k.0) ∙ flags_same k.1

found_at : (keys : List Key) (i : ℕ) (k : Key) → slice_get keys i ≡ Some k → get_or keys i k ≡ k
found_at [] i k h = cc
found_at (x ∷ xs) zero k h = let same : x ≡ k = cc in same
found_at (x ∷ xs) (suc i) k h = found_at xs i k h

before : (keys : List Key) (i j : ℕ) (k : Key) → IsDistinct key_eq keys → slice_get keys i ≡ Some k → slice_get keys j ≡ Some k → i < j → ⊥
before keys i j k apart at_i at_j h =
    let differ : key_eq (get_or keys i k) (get_or keys j k) ≡ false = apart_from_distinct key_eq keys i j k apart h (slice_get_within keys j k at_j) in
    let same : key_eq k k ≡ false = subst (λ (x : Key). key_eq x k ≡ false) (found_at keys i k at_i) (subst (λ (x : Key). key_eq (get_or keys i k) x ≡ false) (found_at keys j k at_j) differ) in
    let both : true ≡ false = sym (key_same k) ∙ same in
    (let no : ⊥ = cc in no)

-- a state has one number
pub one_number : (keys : List Key) (i j : ℕ) (k : Key) → IsDistinct key_eq keys → slice_get keys i ≡ Some k → slice_get keys j ≡ Some k → i ≡ j
one_number keys i j k apart at_i at_j = elim (cases_lt i j) [
  | inl h ↦ absurd (before keys i j k apart at_i at_j h)
  | inr h ↦ elim (cases_lt j i) [ inl g ↦ absurd (before keys j i k apart at_j at_i g) | inr g ↦ omega (arith, h, g) ]
]
