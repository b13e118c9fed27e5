-- The moves and ends of a state, found by their places.
use Rattle.std.proofs.Common.{◌≡◌, ◌==◌, ℕ, ◌+◌, ◌<◌, ◌≤◌, ◌↔◌, Bool, true, false, ◌&&◌, zero, suc, List, [], ◌∷◌, ◌++◌, length, map, take, get_or, slice_get, Option, Some, None, Contains, refl, sym, ◌∙◌, ap, subst, arith, cond, min, max, nat_le, append-nil, add-zero, zero-add, inl, inr}
use Rattle.std.specs.List.{filter}
use Rattle.std.proofs.lemmas.List.{take_more, take_all, length-map, get_or-map, map-append}
use Rattle.std.proofs.lemmas.List.Elements.{Contains-append_right, Contains-append_cases, All-contains, All-filter, All-contains_itself}
use Rattle.std.proofs.lemmas.Bool.{false≢true, cases_Bool, cond-true, cond-false, le-leb, leb-true}
use Rattle.std.specs.Cmp.{first_so, second_so}
use Rattle.std.proofs.lemmas.Map.Views.{exact_unsigned_eq}
use Rattle.std.proofs.lemmas.Cmp.{nat_eq_equiv}
use Rattle.std.proofs.lemmas.Option.{slice_get_cases, slice_get_past, slice_get_read, get_or_from_slice_get}
use Rattle.std.specs.declared.vec.Vec.{Vec}
use Rattle.std.specs.declared.alloc.Global.{Global}
use Rattle.numbered_sets.specs.Places.{places_of, AreInOrder}
use Rattle.text_base.specs.declared.byte_range.ByteRange.{ByteRange}
use Rattle.text_base.specs.ByteRange.{InRange, InBoth}
use Rattle.text_base.specs.declared.letter.Letter.{Letter}
use Rattle.fst_core.specs.Choices.{stops}
use Rattle.fst_core.specs.Offers.{Offers, OffersLast, offer_of, offers_of, meets}
use Rattle.fst_core.specs.Tables.{TableStep, TableStop}
use Rattle.fst_core.specs.declared.out.Out.{Out}
use Rattle.fst_core.specs.declared.machine.Move.{Move}
use Rattle.fst_core.specs.declared.moves.TableMove.{TableMove}
use Rattle.fst_core.specs.declared.moves.TableEnd.{TableEnd}
use Rattle.fst_core.proofs.LayerLemmas.{none_in, one_in}
use Rattle.fst_core.proofs.OfferLemmas.{OffersFirst, offers_all, LastsFirst, lasts_all}

-- those with the key, in their order
abbrev pub of_key : {X : Type 0} → (X → ℕ) → List X → ℕ → List X
of_key key xs s = filter (λ x. key x == s) xs

lead_cases : {X : Type 0} (b : Bool) (all : List X) (i : ℕ) (x : X) (places : List ℕ) (own : List X) → slice_get all i ≡ Some x → map (slice_get all) places ≡ map (λ (y : X). Some y) own → map (slice_get all) (cond b (i ∷ places) places) ≡ map (λ (y : X). Some y) (cond b (x ∷ own) own)
lead_cases true all i x places own first ih = rw (first, ih) refl
lead_cases false all i x places own first ih = ih

next_place : (i k : ℕ) → (i + 1) + k ≡ i + suc k
next_place i k = omega arith

-- the places of a key lead to those that have it
places_lead : {X : Type 0} (key : X → ℕ) (all xs : List X) (s i : ℕ) → ((k : ℕ) → slice_get all (i + k) ≡ slice_get xs k) → map (slice_get all) (places_of (map key xs) s i) ≡ map (λ (y : X). Some y) (of_key key xs s)
places_lead key all [] s i h = refl
places_lead key all (x ∷ xs) s i h =
    lead_cases (key x == s) all i x (places_of (map key xs) s (i + 1)) (of_key key xs s) (ap (slice_get all) (sym (add-zero i)) ∙ h 0)
    (places_lead key all xs s (i + 1) (λ k. ap (slice_get all) (next_place i k) ∙ h (suc k)))

all_lead : {X : Type 0} (key : X → ℕ) (all : List X) (s : ℕ) (places : List ℕ) → places ≡ places_of (map key all) s 0 → map (slice_get all) places ≡ map (λ (y : X). Some y) (of_key key all s)
all_lead key all s places is =
    ap (map (slice_get all)) is ∙ places_lead key all all s 0 (λ k. ap (slice_get all) (zero-add k))

-- there are as many places as moves of the state
pub as_many : {X : Type 0} (key : X → ℕ) (all : List X) (s : ℕ) (places : List ℕ) → places ≡ places_of (map key all) s 0 → length places ≡ length (of_key key all s)
as_many {X} key all s places is =
    sym (length-map places (slice_get all)) ∙ ap length (all_lead key all s places is) ∙ length-map (of_key key all s) (λ (y : X). Some y)

-- each place leads to the move in its turn
pub placed : {X : Type 0} (key : X → ℕ) (all : List X) (s : ℕ) (places : List ℕ) (j : ℕ) (x : X) → places ≡ places_of (map key all) s 0 → j < length places → slice_get all (get_or places j 0) ≡ Some (get_or (of_key key all s) j x)
placed {X} key all s places j x is h =
    let own = of_key key all s in
    let w : j < length own = omega (arith, h, as_many key all s places is) in
    sym (get_or-map (slice_get all) places j 0 None h) ∙ ap (λ (ys : List (Option X)). get_or ys j None) (all_lead key all s places is) ∙ get_or-map (λ (y : X). Some y) own j x None w

some_at : {X : Type 0} (own : List X) (j : ℕ) → j < length own → get_or (map (λ (y : X). Some y) own) j None ≡ None → ⊥
some_at [] j h e = omega (arith, h)
some_at (x ∷ own) zero h e = cc
some_at (x ∷ own) (suc j) h e = some_at own j (omega (arith, h)) e

-- a place is one of the list
pub placed_within : {X : Type 0} (key : X → ℕ) (all : List X) (s : ℕ) (places : List ℕ) (j : ℕ) → places ≡ places_of (map key all) s 0 → j < length places → get_or places j 0 < length all
placed_within {X} key all s places j is h = elim (slice_get_cases all (get_or places j 0)).1 [
  | inl found ↦ found.1
  | inr past ↦
      let own = of_key key all s in
      let w : j < length own = omega (arith, h, as_many key all s places is) in
      let none : get_or (map (λ (y : X). Some y) own) j None ≡ None =
      ap (λ (ys : List (Option X)). get_or ys j None) (sym (all_lead key all s places is)) ∙ get_or-map (slice_get all) places j 0 None h ∙ slice_get_past all (get_or places j 0) past.0 in
      absurd (some_at own j w none)
]

-- what stands at a place in its turn
pub placed_is : {X : Type 0} (key : X → ℕ) (all : List X) (s : ℕ) (places : List ℕ) (j : ℕ) (x : X) → places ≡ places_of (map key all) s 0 → j < length places → x ≡ get_or all (get_or places j 0) x → x ≡ get_or (of_key key all s) j x
placed_is key all s places j x is h found =
    found ∙ get_or_from_slice_get all (get_or places j 0) (get_or (of_key key all s) j x) x (placed key all s places j x is h)

-- the list that an index has for a state
pub in_turn : (keys : List ℕ) (index : List (Vec ℕ Global)) (s : ℕ) (v : Vec ℕ Global) (places : List ℕ) → AreInOrder keys index → s < length index → v ≡ get_or index s v → places ≡ v.items → places ≡ places_of keys s 0
in_turn keys index s v places order inside is e =
    e ∙ order s v (slice_get_read index (length index) s v refl inside is)

in_cond : {X : Type 0} (b : Bool) (y : X) (own : List X) (x : X) → Contains own x → Contains (cond b (y ∷ own) own) x
in_cond true y own x c = Contains-append_right (y ∷ []) own x c
in_cond false y own x c = c

first_in : {X : Type 0} (b : Bool) (y : X) (own : List X) → b ≡ true → Contains (cond b (y ∷ own) own) y
first_in true y own e = (0, omega arith, refl)
first_in false y own e = absurd (false≢true e)

-- those with the key are just those of the list that have it
of_key_sound : {X : Type 0} (key : X → ℕ) (xs : List X) (s : ℕ) (x : X) → Contains (of_key key xs s) x → Contains xs x
of_key_sound {X} key xs s x c =
    All-contains (Contains xs) (of_key key xs s) x (All-filter (λ (y : X). key y == s) (Contains xs) xs (All-contains_itself xs)) c

of_key_full : {X : Type 0} (key : X → ℕ) (xs : List X) (s : ℕ) (x : X) → Contains xs x → key x ≡ s → Contains (of_key key xs s) x
of_key_full key [] s x c e = absurd (none_in x c)
of_key_full key (y ∷ xs) s x c e = elim (Contains-append_cases (y ∷ []) xs x c) [
  | inl d ↦
      let one : x ≡ y = one_in y x d in
      let test : (key y == s) ≡ true = ap (λ n. n == s) (ap key (sym one) ∙ e) ∙ nat_eq_equiv.refl s in
      subst (Contains (of_key key (y ∷ xs) s)) (sym one) (first_in (key y == s) y (of_key key xs s) test)
  | inr d ↦ in_cond (key y == s) y (of_key key xs s) x (of_key_full key xs s x d e)
]

own_steps : (moves : List TableMove) (s byte t : ℕ) (letters : List Letter) → TableStep (of_key (λ (m : TableMove). m.from) moves s) s byte t letters ↔ TableStep moves s byte t letters
own_steps moves s byte t letters = (
  λ h. (h.0, of_key_sound (λ (m : TableMove). m.from) moves s h.0 h.1, h.2, h.3, h.4, h.5),
  λ h. (h.0, of_key_full (λ (m : TableMove). m.from) moves s h.0 h.1 h.2, h.2, h.3, h.4, h.5),
)

own_stops : (ends : List TableEnd) (s : ℕ) (letters : List Letter) → TableStop (of_key (λ (e : TableEnd). e.state) ends s) s letters ↔ TableStop ends s letters
own_stops ends s letters = (
  λ h. (h.0, of_key_sound (λ (e : TableEnd). e.state) ends s h.0 h.1, h.2, h.3),
  λ h. (h.0, of_key_full (λ (e : TableEnd). e.state) ends s h.0 h.1 h.2, h.2, h.3),
)

-- what the moves of a state offer is what those of the table offer there
pub own_offers : (moves : List TableMove) (n : ℕ) (offered : List (Move ℕ)) (s states : ℕ) (range : ByteRange) → length (of_key (λ (m : TableMove). m.from) moves s) ≤ n → OffersFirst (of_key (λ (m : TableMove). m.from) moves s) n offered s states range → (byte : ℕ) → InRange range byte → (t : ℕ) (letters : List Letter) → Offers offered byte t letters ↔ TableStep moves s byte t letters
own_offers moves n offered s states range h before byte r t letters =
    let a = offers_all (of_key (λ (m : TableMove). m.from) moves s) n offered s states range h before byte r t letters in
    let b = own_steps moves s byte t letters in
    (λ o. b.0 (a.0 o), λ k. a.1 (b.1 k))

pub own_lasts : (ends : List TableEnd) (n : ℕ) (lasts : List (Vec Out Global)) (s : ℕ) → length (of_key (λ (e : TableEnd). e.state) ends s) ≤ n → LastsFirst (of_key (λ (e : TableEnd). e.state) ends s) n lasts s → (letters : List Letter) → OffersLast lasts letters ↔ TableStop ends s letters
own_lasts ends n lasts s h before letters =
    let a = lasts_all (of_key (λ (e : TableEnd). e.state) ends s) n lasts s h before letters in
    let b = own_stops ends s letters in
    (λ o. b.0 (a.0 o), λ k. a.1 (b.1 k))

cond_append : {A : Type 0} (b : Bool) (x : A) (xs ys : List A) → cond b (x ∷ (xs ++ ys)) (xs ++ ys) ≡ cond b (x ∷ xs) xs ++ ys
cond_append true x xs ys = refl
cond_append false x xs ys = refl

offer_in : TableMove → ByteRange → ℕ × ℕ × List Out × ℕ
offer_in m range = (max m.range.lo range.lo, min m.range.hi range.hi, m.out.items, m.to)

offers_append : (xs ys : List TableMove) (s : ℕ) (range : ByteRange) → offers_of (xs ++ ys) s range ≡ offers_of xs s range ++ offers_of ys s range
unfolding offer_in
offers_append [] ys s range = refl
offers_append (m ∷ xs) ys s range =
    ap (λ (r : List (ℕ × ℕ × List Out × ℕ)). cond (m.from == s && meets m.range range) (offer_in m range ∷ r) r) (offers_append xs ys s range)
    ∙ cond_append (m.from == s && meets m.range range) (offer_in m range) (offers_of xs s range) (offers_of ys s range)

stops_append : (xs ys : List TableEnd) (s : ℕ) → stops (xs ++ ys) s ≡ stops xs s ++ stops ys s
stops_append [] ys s = refl
stops_append (e ∷ xs) ys s =
    ap (λ (r : List (List Out)). cond (e.state == s) (e.out.items ∷ r) r) (stops_append xs ys s) ∙ cond_append (e.state == s) e.out.items (stops xs s) (stops ys s)

offers_cond : (b : Bool) (m : TableMove) (own : List TableMove) (s : ℕ) (range : ByteRange) → offers_of (cond b (m ∷ own) own) s range ≡ cond b (offers_of (m ∷ own) s range) (offers_of own s range)
offers_cond true m own s range = refl
offers_cond false m own s range = refl

stops_cond : (b : Bool) (e : TableEnd) (own : List TableEnd) (s : ℕ) → stops (cond b (e ∷ own) own) s ≡ cond b (stops (e ∷ own) s) (stops own s)
stops_cond true e own s = refl
stops_cond false e own s = refl

nested_both : {A : Type 0} (b c : Bool) (x : A) (xs : List A) → cond b (cond (b && c) (x ∷ xs) xs) xs ≡ cond (b && c) (x ∷ xs) xs
nested_both true c x xs = refl
nested_both false c x xs = refl

nested_one : {A : Type 0} (b : Bool) (x : A) (xs : List A) → cond b (cond b (x ∷ xs) xs) xs ≡ cond b (x ∷ xs) xs
nested_one true x xs = refl
nested_one false x xs = refl

-- the moves of a state offer there what all moves do
offers_own : (moves : List TableMove) (s : ℕ) (range : ByteRange) → offers_of (of_key (λ (m : TableMove). m.from) moves s) s range ≡ offers_of moves s range
unfolding offer_in
offers_own [] s range = refl
offers_own (m ∷ moves) s range =
    let own = of_key (λ (m : TableMove). m.from) moves s in
    offers_cond (m.from == s) m own s range ∙ nested_both (m.from == s) (meets m.range range) (offer_in m range) (offers_of own s range)
    ∙ ap (λ (r : List (ℕ × ℕ × List Out × ℕ)). cond (m.from == s && meets m.range range) (offer_in m range ∷ r) r) (offers_own moves s range)

stops_own : (ends : List TableEnd) (s : ℕ) → stops (of_key (λ (e : TableEnd). e.state) ends s) s ≡ stops ends s
stops_own [] s = refl
stops_own (e ∷ ends) s =
    let own = of_key (λ (e : TableEnd). e.state) ends s in
    stops_cond (e.state == s) e own s ∙ nested_one (e.state == s) e.out.items (stops own s)
    ∙ ap (λ (r : List (List Out)). cond (e.state == s) (e.out.items ∷ r) r) (stops_own ends s)

-- one move more is offered once
pub once_more : (own : List TableMove) (j : ℕ) (m : TableMove) (old new : List (Move ℕ)) (s : ℕ) (range : ByteRange) → j < length own → m ≡ get_or own j m → map offer_of old ≡ offers_of (take j own) s range → map offer_of new ≡ map offer_of old ++ offers_of (m ∷ []) s range → map offer_of new ≡ offers_of (take (j + 1) own) s range
once_more own j m old new s range h is before more =
    let e : take (j + 1) own ≡ take j own ++ m ∷ [] = take_more own j m h ∙ ap (λ (y : TableMove). take j own ++ y ∷ []) (sym is) in
    more ∙ ap (λ (x : List (ℕ × ℕ × List Out × ℕ)). x ++ offers_of (m ∷ []) s range) before ∙ sym (offers_append (take j own) (m ∷ []) s range)
    ∙ ap (λ (x : List TableMove). offers_of x s range) (sym e)

pub once_all : (moves : List TableMove) (n : ℕ) (offered : List (Move ℕ)) (s : ℕ) (range : ByteRange) → length (of_key (λ (m : TableMove). m.from) moves s) ≤ n → map offer_of offered ≡ offers_of (take n (of_key (λ (m : TableMove). m.from) moves s)) s range → map offer_of offered ≡ offers_of moves s range
once_all moves n offered s range h before =
    before ∙ ap (λ (x : List TableMove). offers_of x s range) (take_all n (of_key (λ (m : TableMove). m.from) moves s) h) ∙ offers_own moves s range

-- one end more is offered once
pub last_more : (own : List TableEnd) (j : ℕ) (e : TableEnd) (old new : List (Vec Out Global)) (s : ℕ) → j < length own → e ≡ get_or own j e → map (λ (x : Vec Out Global). x.items) old ≡ stops (take j own) s → map (λ (x : Vec Out Global). x.items) new ≡ map (λ (x : Vec Out Global). x.items) old ++ stops (e ∷ []) s → map (λ (x : Vec Out Global). x.items) new ≡ stops (take (j + 1) own) s
last_more own j e old new s h is before more =
    let q : take (j + 1) own ≡ take j own ++ e ∷ [] = take_more own j e h ∙ ap (λ (y : TableEnd). take j own ++ y ∷ []) (sym is) in
    more ∙ ap (λ (x : List (List Out)). x ++ stops (e ∷ []) s) before ∙ sym (stops_append (take j own) (e ∷ []) s) ∙ ap (λ (x : List TableEnd). stops x s) (sym q)

pub last_all : (ends : List TableEnd) (n : ℕ) (lasts : List (Vec Out Global)) (s : ℕ) → length (of_key (λ (e : TableEnd). e.state) ends s) ≤ n → map (λ (x : Vec Out Global). x.items) lasts ≡ stops (take n (of_key (λ (e : TableEnd). e.state) ends s)) s → map (λ (x : Vec Out Global). x.items) lasts ≡ stops ends s
last_all ends n lasts s h before =
    before ∙ ap (λ (x : List TableEnd). stops x s) (take_all n (of_key (λ (e : TableEnd). e.state) ends s) h) ∙ stops_own ends s

differs_test : (a b : ℕ) → (a ≡ b → ⊥) → (a == b) ≡ false
differs_test a b h = elim (cases_Bool (a == b)) [ inl t ↦ absurd (h (exact_unsigned_eq a b t)) | inr f ↦ f ]

offer_test : (m : TableMove) (s : ℕ) (range : ByteRange) → m.from ≡ s → m.range.lo ≤ range.hi → range.lo ≤ m.range.hi → (m.from == s && meets m.range range) ≡ true
offer_test m s range from a b =
    let first : (m.from == s) ≡ true = ap (λ n. n == s) from ∙ nat_eq_equiv.refl s in
    rw (first, le-leb m.range.lo range.hi a, le-leb range.lo m.range.hi b) refl

-- a move that is offered
pub once_push : (old new : List (Move ℕ)) (m : TableMove) (s : ℕ) (range met : ByteRange) (x : Move ℕ) → m.from ≡ s → new ≡ old ++ x ∷ [] → x.range ≡ met → x.out.items ≡ m.out.items → x.to ≡ m.to → ((byte : ℕ) → InRange met byte ↔ InBoth m.range range byte) → map offer_of new ≡ map offer_of old ++ offers_of (m ∷ []) s range
unfolding offer_in
once_push old new m s range met x from e r o t both =
    let low : InBoth m.range range met.lo = (both met.lo).0 (omega arith, met.ordered) in
    let high : InBoth m.range range met.hi = (both met.hi).0 (met.ordered, omega arith) in
    let a : m.range.lo ≤ met.lo = low.0.0 in
    let b : met.lo ≤ m.range.hi = low.0.1 in
    let c : range.lo ≤ met.lo = low.1.0 in
    let d : met.lo ≤ range.hi = low.1.1 in
    let f : m.range.lo ≤ met.hi = high.0.0 in
    let g : met.hi ≤ m.range.hi = high.0.1 in
    let h : range.lo ≤ met.hi = high.1.0 in
    let i : met.hi ≤ range.hi = high.1.1 in
    let first : InRange met (max m.range.lo range.lo) = (both (max m.range.lo range.lo)).1 ((omega arith, omega arith), (omega arith, omega arith)) in
    let last : InRange met (min m.range.hi range.hi) = (both (min m.range.hi range.hi)).1 ((omega arith, omega arith), (omega arith, omega arith)) in
    let j : met.lo ≤ max m.range.lo range.lo = first.0 in
    let k : min m.range.hi range.hi ≤ met.hi = last.1 in
    let lo : x.range.lo ≡ max m.range.lo range.lo = ap (λ (y : ByteRange). y.lo) r ∙ (omega arith) in
    let hi : x.range.hi ≡ min m.range.hi range.hi = ap (λ (y : ByteRange). y.hi) r ∙ (omega arith) in
    let quad : ℕ → ℕ → List Out → ℕ → ℕ × ℕ × List Out × ℕ = λ u v w z. (u, v, w, z) in
    let same : offer_of x ≡ offer_in m range =
    ap (λ u. quad u x.range.hi x.out.items x.to) lo ∙ ap (λ v. quad (max m.range.lo range.lo) v x.out.items x.to) hi
    ∙ ap (λ w. quad (max m.range.lo range.lo) (min m.range.hi range.hi) w x.to) o ∙ ap (λ z. quad (max m.range.lo range.lo) (min m.range.hi range.hi) m.out.items z) t in
    let test : (m.from == s && meets m.range range) ≡ true = offer_test m s range from (omega arith) (omega arith) in
    ap (map offer_of) e ∙ map-append offer_of old (x ∷ []) ∙ ap (λ (y : ℕ × ℕ × List Out × ℕ). map offer_of old ++ y ∷ []) same
    ∙ ap (λ (y : List (ℕ × ℕ × List Out × ℕ)). map offer_of old ++ y) (sym (cond-true (m.from == s && meets m.range range) (offer_in m range ∷ []) [] test))

once_none : (old : List (Move ℕ)) (m : TableMove) (s : ℕ) (range : ByteRange) → (m.from == s && meets m.range range) ≡ false → map offer_of old ≡ map offer_of old ++ offers_of (m ∷ []) s range
unfolding offer_in
once_none old m s range test =
    sym (append-nil (map offer_of old)) ∙ ap (λ (y : List (ℕ × ℕ × List Out × ℕ)). map offer_of old ++ y) (sym (cond-false (m.from == s && meets m.range range) (offer_in m range ∷ []) [] test))

-- a move of another state
pub once_other : (old : List (Move ℕ)) (m : TableMove) (s : ℕ) (range : ByteRange) → (m.from ≡ s → ⊥) → map offer_of old ≡ map offer_of old ++ offers_of (m ∷ []) s range
once_other old m s range differs =
    once_none old m s range (rw (differs_test m.from s differs) refl)

-- a move by other bytes
pub once_apart : (old : List (Move ℕ)) (m : TableMove) (s : ℕ) (range : ByteRange) → ((byte : ℕ) → InBoth m.range range byte → ⊥) → map offer_of old ≡ map offer_of old ++ offers_of (m ∷ []) s range
once_apart old m s range apart =
    once_none old m s range (elim (cases_Bool (m.from == s && meets m.range range)) [
      | inl test ↦
          let meet = second_so (m.from == s) (meets m.range range) test in
          let a : m.range.lo ≤ range.hi = leb-true m.range.lo range.hi (first_so (nat_le m.range.lo range.hi) (nat_le range.lo m.range.hi) meet) in
          let b : range.lo ≤ m.range.hi = leb-true range.lo m.range.hi (second_so (nat_le m.range.lo range.hi) (nat_le range.lo m.range.hi) meet) in
          let c : m.range.lo ≤ m.range.hi = m.range.ordered in
          let d : range.lo ≤ range.hi = range.ordered in
          absurd (apart (max m.range.lo range.lo) ((omega arith, omega arith), (omega arith, omega arith)))
      | inr test ↦ test
    ])

-- an end that is offered
pub last_push : (old new : List (Vec Out Global)) (e : TableEnd) (s : ℕ) (x : Vec Out Global) → e.state ≡ s → new ≡ old ++ x ∷ [] → x.items ≡ e.out.items → map (λ (y : Vec Out Global). y.items) new ≡ map (λ (y : Vec Out Global). y.items) old ++ stops (e ∷ []) s
last_push old new e s x state eq o =
    let test : (e.state == s) ≡ true = ap (λ n. n == s) state ∙ nat_eq_equiv.refl s in
    ap (map (λ (y : Vec Out Global). y.items)) eq ∙ map-append (λ (y : Vec Out Global). y.items) old (x ∷ [])
    ∙ ap (λ (y : List Out). map (λ (z : Vec Out Global). z.items) old ++ y ∷ []) o
    ∙ ap (λ (y : List (List Out)). map (λ (z : Vec Out Global). z.items) old ++ y) (sym (cond-true (e.state == s) (e.out.items ∷ []) [] test))

-- an end of another state
pub last_other : (old : List (Vec Out Global)) (e : TableEnd) (s : ℕ) → (e.state ≡ s → ⊥) → map (λ (y : Vec Out Global). y.items) old ≡ map (λ (y : Vec Out Global). y.items) old ++ stops (e ∷ []) s
last_other old e s differs =
    sym (append-nil (map (λ (y : Vec Out Global). y.items) old))
    ∙ ap (λ (y : List (List Out)). map (λ (z : Vec Out Global). z.items) old ++ y) (sym (cond-false (e.state == s) (e.out.items ∷ []) [] (differs_test e.state s differs)))
