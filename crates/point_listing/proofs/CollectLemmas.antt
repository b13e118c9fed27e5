-- Keys that are put one by one, each where it is a new one and there is room, are the first 64 of those that stand once.
use Rattle.std.proofs.Common.{◌≡◌, ◌≤◌, ◌<◌, ◌+◌, ℕ, suc, Bool, true, false, ◌||◌, if◌then◌else◌, List, [], ◌∷◌, ◌++◌, length, Option, Some, None, refl, sym, subst, ap, ◌∙◌, take, arith, append_assoc, get_or, drop}
use Rattle.std.specs.Prelude.{Result, Ok, Err, OnOk, flat_map, map, nat_le, not}
use Rattle.std.proofs.lemmas.Grind.{flat_map-append}
use Rattle.std.specs.List.{list_any}
use Rattle.std.proofs.lemmas.Bool.{leb-true, leb-false, le-leb, lt-leb}
use Rattle.std.proofs.lemmas.List.{drop_more, append-nil, map-append, length-append, take_all, take-append-le}
use Rattle.plain_values.specs.Plain.{PlainKey, int_key}
use Rattle.plain_values.specs.Keys.{same_key, canonical_integer, canonical_key}
use Rattle.plain_values.proofs.SameKeys.{same_is, same_back}
use Rattle.flow_code.specs.Points.{PlainKeyRef, int_ref, text_ref, read_ref, points_in}
use Rattle.flow_code.specs.View.{plain_point, plain_flow_function}
use Rattle.flow_code.specs.declared.program.FlowFunction.{FlowFunction}
use Rattle.loose_sets.specs.Keys.{literal_key, may_be_other, point_keys, listed, is_among, without_key, keys_once}
use Rattle.loose_sets.specs.Uses.{number_from}
use Rattle.point_listing.specs.declared.key.ToldKey.{ToldKey}
use Rattle.point_listing.specs.Views.{keys_seen, place_in}
use Rattle.loose_sets.proofs.Placed.{Placed, placed}
use Rattle.point_listing.specs.Collected.{told_after}

-- literals in a row
pub after_append : (told xs ys : List PlainKey) → told_after told (xs ++ ys) ≡ told_after (told_after told xs) ys
unfolding told_after
after_append told [] ys = refl
after_append told (x ∷ xs) ys = after_append (if nat_le 64 (length told) || is_among x told then told else told ++ x ∷ []) xs ys

-- those that are not told yet
pub new_ones : List PlainKey → List PlainKey → List PlainKey
new_ones told [] = []
new_ones told (k ∷ ks) = if is_among k told then new_ones told ks else k ∷ new_ones told ks

swap_or : (a b c : Bool) → (a || (b || c)) ≡ ((a || b) || c)
swap_or true b c = refl
swap_or false b c = refl

or_none : (a : Bool) → (a || false) ≡ a
or_none true = refl
or_none false = refl

or_all : (a : Bool) → (a || true) ≡ true
or_all true = refl
or_all false = refl

among_end : (j k : PlainKey) (told : List PlainKey) → is_among j (told ++ k ∷ []) ≡ (is_among j told || same_key j k)
unfolding is_among
among_end j k [] = or_none (same_key j k)
among_end j k (c ∷ cs) = ap (λ z. same_key j c || z) (among_end j k cs) ∙ swap_or (same_key j c) (list_any (same_key j) cs) (same_key j k)

-- without a key that is put behind those that are told
without_new : (k : PlainKey) (told ks : List PlainKey) → new_ones told (without_key k ks) ≡ new_ones (told ++ k ∷ []) ks
unfolding without_key new_ones
without_new k told [] = refl
without_new k told (j ∷ js) = by (same_key k j) refl (without_new k told js)
  where
    by : (b : Bool) → same_key k j ≡ b → new_ones told (without_key k js) ≡ new_ones (told ++ k ∷ []) js
        → new_ones told (if same_key k j then without_key k js else j ∷ without_key k js) ≡ (if is_among j (told ++ k ∷ []) then new_ones (told ++ k ∷ []) js else j ∷ new_ones (told ++ k ∷ []) js)
    by true e below =
        ap (λ z. new_ones told (if z then without_key k js else j ∷ without_key k js)) e ∙ (below
        ∙ sym (ap (λ z. if z then new_ones (told ++ k ∷ []) js else j ∷ new_ones (told ++ k ∷ []) js) (among_end j k told ∙ (ap (λ z. is_among j told || z) (same_back j k ∙ e) ∙ or_all (is_among j told)))))
    by false e below =
        ap (λ z. new_ones told (if z then without_key k js else j ∷ without_key k js)) e ∙ (ap (λ z. if is_among j told then z else j ∷ z) below
        ∙ sym (ap (λ z. if z then new_ones (told ++ k ∷ []) js else j ∷ new_ones (told ++ k ∷ []) js) (among_end j k told ∙ (ap (λ z. is_among j told || z) (same_back j k ∙ e) ∙ or_none (is_among j told)))))

-- a key that is told changes nothing
without_told : (k : PlainKey) (told ks : List PlainKey) → is_among k told ≡ true → new_ones told (without_key k ks) ≡ new_ones told ks
unfolding without_key new_ones
without_told k told [] among = refl
without_told k told (j ∷ js) among = by (same_key k j) refl (without_told k told js among)
  where
    by : (b : Bool) → same_key k j ≡ b → new_ones told (without_key k js) ≡ new_ones told js
        → new_ones told (if same_key k j then without_key k js else j ∷ without_key k js) ≡ (if is_among j told then new_ones told js else j ∷ new_ones told js)
    by true e below =
        ap (λ z. new_ones told (if z then without_key k js else j ∷ without_key k js)) e ∙ (below
        ∙ sym (ap (λ z. if z then new_ones told js else j ∷ new_ones told js) (subst (λ z. is_among z told ≡ true) (same_is k j e) among)))
    by false e below = ap (λ z. new_ones told (if z then without_key k js else j ∷ without_key k js)) e ∙ ap (λ z. if is_among j told then z else j ∷ z) below

-- behind these literals
abbrev IsAfter : List PlainKey → List PlainKey → Type 0
IsAfter told ks = told_after told ks ≡ take 64 (told ++ new_ones told (keys_once ks))

-- behind one more, by whether there is room and whether it is told
abbrev Goal : List PlainKey → PlainKey → List PlainKey → Bool → Bool → Type 0
Goal told k ks full among =
    told_after (if full || among then told else told ++ k ∷ []) ks ≡ take 64 (told ++ (if among then new_ones told (without_key k (keys_once ks)) else k ∷ new_ones told (without_key k (keys_once ks))))

full_is : (told : List PlainKey) → length told ≤ 64 → nat_le 64 (length told) ≡ true → (xs : List PlainKey) → take 64 (told ++ xs) ≡ told
full_is told short e xs =
    let long : 64 ≤ length told = leb-true 64 (length told) e in
    take-append-le 64 told xs long ∙ take_all 64 told short

room : (told : List PlainKey) (k : PlainKey) → nat_le 64 (length told) ≡ false → length (told ++ k ∷ []) ≤ 64
room told k e =
    let below : length told < 64 = leb-false 64 (length told) e in
    subst (λ (n : ℕ). n ≤ 64) (sym (length-append told (k ∷ []))) (omega (arith, below))

new_key : (told : List PlainKey) (k : PlainKey) (ks : List PlainKey) → length told ≤ 64 → IsAfter told ks → (length (told ++ k ∷ []) ≤ 64 → IsAfter (told ++ k ∷ []) ks) → (full : Bool) → nat_le 64 (length told) ≡ full → Goal told k ks full false
new_key told k ks short rest longer true e = rest ∙ (full_is told short e (new_ones told (keys_once ks)) ∙ sym (full_is told short e (k ∷ new_ones told (without_key k (keys_once ks)))))
new_key told k ks short rest longer false e =
    longer (room told k e) ∙ ap (λ z. take 64 z) (append_assoc told (k ∷ []) (new_ones (told ++ k ∷ []) (keys_once ks)) ∙ ap (λ z. told ++ k ∷ z) (sym (without_new k told (keys_once ks))))

old_key : (told : List PlainKey) (k : PlainKey) (ks : List PlainKey) → IsAfter told ks → (full : Bool) → is_among k told ≡ true → Goal told k ks full true
old_key told k ks rest true among = rest ∙ ap (λ z. take 64 (told ++ z)) (sym (without_told k told (keys_once ks) among))
old_key told k ks rest false among = rest ∙ ap (λ z. take 64 (told ++ z)) (sym (without_told k told (keys_once ks) among))

one_more : (told : List PlainKey) (k : PlainKey) (ks : List PlainKey) → length told ≤ 64 → IsAfter told ks → (length (told ++ k ∷ []) ≤ 64 → IsAfter (told ++ k ∷ []) ks)
    → (full : Bool) → nat_le 64 (length told) ≡ full → (among : Bool) → is_among k told ≡ among → Goal told k ks (nat_le 64 (length told)) (is_among k told)
one_more told k ks short rest longer full e true among = subst (λ z. Goal told k ks z (is_among k told)) (sym e) (subst (λ z. Goal told k ks full z) (sym among) (old_key told k ks rest full among))
one_more told k ks short rest longer full e false among = subst (λ z. Goal told k ks z (is_among k told)) (sym e) (subst (λ z. Goal told k ks full z) (sym among) (new_key told k ks short rest longer full e))

-- behind all literals
pub after_all : (ks told : List PlainKey) → length told ≤ 64 → IsAfter told ks
unfolding told_after keys_once new_ones
after_all [] told short = sym (take_all 64 (told ++ []) (subst (λ (z : List PlainKey). length z ≤ 64) (sym (append-nil told)) short) ∙ append-nil told)
after_all (k ∷ ks) told short =
    one_more told k ks short (after_all ks told short) (λ (r : length (told ++ k ∷ []) ≤ 64). after_all ks (told ++ k ∷ []) r) (nat_le 64 (length told)) refl (is_among k told) refl

new_without : (ks : List PlainKey) → new_ones [] ks ≡ ks
unfolding new_ones is_among
new_without [] = refl
new_without (k ∷ ks) = ap (λ z. k ∷ z) (new_without ks)

-- from none
pub after_none : (ks : List PlainKey) → told_after [] ks ≡ take 64 (keys_once ks)
after_none ks = after_all ks [] (omega arith) ∙ ap (λ z. take 64 z) (new_without (keys_once ks))

pub ruleset after = (after_append)

pub ruleset ends = (append-nil, append_assoc, map-append)

seen_length : (items : List ToldKey) → length (keys_seen items) ≡ length items
seen_length [] = refl
seen_length (k ∷ ks) = ap suc (seen_length ks)

-- one literal: there is no room, it is no literal, it is told, or it is a new one
pub no_room : (items : List ToldKey) (o : Option PlainKey) → 64 ≤ length items → keys_seen items ≡ told_after (keys_seen items) (listed o)
unfolding told_after
no_room items None full = refl
no_room items (Some k) full =
    let long : 64 ≤ length (keys_seen items) = subst (λ (n : ℕ). 64 ≤ n) (sym (seen_length items)) full in
    sym (ap (λ z. if z || is_among k (keys_seen items) then keys_seen items else keys_seen items ++ k ∷ []) (le-leb 64 (length (keys_seen items)) long))

pub no_literal : (items : List ToldKey) (o : Option PlainKey) (p : Option (Option ℕ)) → p ≡ place_in (keys_seen items) o → p ≡ None → keys_seen items ≡ told_after (keys_seen items) (listed o)
unfolding told_after
no_literal items None p e f = refl
no_literal items (Some k) p e f = let both : None ≡ Some (number_from 0 k (keys_seen items)) = sym f ∙ e in cc

chosen : (told : List PlainKey) (k : PlainKey) (full : Bool) → is_among k told ≡ true → told ≡ (if full || is_among k told then told else told ++ k ∷ [])
chosen told k true among = refl
chosen told k false among = sym (ap (λ z. if z then told else told ++ k ∷ []) among)

is_placed : (told : List PlainKey) (k : PlainKey) (j : ℕ) → number_from 0 k told ≡ Some j → is_among k told ≡ true
is_placed told k j e = by (placed 0 k told)
  where
    by : Placed 0 k told → is_among k told ≡ true
    by (Placed.nowhere isnt none) = let both : None ≡ Some j = sym isnt ∙ e in cc
    by (Placed.there i l number among stands sum) = among

isnt_placed : (told : List PlainKey) (k : PlainKey) → number_from 0 k told ≡ None → is_among k told ≡ false
isnt_placed told k e = by (placed 0 k told)
  where
    by : Placed 0 k told → is_among k told ≡ false
    by (Placed.nowhere isnt none) = none
    by (Placed.there i l number among stands sum) = let both : Some l ≡ None = sym number ∙ e in cc

some_is : {A : Type 0} {a b : A} → Some a ≡ Some b → a ≡ b
some_is e = cc

pub is_told : (items : List ToldKey) (o : Option PlainKey) (p : Option (Option ℕ)) (q : Option ℕ) (j : ℕ) → p ≡ place_in (keys_seen items) o → p ≡ Some q → q ≡ Some j → keys_seen items ≡ told_after (keys_seen items) (listed o)
unfolding told_after
is_told items None p q j e f g = refl
is_told items (Some k) p q j e f g =
    let number : number_from 0 k (keys_seen items) ≡ Some j = some_is (sym e ∙ f) ∙ g in
    chosen (keys_seen items) k (nat_le 64 (length (keys_seen items))) (is_placed (keys_seen items) k j number)

pub is_new : (items new : List ToldKey) (o : Option PlainKey) (p : Option (Option ℕ)) (q : Option ℕ) → length items < 64 → p ≡ place_in (keys_seen items) o → p ≡ Some q → q ≡ None
    → keys_seen new ≡ keys_seen items ++ listed o → keys_seen new ≡ told_after (keys_seen items) (listed o)
unfolding told_after
is_new items new None p q small e f g is = is ∙ append-nil (keys_seen items)
is_new items new (Some k) p q small e f g is =
    let number : number_from 0 k (keys_seen items) ≡ None = some_is (sym e ∙ f) ∙ g in
    let short : length (keys_seen items) < 64 = subst (λ (n : ℕ). n < 64) (sym (seen_length items)) small in
    is
    ∙ (sym (ap (λ z. if z then keys_seen items else keys_seen items ++ k ∷ []) (isnt_placed (keys_seen items) k number))
    ∙ sym (ap (λ z. if z || is_among k (keys_seen items) then keys_seen items else keys_seen items ++ k ∷ []) (lt-leb 64 (length (keys_seen items)) short)))

-- a written key that is none of the keys, and one that is
pub other_key : (told : List PlainKey) (k : PlainKeyRef) (p : Option (Option ℕ)) (q : Option ℕ) → p ≡ place_in told (literal_key k) → p ≡ Some q → q ≡ None → true ≡ may_be_other (Some k) told
unfolding may_be_other literal_key
other_key told (int_ref z) p q e f g = sym (ap (λ b. not b) (isnt_placed told (int_key z) (some_is (sym e ∙ f) ∙ g)))
other_key told (text_ref t) p q e f g = sym (ap (λ b. not b) (isnt_placed told (canonical_key t (canonical_integer t)) (some_is (sym e ∙ f) ∙ g)))
other_key told (read_ref x) p q e f g = refl

pub told_key : (told : List PlainKey) (k : PlainKeyRef) (p : Option (Option ℕ)) (q : Option ℕ) (j : ℕ) → p ≡ place_in told (literal_key k) → p ≡ Some q → q ≡ Some j → false ≡ may_be_other (Some k) told
unfolding may_be_other literal_key
told_key told (int_ref z) p q j e f g = sym (ap (λ b. not b) (is_placed told (int_key z) j (some_is (sym e ∙ f) ∙ g)))
told_key told (text_ref t) p q j e f g = sym (ap (λ b. not b) (is_placed told (canonical_key t (canonical_integer t)) j (some_is (sym e ∙ f) ∙ g)))
told_key told (read_ref x) p q j e f g = let both : None ≡ Some q = sym e ∙ f in cc

pub on_ok : {A E : Type 0} {P Q : Type 0} (r : Result A E) → OnOk r P → (P → Q) → OnOk r Q
on_ok (Ok x) p f = f p
on_ok (Err e) p f = tt

-- one item further of a row whose keys are those of its items
pub further : {A : Type 0} (F : List A → List PlainKey) (k : List PlainKey) (xs : List A) (i : ℕ) (x : A) (told new all : List PlainKey) → ((rest : List A) → F (x ∷ rest) ≡ k ++ F rest) → i < length xs → x ≡ get_or xs i x
    → new ≡ told_after told k → told_after told (F (drop i xs)) ≡ all → told_after new (F (drop (i + 1) xs)) ≡ all
further F k xs i x told new all step below is one before =
    ap (λ z. told_after z (F (drop (i + 1) xs))) one
    ∙ (sym (after_append told k (F (drop (i + 1) xs)))
    ∙ (ap (λ z. told_after told z) (sym (step (drop (i + 1) xs)))
    ∙ (ap (λ z. told_after told (F z)) (ap (λ z. z ∷ drop (i + 1) xs) is ∙ sym (drop_more xs i x below)) ∙ before)))

-- the keys of a function's points, and then those of the others
pub first_function : (f : FlowFunction) (fs : List FlowFunction) → flat_map point_keys (points_in (map plain_flow_function (f ∷ fs))) ≡ flat_map point_keys (map plain_point f.points.items) ++ flat_map point_keys (points_in (map plain_flow_function fs))
unfolding points_in
first_function f fs = flat_map-append point_keys (map plain_point f.points.items) (points_in (map plain_flow_function fs))
