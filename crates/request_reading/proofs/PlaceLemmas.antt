-- The items of a list under their places.
use Rattle.std.proofs.Common.{◌≡◌, ◌≤◌, ◌<◌, ℕ, zero, suc, ◌+◌, ℤ, pos, Bool, true, false, if◌then◌else◌, List, [], ◌∷◌, ◌++◌, length, get_or, take, sym, ap, ◌∙◌, subst, arith}
use Rattle.std.specs.Ordering.{int_eq}
use Rattle.std.proofs.lemmas.Bool.{and_parts, false_from_ne_true}
use Rattle.std.proofs.lemmas.Bool.Decides.{Decides-int_eq}
use Rattle.std.proofs.lemmas.List.{take_more, length-take-le}
use Rattle.plain_values.specs.Plain.{Plain, Pairs, int_key, empty, pair, depth}
use Rattle.plain_values.specs.Keys.{same_key}
use Rattle.plain_values.specs.Lawful.{IsKey, HasValues}
use Rattle.plain_values.specs.Members.{put_pair}
use Rattle.plain_values.specs.Numeric.{is_in_range}
use Rattle.serde_json.specs.Data.{items_depth}
use Rattle.serde_json.specs.Data as json
use Rattle.serde_json.specs.View.{view, items_view}
use Rattle.serde_json.specs.declared.value.Value.{Value}
use Rattle.request_reading.specs.RequestFile.{value_of, places_of, is_member, are_items}
use Rattle.request_reading.proofs.ArrayLemmas.{IsMade, none_made, put_made, shallow}

same_number : (n m : ℕ) → pos n ≡ pos m → n ≡ m
same_number n m e = cc

other_place : (n m : ℕ) → n < m → same_key (int_key (pos n)) (int_key (pos m)) ≡ false
other_place n m h = false_from_ne_true (int_eq (pos n) (pos m)) (λ t. absurd (omega (arith, h, same_number n m ((Decides-int_eq (pos n) (pos m)).0 t))))

put_place : (n : ℕ) (vs : List Value) (v : Value) → put_pair (places_of n (items_view vs)) (int_key (pos (n + length vs))) (value_of (view v)) ≡ places_of n (items_view (vs ++ v ∷ []))
put_place n [] v = let s : n + 0 ≡ n = omega arith in ap (λ k. pair (int_key (pos k)) (value_of (view v)) empty) s
put_place n (u ∷ vs) v =
    let s : n + suc (length vs) ≡ suc n + length vs = omega arith in
    ap (λ (b : Bool). if b then pair (int_key (pos n)) (value_of (view v)) (places_of (suc n) (items_view vs)) else pair (int_key (pos n)) (value_of (view u)) (put_pair (places_of (suc n) (items_view vs)) (int_key (pos (n + suc (length vs)))) (value_of (view v))))
    (other_place n (n + suc (length vs)) (omega arith))
    ∙ ap (λ k. pair (int_key (pos n)) (value_of (view u)) (put_pair (places_of (suc n) (items_view vs)) (int_key (pos k)) (value_of (view v)))) s
    ∙ ap (pair (int_key (pos n)) (value_of (view u))) (put_place (suc n) vs v)

-- an item of a list
pub item_form : (vs : List Value) (i : ℕ) (d : Value) → are_items (items_view vs) ≡ true → i < length vs → is_member (view (get_or vs i d)) ≡ true
item_form [] i d h l = absurd (omega (arith, l))
item_form (v ∷ vs) zero d h l = (and_parts (is_member (view v)) (are_items (items_view vs)) h).0
item_form (v ∷ vs) (suc i) d h l = item_form vs i d (and_parts (is_member (view v)) (are_items (items_view vs)) h).1 (omega (arith, l))

pub item_nests : (n : ℕ) (vs : List Value) (i : ℕ) (d : Value) → items_depth (items_view vs) ≤ n → i < length vs → json.depth (view (get_or vs i d)) ≤ n
item_nests n [] i d h l = absurd (omega (arith, l))
item_nests n (v ∷ vs) zero d h l = omega (arith, h)
item_nests n (v ∷ vs) (suc i) d h l = item_nests n vs i d (omega (arith, h)) (omega (arith, l))

-- the items of a list up to a place
pub record PlacesMade (all : List Value) (i : ℕ) (made : Pairs) : Type 0 where
  pub pairs : made ≡ places_of 0 (items_view (take i all))
  pub is_made : IsMade made

pub places_begin : (all : List Value) (made : Pairs) → made ≡ empty → PlacesMade all 0 made
places_begin all made e = record { pairs = e; is_made = none_made made e }

pub place_more : (all : List Value) (i : ℕ) (x : Value) (made made' : Pairs) (k : ℤ) (v : Plain) → PlacesMade all i made → i < length all → x ≡ get_or all i x → items_depth (items_view all) ≤ 126 → is_in_range (pos i) ≡ true
    → k ≡ pos i → v ≡ value_of (view x) → HasValues v → made' ≡ put_pair made (int_key k) v → PlacesMade all (i + 1) made'
place_more all i x made made' k v m l xis low range kis vis has is =
    let nests : json.depth (view x) ≤ 126 = subst (λ y. json.depth (view y) ≤ 126) (sym xis) (item_nests 126 all i x low l) in
    let flat : depth v ≤ 126 = subst (λ u. depth u ≤ 126) (sym vis) (omega (arith, shallow (view x), nests)) in
    let count : 0 + length (take i all) ≡ i = omega (arith, length-take-le i all (omega (arith, l))) in
    let key : IsKey (int_key k) = subst (λ z. is_in_range z ≡ true) (sym kis) range in
    record {
      pairs = is ∙ ap (λ ps. put_pair ps (int_key k) v) m.pairs ∙ ap (λ z. put_pair (places_of 0 (items_view (take i all))) (int_key z) v) kis ∙ ap (put_pair (places_of 0 (items_view (take i all))) (int_key (pos i))) vis
          ∙ ap (λ n. put_pair (places_of 0 (items_view (take i all))) (int_key (pos n)) (value_of (view x))) (sym count)
          ∙ put_place 0 (take i all) x
          ∙ ap (λ ys. places_of 0 (items_view (take i all ++ ys))) (ap (λ y. y ∷ []) xis)
          ∙ ap (λ ys. places_of 0 (items_view ys)) (sym (take_more all i x l));
      is_made = subst IsMade (sym is) (put_made made (int_key k) v m.is_made key has flat);
    }
