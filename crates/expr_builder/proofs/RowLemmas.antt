-- Values that are taken off one by one.
use Rattle.std.proofs.Common.{◌≡◌, ℕ, ◌+◌, ◌-◌, ◌<◌, ◌≤◌, zero, suc, Bool, true, false, not, List, [], ◌∷◌, refl, ap, sym, ◌∙◌, arith}
use Rattle.std.specs.Prelude.{Option, Some, None, ◌&&◌, ◌||◌}
use Rattle.php_syntax.specs.Trees.{PlainExprs, no_exprs, PlainItems, no_items, PlainPath, no_keys}
use Rattle.expr_machine.specs.Values.{PlainValue, take_values, add_expr, add_item, add_key, gather_exprs, gather_items, gather_path, all_place_values, is_place_value, none_absent, none_absent_before_last, is_absent}
use Rattle.expr_builder.specs.declared.value.Value.{Value}
use Rattle.expr_builder.specs.Views.{plain_value, plain_values, IsShort}
use Rattle.expr_builder.specs.Rows.{IsRow, IsItems, IsPath}

abbrev pub Taken : Type 0
Taken = Option (List PlainValue × List PlainValue)

pub take_next : (n : ℕ) (row : List PlainValue) (v : PlainValue) (vs : List PlainValue) → 0 < n → take_values n row (v ∷ vs) ≡ take_values (n - 1) (v ∷ row) vs
take_next zero row v vs h = absurd (omega arith)
take_next (suc n) row v vs h = let e : n ≡ suc n - 1 = omega arith in ap (λ m. take_values m (v ∷ row) vs) e

pub take_all : (n : ℕ) (row vs : List PlainValue) → n ≤ 0 → take_values n row vs ≡ Some (row, vs)
take_all zero row vs h = refl
take_all (suc n) row vs h = absurd (omega arith)

pub take_none : (n : ℕ) (row : List PlainValue) → 0 < n → take_values n row [] ≡ None
take_none zero row h = absurd (omega arith)
take_none (suc n) row h = refl

twice : (n : ℕ) → suc n + suc n ≡ suc (suc (n + n))
twice n = omega arith

pub take_two : (n : ℕ) (row : List PlainValue) (k v : PlainValue) (vs : List PlainValue) → 0 < n → take_values (n + n) row (v ∷ k ∷ vs) ≡ take_values ((n - 1) + (n - 1)) (k ∷ v ∷ row) vs
take_two zero row k v vs h = absurd (omega arith)
take_two (suc n) row k v vs h =
    let e : n + n ≡ (suc n - 1) + (suc n - 1) = omega arith in
    ap (λ m. take_values m row (v ∷ k ∷ vs)) (twice n) ∙ ap (λ m. take_values m (k ∷ v ∷ row) vs) e

pub take_short : (n : ℕ) (row : List PlainValue) (vs : List Value) → 0 < n → IsShort vs → take_values (n + n) row (plain_values vs) ≡ None
take_short zero row vs h s = absurd (omega arith)
take_short (suc n) row [] h s = ap (λ m. take_values m row []) (twice n)
take_short (suc n) row (v ∷ []) h s = ap (λ m. take_values m row (plain_value v ∷ [])) (twice n)
take_short (suc n) row (v ∷ w ∷ vs) h s = absurd s

-- trees in a row, as far as they are taken

pub record RowSoFar (taken : Taken) (n : ℕ) (exprs : Option (PlainExprs × ℕ)) (places : Bool) (vs : List PlainValue) : Type 0 where
  pub row : List PlainValue
  pub is_taken : taken ≡ take_values n row vs
  pub are : gather_exprs row ≡ exprs
  pub are_places : all_place_values row ≡ places

pub row_begins : (n : ℕ) (exprs : Option (PlainExprs × ℕ)) (vs : List PlainValue) → exprs ≡ Some (no_exprs, 0) → RowSoFar (take_values n [] vs) n exprs true vs
row_begins n exprs vs e = record { row = []; is_taken = refl; are = sym e; are_places = refl }

pub row_next : (taken : Taken) (n : ℕ) (exprs more : Option (PlainExprs × ℕ)) (places place both : Bool) (v : PlainValue) (vs : List PlainValue) → 0 < n → more ≡ add_expr v exprs → place ≡ is_place_value v → both ≡ (place && places) → RowSoFar taken n exprs places (v ∷ vs) → RowSoFar taken (n - 1) more both vs
row_next taken n exprs more places place both v vs h m p b s = record {
  row = v ∷ s.row;
  is_taken = s.is_taken ∙ take_next n s.row v vs h;
  are = ap (add_expr v) s.are ∙ sym m;
  are_places = ap (λ x. is_place_value v && x) s.are_places ∙ ap (λ x. x && places) (sym p) ∙ sym b;
}

pub row_ends : (taken : Taken) (n : ℕ) (exprs : Option (PlainExprs × ℕ)) (places : Bool) (vs : List PlainValue) → n ≤ 0 → RowSoFar taken n exprs places vs → IsRow taken exprs places vs
row_ends taken n exprs places vs h s = record { row = s.row; is_taken = s.is_taken ∙ take_all n s.row vs h; are = s.are; are_places = s.are_places }

pub row_stops : (taken : Taken) (n : ℕ) (exprs : Option (PlainExprs × ℕ)) (places : Bool) → 0 < n → RowSoFar taken n exprs places [] → taken ≡ None
row_stops taken n exprs places h s = s.is_taken ∙ take_none n s.row h

-- items

pub record ItemsSoFar (taken : Taken) (n : ℕ) (items : Option (PlainItems × ℕ)) (vs : List PlainValue) : Type 0 where
  pub row : List PlainValue
  pub is_taken : taken ≡ take_values (n + n) row vs
  pub are : gather_items row ≡ items

pub items_begin : (n : ℕ) (items : Option (PlainItems × ℕ)) (vs : List PlainValue) → items ≡ Some (no_items, 0) → ItemsSoFar (take_values (n + n) [] vs) n items vs
items_begin n items vs e = record { row = []; is_taken = refl; are = sym e }

pub items_next : (taken : Taken) (n : ℕ) (items more : Option (PlainItems × ℕ)) (k v : PlainValue) (vs : List PlainValue) → 0 < n → more ≡ add_item k v items → ItemsSoFar taken n items (v ∷ k ∷ vs) → ItemsSoFar taken (n - 1) more vs
items_next taken n items more k v vs h m s = record {
  row = k ∷ v ∷ s.row;
  is_taken = s.is_taken ∙ take_two n s.row k v vs h;
  are = ap (add_item k v) s.are ∙ sym m;
}

no_twice : (n : ℕ) → n ≤ 0 → n + n ≤ 0
no_twice n h = omega arith

pub items_end : (taken : Taken) (n : ℕ) (items : Option (PlainItems × ℕ)) (vs : List PlainValue) → n ≤ 0 → ItemsSoFar taken n items vs → IsItems taken items vs
items_end taken n items vs h s = record { row = s.row; is_taken = s.is_taken ∙ take_all (n + n) s.row vs (no_twice n h); are = s.are }

pub items_stop : (taken : Taken) (n : ℕ) (items : Option (PlainItems × ℕ)) (vs : List Value) → 0 < n → IsShort vs → ItemsSoFar taken n items (plain_values vs) → taken ≡ None
items_stop taken n items vs h short s = s.is_taken ∙ take_short n s.row vs h short

-- keys

abbrev pub is_nil : List PlainValue → Bool
is_nil [] = true
is_nil (v ∷ vs) = false

pub record PathSoFar (taken : Taken) (n : ℕ) (keys : Option (PlainPath × ℕ)) (complete before_last first : Bool) (vs : List PlainValue) : Type 0 where
  pub row : List PlainValue
  pub is_taken : taken ≡ take_values n row vs
  pub are : gather_path row ≡ keys
  pub are_complete : none_absent row ≡ complete
  pub are_before_last : none_absent_before_last row ≡ before_last
  pub is_first : is_nil row ≡ first

pub path_begins : (n : ℕ) (keys : Option (PlainPath × ℕ)) (vs : List PlainValue) → keys ≡ Some (no_keys, 0) → PathSoFar (take_values n [] vs) n keys true true true vs
path_begins n keys vs e = record { row = []; is_taken = refl; are = sym e; are_complete = refl; are_before_last = refl; is_first = refl }

before_last_next : (v : PlainValue) (row : List PlainValue) → none_absent_before_last (v ∷ row) ≡ ((is_nil row || not (is_absent v)) && none_absent_before_last row)
before_last_next v [] = refl
before_last_next v (w ∷ row) = refl

pub path_next : (taken : Taken) (n : ℕ) (keys more : Option (PlainPath × ℕ)) (complete before_last first present wanted whole all : Bool) (v : PlainValue) (vs : List PlainValue) → 0 < n → more ≡ add_key v keys → present ≡ not (is_absent v) → wanted ≡ (first || present) → all ≡ (wanted && before_last) → whole ≡ (present && complete) → PathSoFar taken n keys complete before_last first (v ∷ vs) → PathSoFar taken (n - 1) more whole all false vs
path_next taken n keys more complete before_last first present wanted whole all v vs h m p q a w s = record {
  row = v ∷ s.row;
  is_taken = s.is_taken ∙ take_next n s.row v vs h;
  are = ap (add_key v) s.are ∙ sym m;
  are_complete = ap (λ x. not (is_absent v) && x) s.are_complete ∙ ap (λ x. x && complete) (sym p) ∙ sym w;
  are_before_last = before_last_next v s.row ∙ ap (λ x. (x || not (is_absent v)) && none_absent_before_last s.row) s.is_first ∙ ap (λ x. (first || x) && none_absent_before_last s.row) (sym p) ∙ ap (λ x. (first || present) && x) s.are_before_last ∙ ap (λ x. x && before_last) (sym q) ∙ sym a;
  is_first = refl;
}

pub path_ends : (taken : Taken) (n : ℕ) (keys : Option (PlainPath × ℕ)) (complete before_last first : Bool) (vs : List PlainValue) → n ≤ 0 → PathSoFar taken n keys complete before_last first vs → IsPath taken keys complete before_last vs
path_ends taken n keys complete before_last first vs h s = record { row = s.row; is_taken = s.is_taken ∙ take_all n s.row vs h; are = s.are; are_complete = s.are_complete; are_before_last = s.are_before_last }

pub path_stops : (taken : Taken) (n : ℕ) (keys : Option (PlainPath × ℕ)) (complete before_last first : Bool) → 0 < n → PathSoFar taken n keys complete before_last first [] → taken ≡ None
path_stops taken n keys complete before_last first h s = s.is_taken ∙ take_none n s.row h
