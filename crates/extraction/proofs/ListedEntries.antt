-- What is looked up of functions is what they return, and which of their slots are null where they are entered.
use Rattle.std.proofs.Common.{◌≡◌, ℕ, zero, suc, Bool, true, false, ◌&&◌, List, [], ◌∷◌, Option, Some, None, refl, sym, subst, ap, ◌∙◌, arith, slice_get, Contains, map, eq-eqb}
use Rattle.std.specs.Prelude.{◌||◌, not, nat_eq}
use Rattle.std.specs.List.{list_any}
use Rattle.std.specs.Option.{option_map}
use Rattle.std.proofs.lemmas.Option.{same_Some, slice_get-map}
use Rattle.std.proofs.lemmas.Map.Views.{exact_unsigned_eq, Contains-from_any}
use Rattle.text_base.specs.Exactness.{exact_pair}
use Rattle.flow_code.specs.Points.{PlainPoint, PlainFlowFunction, PlainFlow, points_in, function_at}
use Rattle.loose_sets.specs.Functions.{IsReturned, IsNullSlot, ArePairs}
use Rattle.flow_graph.specs.Returned.{returned_pairs}
use Rattle.loose_sets.proofs.Returned.{none_in, returned_law}
use Rattle.loose_sets.specs.Functions.{owns, is_owned}
use Rattle.loose_sets.proofs.Nulls.{both_hold, owned, own}
use Rattle.extraction.specs.Params.{AreParams, same_pair, is_no_param, is_null}
use Rattle.extraction.specs.Tables.{pairs_or_none}

-- what is found for a function is what it returns
returned_by : (flow : PlainFlow) (n : ℕ) (o : Option PlainFlowFunction) → function_at flow n ≡ o → ArePairs (IsReturned flow n) (pairs_or_none (option_map (returned_pairs (points_in flow.functions_of)) o))
returned_by flow n None is = λ p x. (λ c. absurd (none_in (p, x) c), λ r. absurd (let both : None ≡ Some r.function = sym is ∙ r.is in cc))
returned_by flow n (Some g) is = returned_law flow n g is

pub returned_exact : (flow : PlainFlow) (points : List PlainPoint) (all : List (List (ℕ × ℕ))) → points ≡ points_in flow.functions_of → all ≡ map (returned_pairs points) flow.functions_of
    → (n : ℕ) → ArePairs (IsReturned flow n) (pairs_or_none (slice_get all n))
returned_exact flow points all are is n =
    let row : slice_get all n ≡ option_map (returned_pairs (points_in flow.functions_of)) (function_at flow n) =
    ap (λ (xs : List (List (ℕ × ℕ))). slice_get xs n) (is ∙ ap (λ (ps : List PlainPoint). map (returned_pairs ps) flow.functions_of) are) ∙ slice_get-map (returned_pairs (points_in flow.functions_of)) flow.functions_of n in
    subst (λ (o : Option (List (ℕ × ℕ))). ArePairs (IsReturned flow n) (pairs_or_none o)) (sym row) (returned_by flow n (function_at flow n) refl)

-- a pair is found where it stands
itself : (p : ℕ × ℕ) → same_pair p p ≡ true
itself p = ap (λ (b : Bool). b && nat_eq p.1 p.1) (eq-eqb p.0 p.0 refl) ∙ eq-eqb p.1 p.1 refl

found : (keys : List (ℕ × ℕ)) (p : ℕ × ℕ) → Contains keys p → list_any (same_pair p) keys ≡ true
found [] p c = absurd (none_in p c)
found (k ∷ ks) p (zero, within, e) = ap (λ (b : Bool). b || list_any (same_pair p) ks) (ap (λ (z : ℕ × ℕ). same_pair p z) e ∙ itself p)
found (k ∷ ks) p (suc i, within, e) = later (same_pair p k) (list_any (same_pair p) ks) (found ks p (i, omega (arith, within), e))
  where
    later : (a b : Bool) → b ≡ true → (a || b) ≡ true
    later true b e = refl
    later false b e = e

module _ (flow : PlainFlow) (keys : List (ℕ × ℕ)) (are : AreParams flow.functions_of keys) (n y : ℕ) where
  no_key : is_no_param keys n y ≡ true → Contains keys (n, y) → ⊥
  no_key e c = let isnt : false ≡ true = sym (ap not (found keys (n, y) c)) ∙ e in cc

  no_param : (Contains keys (n, y) → ⊥) → is_no_param keys n y ≡ true
  no_param none = by (list_any (same_pair (n, y)) keys) refl
    where
      by : (b : Bool) → list_any (same_pair (n, y)) keys ≡ b → not (list_any (same_pair (n, y)) keys) ≡ true
      by true is = absurd (none (Contains-from_any {eq = same_pair} (exact_pair exact_unsigned_eq) (n, y) keys is))
      by false is = ap not is

  null_by : (o : Option PlainFlowFunction) → function_at flow n ≡ o → (is_owned o y && is_no_param keys n y) ≡ true → IsNullSlot flow n y
  null_by None is e = absurd (cc)
  null_by (Some g) is e =
      let parts = both_hold (owns g y) (is_no_param keys n y) e in
      record { function = g; is = is; inside = owned g y parts.0; no_parameter = λ c. no_key parts.1 ((are.each n y).1 (record { function = g; is = is; it = c })) }

  pub null_slot : is_null flow.functions_of keys n y ≡ true → IsNullSlot flow n y
  null_slot e = null_by (function_at flow n) refl e

  pub slot_null : IsNullSlot flow n y → is_null flow.functions_of keys n y ≡ true
  slot_null s =
      let none : is_no_param keys n y ≡ true =
      no_param (λ c. let p = (are.each n y).0 c in s.no_parameter (subst (λ (g : PlainFlowFunction). Contains g.params_of y) (same_Some p.function s.function (sym p.is ∙ s.is)) p.it)) in
      ap (λ (o : Option PlainFlowFunction). is_owned o y && is_no_param keys n y) s.is ∙ (ap (λ (b : Bool). b && is_no_param keys n y) (own s.function y s.inside) ∙ none)
