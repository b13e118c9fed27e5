-- Which slots are null where a function is entered, as a relation and as a test.
use Rattle.std.proofs.Common.{◌≡◌, ◌≤◌, ◌<◌, ◌-◌, ◌+◌, ℕ, Bool, true, false, ◌&&◌, Option, Some, None, refl, sym, ap, ◌∙◌, arith}
use Rattle.std.specs.Prelude.{not, nat_eq, nat_le, nat_lt}
use Rattle.std.specs.List.{list_any}
use Rattle.std.proofs.lemmas.Bool.{ltb-true, leb-true, lt-ltb, le-leb}
use Rattle.std.proofs.lemmas.Cmp.{nat_eq_equiv}
use Rattle.std.proofs.lemmas.Map.Views.{exact_unsigned_eq, Contains-from_any, list_any-from_Contains}
use Rattle.flow_code.specs.Points.{PlainFlowFunction, PlainFlow, function_at}
use Rattle.flow_code.specs.Lawful.{IsOwnSlot}
use Rattle.loose_sets.specs.Functions.{IsNullSlot, owns, is_null_of, is_null_slot}

pub both_hold : (a b : Bool) → (a && b) ≡ true → (a ≡ true) × (b ≡ true)
both_hold true b e = (refl, e)
both_hold false b e = absurd (cc)

pub owned : (g : PlainFlowFunction) (y : ℕ) → owns g y ≡ true → IsOwnSlot g y
owned g y e =
    let parts = both_hold (nat_le g.first_slot_of y) (nat_lt (y - g.first_slot_of) g.slots_of) e in
    let low : g.first_slot_of ≤ y = leb-true g.first_slot_of y parts.0 in
    let high : y - g.first_slot_of < g.slots_of = ltb-true (y - g.first_slot_of) g.slots_of parts.1 in
    record { least = low; most = omega (arith, low, high) }

pub own : (g : PlainFlowFunction) (y : ℕ) → IsOwnSlot g y → owns g y ≡ true
own g y inside =
    let low : g.first_slot_of ≤ y = inside.least in
    let most : y < g.first_slot_of + g.slots_of = inside.most in
    let high : y - g.first_slot_of < g.slots_of = omega (arith, low, most) in
    ap (λ (b : Bool). b && nat_lt (y - g.first_slot_of) g.slots_of) (le-leb g.first_slot_of y low) ∙ lt-ltb (y - g.first_slot_of) g.slots_of high

pub null_from : (flow : PlainFlow) (n y : ℕ) → is_null_slot flow n y ≡ true → IsNullSlot flow n y
unfolding is_null_slot
null_from flow n y e = by (function_at flow n) refl e
  where
    by : (o : Option PlainFlowFunction) → function_at flow n ≡ o → is_null_of o y ≡ true → IsNullSlot flow n y
    by None is e = absurd (cc)
    by (Some g) is e =
        let parts = both_hold (owns g y) (not (list_any (nat_eq y) g.params_of)) e in
        record {
          function = g;
          is = is;
          inside = owned g y parts.0;
          no_parameter = λ c. (let isnt : false ≡ true = sym (ap not (list_any-from_Contains nat_eq_equiv y g.params_of c)) ∙ parts.1 in cc);
        }

pub null_is : (flow : PlainFlow) (n y : ℕ) → IsNullSlot flow n y → is_null_slot flow n y ≡ true
unfolding is_null_slot
null_is flow n y s = ap (λ (o : Option PlainFlowFunction). is_null_of o y) s.is ∙ (ap (λ (b : Bool). b && not (list_any (nat_eq y) s.function.params_of)) (own s.function y s.inside) ∙ none (list_any (nat_eq y) s.function.params_of) refl)
  where
    none : (b : Bool) → list_any (nat_eq y) s.function.params_of ≡ b → not (list_any (nat_eq y) s.function.params_of) ≡ true
    none true is = absurd (s.no_parameter (Contains-from_any {eq = nat_eq} exact_unsigned_eq y s.function.params_of is))
    none false is = ap not is
