-- Parameters that are put one by one, and slots that are null at an entry.
use Rattle.std.proofs.Common.{◌≡◌, ◌≤◌, ◌<◌, ◌+◌, ◌⊎◌, inl, inr, ℕ, zero, suc, List, [], ◌∷◌, ◌++◌, length, take, get_or, map, Some, refl, sym, subst, ap, ◌∙◌, arith, slice_get, Contains}
use Rattle.std.proofs.lemmas.List.{map_more}
use Rattle.std.proofs.lemmas.List.Elements.{Contains-push, Contains-push_cases, Contains-append_left}
use Rattle.std.proofs.lemmas.Option.{same_Some, slice_get-get_or, slice_get_within, get_or_from_slice_get}
use Rattle.text_base.specs.declared.numbers.Slot.{Slot}
use Rattle.numbered_sets.specs.Numbers.{Keeps, AddsOnly}
use Rattle.numbered_sets.proofs.NumberLemmas.{at_front}
use Rattle.flow_code.specs.Points.{PlainFlowFunction}
use Rattle.flow_code.specs.View.{plain_flow_function, slot_number}
use Rattle.flow_code.specs.declared.program.FlowFunction.{FlowFunction}
use Rattle.extraction.specs.Params.{IsParam, AreParams, Puts}

contains_at : (xs : List (ℕ × ℕ)) (n : ℕ) (x : ℕ × ℕ) → slice_get xs n ≡ Some x → Contains xs x
contains_at xs n x h = (n, slice_get_within xs n x h, get_or_from_slice_get xs n x x h)

place_of : (xs : List (ℕ × ℕ)) (x : ℕ × ℕ) → Contains xs x → (n : ℕ) × (slice_get xs n ≡ Some x)
place_of xs x c = (c.0, slice_get-get_or xs c.0 x c.1 ∙ ap (λ (z : ℕ × ℕ). Some z) c.2)

kept : (old new : List (ℕ × ℕ)) → Keeps old new → (p : ℕ × ℕ) → Contains old p → Contains new p
kept old new keeps p c = let r = place_of old p c in contains_at new r.0 p (keeps r.0 p r.1)

-- none so far
pub puts_none : (keys : List (ℕ × ℕ)) (m : ℕ) → Puts keys keys m []
puts_none keys m = record { each = λ n y. (λ c. inl c, λ o. elim o [ inl c ↦ c | inr r ↦ absurd (none_in y r.1) ]) }
  where
    none_in : (y : ℕ) → Contains [] y → ⊥
    none_in y c = let h = c.1 in omega arith

-- one parameter more of the function
puts_one : (first old new : List (ℕ × ℕ)) (m : ℕ) (ys : List ℕ) (y : ℕ) (k : ℕ) → Puts first old m ys → Keeps old new → AddsOnly old new (m, y) → slice_get new k ≡ Some (m, y) → Puts first new m (ys ++ y ∷ [])
puts_one first old new m ys y k puts keeps adds there = record { each = λ n z. (from n z, into n z) }
  where
    from : (n z : ℕ) → Contains new (n, z) → Contains first (n, z) ⊎ ((n ≡ m) × Contains (ys ++ y ∷ []) z)
    from n z c = elim (adds (n, z) c) [
      | inl before ↦ (elim ((puts.each n z).0 before) [ inl a ↦ inl a | inr r ↦ inr (r.0, Contains-append_left ys (y ∷ []) z r.1) ])
      | inr same ↦ (
          let number : n ≡ m = ap (λ (p : ℕ × ℕ). p.0) same in
          let slot : z ≡ y = ap (λ (p : ℕ × ℕ). p.1) same in
          inr (number, subst (λ (x : ℕ). Contains (ys ++ y ∷ []) x) (sym slot) (Contains-push ys y)))
    ]

    behind : (n z : ℕ) → n ≡ m → Contains (ys ++ y ∷ []) z → Contains new (n, z)
    behind n z is c = elim (Contains-push_cases ys y z c) [
      | inl b ↦ kept old new keeps (n, z) ((puts.each n z).1 (inr (is, b)))
      | inr same ↦ subst (λ (x : ℕ). Contains new (n, x)) same (subst (λ (x : ℕ). Contains new (x, y)) (sym is) (contains_at new k (m, y) there))
    ]

    into : (n z : ℕ) → Contains first (n, z) ⊎ ((n ≡ m) × Contains (ys ++ y ∷ []) z) → Contains new (n, z)
    into n z o = elim o [ inl a ↦ kept old new keeps (n, z) ((puts.each n z).1 (inl a)) | inr r ↦ behind n z r.0 r.1 ]

pub more_puts : (first old new : List (ℕ × ℕ)) (m : ℕ) (params : List Slot) (i : ℕ) (x : Slot) (k : ℕ) → i < length params → Puts first old m (map slot_number (take i params)) → Keeps old new → AddsOnly old new (m, (get_or params i x).0)
    → slice_get new k ≡ Some (m, (get_or params i x).0) → Puts first new m (map slot_number (take (i + 1) params))
more_puts first old new m params i x k within puts keeps adds there =
    subst (λ (ys : List ℕ). Puts first new m ys) (sym (map_more slot_number params i x within)) (puts_one first old new m (map slot_number (take i params)) (get_or params i x).0 k puts keeps adds there)

-- one function more
param_cases : (fs : List PlainFlowFunction) (g : PlainFlowFunction) (n y : ℕ) → IsParam (fs ++ g ∷ []) n y → IsParam fs n y ⊎ ((n ≡ length fs) × Contains g.params_of y)
param_cases fs g n y p = elim (push_cases fs g n p.function p.is) [
  | inl there ↦ inl (record { function = p.function; is = there; it = p.it })
  | inr r ↦ inr (r.0, subst (λ (h : PlainFlowFunction). Contains h.params_of y) (sym r.1) p.it)
]
  where
    push_cases : (xs : List PlainFlowFunction) (h : PlainFlowFunction) (k : ℕ) (x : PlainFlowFunction) → slice_get (xs ++ h ∷ []) k ≡ Some x → (slice_get xs k ≡ Some x) ⊎ ((k ≡ length xs) × (h ≡ x))
    push_cases [] h zero x e = inr (refl, same_Some h x e)
    push_cases [] h (suc k) x e = absurd (cc)
    push_cases (z ∷ zs) h zero x e = inl e
    push_cases (z ∷ zs) h (suc k) x e = elim (push_cases zs h k x e) [ inl p ↦ inl p | inr p ↦ inr (ap suc p.0, p.1) ]

param_too : (fs : List PlainFlowFunction) (g : PlainFlowFunction) (n y : ℕ) → IsParam fs n y → IsParam (fs ++ g ∷ []) n y
param_too fs g n y p = record { function = p.function; is = at_front fs g n p.function p.is; it = p.it }

last_param : (fs : List PlainFlowFunction) (g : PlainFlowFunction) (n y : ℕ) → n ≡ length fs → Contains g.params_of y → IsParam (fs ++ g ∷ []) n y
last_param fs g n y e c = record { function = g; is = subst (λ (k : ℕ). slice_get (fs ++ g ∷ []) k ≡ Some g) (sym e) (at_end fs g); it = c }
  where
    at_end : (xs : List PlainFlowFunction) (h : PlainFlowFunction) → slice_get (xs ++ h ∷ []) (length xs) ≡ Some h
    at_end [] h = refl
    at_end (x ∷ xs) h = at_end xs h

pub no_params : AreParams [] []
no_params = record { each = λ n y. (λ c. absurd (let h = c.1 in omega arith), λ p. absurd (let e = p.is in cc)) }

params_one : (fs : List PlainFlowFunction) (g : PlainFlowFunction) (old new : List (ℕ × ℕ)) (m : ℕ) → m ≡ length fs → AreParams fs old → Puts old new m g.params_of → AreParams (fs ++ g ∷ []) new
params_one fs g old new m at are puts = record {
  each = λ n y. (
    λ c. elim ((puts.each n y).0 c) [ inl a ↦ param_too fs g n y ((are.each n y).0 a) | inr r ↦ last_param fs g n y (r.0 ∙ at) r.1 ],
    λ p. elim (param_cases fs g n y p) [ inl a ↦ (puts.each n y).1 (inl ((are.each n y).1 a)) | inr r ↦ (puts.each n y).1 (inr (r.0 ∙ sym at, r.1)) ],
  );
}

length_taken : (fs : List FlowFunction) (i : ℕ) → i ≤ length fs → i ≡ length (map plain_flow_function (take i fs))
length_taken fs zero h = refl
length_taken [] (suc i) h = absurd (omega (arith, h))
length_taken (f ∷ fs) (suc i) h = ap suc (length_taken fs i (omega (arith, h)))

pub more_params : (fs : List FlowFunction) (i : ℕ) (f : FlowFunction) (old new : List (ℕ × ℕ)) → i < length fs → AreParams (map plain_flow_function (take i fs)) old → Puts old new i (map slot_number (get_or fs i f).params.items)
    → AreParams (map plain_flow_function (take (i + 1) fs)) new
more_params fs i f old new within are puts =
    subst (λ (gs : List PlainFlowFunction). AreParams gs new) (sym (map_more plain_flow_function fs i f within))
    (params_one (map plain_flow_function (take i fs)) (plain_flow_function (get_or fs i f)) old new i (length_taken fs i (omega (arith, within))) are puts)
