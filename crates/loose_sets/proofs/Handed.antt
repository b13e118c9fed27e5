-- What is listed of calls is what they hand in.
use Rattle.std.specs.Prelude.{nat_eq, if◌then◌else◌, ◌&&◌, Bool, true, false}
use Rattle.std.proofs.lemmas.Map.Views.{exact_unsigned_eq}
use Rattle.useful_nonterminals.proofs.RuleLemmas.{in_flat_map, flat_map_has}
use Rattle.std.proofs.Common.{eq-eqb, ◌≡◌, ◌+◌, ◌⊎◌, inl, inr, ◌↔◌, ℕ, zero, suc, List, [], ◌∷◌, Option, Some, None, refl, sym, subst, ap, ◌∙◌, arith, slice_get, Contains}
use Rattle.std.proofs.lemmas.Option.{same_Some}
use Rattle.std.proofs.lemmas.List.Elements.{Contains-append_left, Contains-append_right, Contains-append_cases}
use Rattle.flow_code.specs.Points.{PlainPoint, set_point, call_point, print_point, echo_point, branch_point, jump_point, begin_point, next_point, key_point, value_point, return_point, quit_point, PlainFlowFunction, PlainFlow, points_in, point_at}
use Rattle.flow_graph.specs.Handed.{Handing, of_call, params_of, at_point, handings_from}
use Rattle.loose_sets.specs.Functions.{IsArgument, IsHandedIn, ArePairs, handed_for, handed_to}
use Rattle.loose_sets.proofs.Returned.{none_in, only_one, it_alone}

-- the item hands in an argument of a call at a point for a parameter of a function
record OfCall (q n : ℕ) (ys xs : List ℕ) (h : Handing) : Type 0 where
  function : h.0.0 ≡ n
  point : h.1.0 ≡ q
  argument : IsArgument ys xs h.0.1 h.1.1

from_call : (q n : ℕ) (ys xs : List ℕ) (h : Handing) → Contains (of_call q n ys xs) h → OfCall q n ys xs h
unfolding of_call
from_call q n [] xs h c = absurd (none_in h c)
from_call q n (y ∷ ys) [] h c = absurd (none_in h c)
from_call q n (y ∷ ys) (x ∷ xs) h c = by (Contains-append_cases (((n, y), (q, x)) ∷ []) (of_call q n ys xs) h c) (from_call q n ys xs h)
  where
    by : Contains (((n, y), (q, x)) ∷ []) h ⊎ Contains (of_call q n ys xs) h → (Contains (of_call q n ys xs) h → OfCall q n ys xs h) → OfCall q n (y ∷ ys) (x ∷ xs) h
    by (inl here) below =
        let same : ◌≡◌ {A = Handing} ((n, y), (q, x)) h = only_one ((n, y), (q, x)) h here in
        record {
          function = sym (ap (λ (z : Handing). z.0.0) same);
          point = sym (ap (λ (z : Handing). z.1.0) same);
          argument = (zero, ap (λ (z : Handing). Some z.0.1) same, ap (λ (z : Handing). Some z.1.1) same);
        }
    by (inr later) below = let r = below later in record { function = r.function; point = r.point; argument = (suc r.argument.0, r.argument.1, r.argument.2) }

into_call : (ys xs : List ℕ) (h : Handing) (i : ℕ) → slice_get ys i ≡ Some h.0.1 → slice_get xs i ≡ Some h.1.1 → Contains (of_call h.1.0 h.0.0 ys xs) h
unfolding of_call
into_call [] xs h i e f = absurd (cc)
into_call (y ∷ ys) [] h i e f = absurd (cc)
into_call (y ∷ ys) (x ∷ xs) h zero e f =
    let first : y ≡ h.0.1 = same_Some y h.0.1 e in
    let second : x ≡ h.1.1 = same_Some x h.1.1 f in
    Contains-append_left (((h.0.0, y), (h.1.0, x)) ∷ []) (of_call h.1.0 h.0.0 ys xs) h
    (subst (λ (z : ℕ). Contains (((h.0.0, z), (h.1.0, x)) ∷ []) h) (sym first) (subst (λ (z : ℕ). Contains ((h.0, (h.1.0, z)) ∷ []) h) (sym second) (it_alone h)))
into_call (y ∷ ys) (x ∷ xs) h (suc i) e f = Contains-append_right (((h.0.0, y), (h.1.0, x)) ∷ []) (of_call h.1.0 h.0.0 ys xs) h (into_call ys xs h i e f)

-- the point is a call that hands it in
record AtPoint (fs : List PlainFlowFunction) (q : ℕ) (k : PlainPoint) (h : Handing) : Type 0 where
  slot : ℕ
  args : List ℕ
  next : ℕ
  is : k ≡ call_point slot h.0.0 args next
  point : h.1.0 ≡ q
  function : PlainFlowFunction
  there : slice_get fs h.0.0 ≡ Some function
  argument : IsArgument function.params_of args h.0.1 h.1.1

from_known : (fs : List PlainFlowFunction) (q x n : ℕ) (args : List ℕ) (next : ℕ) (h : Handing) (o : Option PlainFlowFunction) → slice_get fs n ≡ o → Contains (of_call q n (params_of o) args) h → AtPoint fs q (call_point x n args next) h
from_known fs q x n args next h None e c = let r = from_call q n [] args h c in absurd (let a = r.argument.1 in cc)
from_known fs q x n args next h (Some g) e c =
    let r = from_call q n g.params_of args h c in
    record {
      slot = x;
      args = args;
      next = next;
      is = ap (λ (m : ℕ). call_point x m args next) (sym r.function);
      point = r.point;
      function = g;
      there = ap (λ (m : ℕ). slice_get fs m) r.function ∙ e;
      argument = r.argument;
    }

from_point : (fs : List PlainFlowFunction) (q : ℕ) (k : PlainPoint) (h : Handing) → Contains (at_point fs q k) h → AtPoint fs q k h
unfolding at_point
from_point fs q (call_point x n args next) h c = from_known fs q x n args next h (slice_get fs n) refl c
from_point fs q (set_point x s next) h c = absurd (none_in h c)
from_point fs q (print_point bytes next) h c = absurd (none_in h c)
from_point fs q (echo_point x next) h c = absurd (none_in h c)
from_point fs q (branch_point x a b) h c = absurd (none_in h c)
from_point fs q (jump_point next) h c = absurd (none_in h c)
from_point fs q (begin_point x from next) h c = absurd (none_in h c)
from_point fs q (next_point x more done) h c = absurd (none_in h c)
from_point fs q (key_point x from next) h c = absurd (none_in h c)
from_point fs q (value_point x from next) h c = absurd (none_in h c)
from_point fs q (return_point x) h c = absurd (none_in h c)
from_point fs q (quit_point x) h c = absurd (none_in h c)

into_point : (fs : List PlainFlowFunction) (q : ℕ) (k : PlainPoint) (h : Handing) → AtPoint fs q k h → Contains (at_point fs q k) h
unfolding at_point
into_point fs q k h r =
    subst (λ (j : PlainPoint). Contains (at_point fs q j) h) (sym r.is)
    (subst (λ (p : ℕ). Contains (at_point fs p (call_point r.slot h.0.0 r.args r.next)) h) r.point
    (subst (λ (o : Option PlainFlowFunction). Contains (of_call h.1.0 h.0.0 (params_of o) r.args) h) (sym r.there) (into_call r.function.params_of r.args h r.argument.0 r.argument.1 r.argument.2)))

-- the point of a number, where the first one has this number
from_row : (fs : List PlainFlowFunction) (q : ℕ) (ks : List PlainPoint) (h : Handing) → Contains (handings_from fs q ks) h → (i : ℕ) × (k : PlainPoint) × (slice_get ks i ≡ Some k) × (h.1.0 ≡ q + i) × AtPoint fs (q + i) k h
unfolding handings_from
from_row fs q [] h c = absurd (none_in h c)
from_row fs q (k ∷ ks) h c = by (Contains-append_cases (at_point fs q k) (handings_from fs (suc q) ks) h c) (from_row fs (suc q) ks h)
  where
    by : Contains (at_point fs q k) h ⊎ Contains (handings_from fs (suc q) ks) h
        → (Contains (handings_from fs (suc q) ks) h → (i : ℕ) × (j : PlainPoint) × (slice_get ks i ≡ Some j) × (h.1.0 ≡ suc q + i) × AtPoint fs (suc q + i) j h)
        → (i : ℕ) × (j : PlainPoint) × (slice_get (k ∷ ks) i ≡ Some j) × (h.1.0 ≡ q + i) × AtPoint fs (q + i) j h
    by (inl here) below =
        let r = from_point fs q k h here in
        let none : q ≡ q + 0 = omega arith in
        (zero, k, refl, r.point ∙ none, subst (λ (p : ℕ). AtPoint fs p k h) none r)
    by (inr later) below =
        let r = below later in
        let next : suc q + r.0 ≡ q + suc r.0 = omega arith in
        (suc r.0, r.1, r.2, r.3 ∙ next, subst (λ (p : ℕ). AtPoint fs p r.1 h) next r.4)

into_row : (fs : List PlainFlowFunction) (q : ℕ) (ks : List PlainPoint) (h : Handing) (i : ℕ) (k : PlainPoint) → slice_get ks i ≡ Some k → AtPoint fs (q + i) k h → Contains (handings_from fs q ks) h
unfolding handings_from
into_row fs q [] h i k e r = absurd (cc)
into_row fs q (j ∷ ks) h zero k e r =
    let none : q + 0 ≡ q = omega arith in
    let same : k ≡ j = sym (same_Some j k e) in
    Contains-append_left (at_point fs q j) (handings_from fs (suc q) ks) h (into_point fs q j h (subst (λ (z : PlainPoint). AtPoint fs q z h) same (subst (λ (p : ℕ). AtPoint fs p k h) none r)))
into_row fs q (j ∷ ks) h (suc i) k e r =
    let next : q + suc i ≡ suc q + i = omega arith in
    Contains-append_right (at_point fs q j) (handings_from fs (suc q) ks) h (into_row fs (suc q) ks h i k e (subst (λ (p : ℕ). AtPoint fs p k h) next r))

pub handed_law : (flow : PlainFlow) (n y p x : ℕ) → Contains (handings_from flow.functions_of 0 (points_in flow.functions_of)) ((n, y), (p, x)) ↔ IsHandedIn flow n y p x
unfolding point_at
handed_law flow n y p x = (from, into)
  where
    from : Contains (handings_from flow.functions_of 0 (points_in flow.functions_of)) ((n, y), (p, x)) → IsHandedIn flow n y p x
    from c =
        let r = from_row flow.functions_of 0 (points_in flow.functions_of) ((n, y), (p, x)) c in
        let same : r.0 ≡ p = let e : p ≡ 0 + r.0 = r.3 in omega (arith, e) in
        record {
          slot = r.4.slot;
          args = r.4.args;
          next = r.4.next;
          function = r.4.function;
          call = subst (λ (i : ℕ). slice_get (points_in flow.functions_of) i ≡ Some (call_point r.4.slot n r.4.args r.4.next)) same (r.2 ∙ ap (λ (k : PlainPoint). Some k) r.4.is);
          is = r.4.there;
          argument = r.4.argument;
        }

    into : IsHandedIn flow n y p x → Contains (handings_from flow.functions_of 0 (points_in flow.functions_of)) ((n, y), (p, x))
    into r =
        let none : p ≡ 0 + p = omega arith in
        into_row flow.functions_of 0 (points_in flow.functions_of) ((n, y), (p, x)) p (call_point r.slot n r.args r.next) r.call
        (record { slot = r.slot; args = r.args; next = r.next; is = refl; point = none; function = r.function; there = r.is; argument = r.argument })

-- an item is for the parameter where it names it
handed_is : (n y : ℕ) (h : Handing) (t : ℕ × ℕ) → Contains (handed_for n y h) t → ◌≡◌ {A = Handing} h ((n, y), t)
handed_is n y h t c = by (nat_eq h.0.0 n) refl (nat_eq h.0.1 y) refl c
  where
    by : (a : Bool) → nat_eq h.0.0 n ≡ a → (b : Bool) → nat_eq h.0.1 y ≡ b → Contains (if a && b then h.1 ∷ [] else []) t → ◌≡◌ {A = Handing} h ((n, y), t)
    by true d true e c =
        let first : h.0.0 ≡ n = exact_unsigned_eq h.0.0 n d in
        let second : h.0.1 ≡ y = exact_unsigned_eq h.0.1 y e in
        let third : h.1 ≡ t = only_one h.1 t c in
        ap (λ (z : ℕ). let w : Handing = ((z, h.0.1), h.1) in w) first ∙ (ap (λ (z : ℕ). let w : Handing = ((n, z), h.1) in w) second ∙ ap (λ (z : ℕ × ℕ). let w : Handing = ((n, y), z) in w) third)
    by true d false e c = absurd (none_in t c)
    by false d b e c = absurd (none_in t c)

handed_there : (n y : ℕ) (t : ℕ × ℕ) → Contains (handed_for n y ((n, y), t)) t
handed_there n y t = subst (λ (b : Bool). Contains (if b then t ∷ [] else []) t) (sym both) (it_alone t)
  where
    both : (nat_eq n n && nat_eq y y) ≡ true
    both = ap (λ (b : Bool). b && nat_eq y y) (eq-eqb n n refl) ∙ eq-eqb y y refl

-- what is handed to a parameter
pub handed_pairs : (flow : PlainFlow) (n y : ℕ) → ArePairs (IsHandedIn flow n y) (handed_to flow n y)
unfolding handed_to
handed_pairs flow n y p x = (
  λ c.
      let r = in_flat_map (handed_for n y) (handings_from flow.functions_of 0 (points_in flow.functions_of)) (p, x) c in
      (handed_law flow n y p x).0 (subst (λ (h : Handing). Contains (handings_from flow.functions_of 0 (points_in flow.functions_of)) h) (handed_is n y r.0 (p, x) r.2) r.1),
  λ r. flat_map_has (handed_for n y) (handings_from flow.functions_of 0 (points_in flow.functions_of)) ((n, y), (p, x)) (p, x) ((handed_law flow n y p x).1 r) (handed_there n y (p, x)),
)
