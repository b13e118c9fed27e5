-- Versions that are held for reads.
use Rattle.std.proofs.Common.{◌≡◌, ◌≢◌, ◌⊎◌, inl, inr, ℕ, zero, suc, Bool, true, false, ◌&&◌, cond, List, [], ◌∷◌, ◌++◌, Option, Some, None, refl, sym, subst, ◌∙◌, ap, arith, slice_get, Contains, length, ◌<◌, ◌+◌, take, get_or}
use Rattle.std.specs.Prelude.{nat_eq}
use Rattle.std.proofs.lemmas.Option.{same_Some, slice_get_within, get_or_from_slice_get, slice_get-get_or}
use Rattle.std.proofs.lemmas.Bool.{eqb-true, eq-eqb}
use Rattle.std.proofs.lemmas.List.Elements.{Contains-append_cases, Contains-append_left, Contains-append_right}
use Rattle.std.proofs.Math.Seq.{take-suc}
use Rattle.std.proofs.lemmas.List.{map-append}
use Rattle.text_base.specs.declared.numbers.Slot.{Slot}
use Rattle.flow_code.specs.View.{slot_number}
use Rattle.flow_graph.specs.Steps.{numbers}
use Rattle.numbered_sets.specs.Numbers.{Keeps}
use Rattle.loose_sets.specs.Versions.{PlainVersion, of_definition, join_at, IsKept}
use Rattle.ssa_form.specs.declared.marks.Marks.{Marks}
use Rattle.ssa_form.specs.declared.version.Version.{Version}
use Rattle.ssa_form.specs.Views.{version_seen, held}
use Rattle.ssa_form.specs.Marks.{found, found_in, asked_by, Reads}

pub contains_at : {X : Type 0} (xs : List X) (n : ℕ) (x : X) → slice_get xs n ≡ Some x → Contains xs x
contains_at xs n x h = (n, slice_get_within xs n x h, get_or_from_slice_get xs n x x h)

pub at_contains : {X : Type 0} (xs : List X) (x : X) → Contains xs x → (n : ℕ) × (slice_get xs n ≡ Some x)
at_contains {X} xs x c = (c.0, subst (λ (y : X). slice_get xs c.0 ≡ Some y) c.2 (slice_get-get_or xs c.0 x c.1))

pub contains_kept : {X : Type 0} (old new : List X) (x : X) → Keeps old new → Contains old x → Contains new x
contains_kept old new x keeps c = let a = at_contains old x c in contains_at new a.0 x (keeps a.0 x a.1)

pub in_one : {X : Type 0} (y x : X) → Contains (y ∷ []) x → y ≡ x
in_one y x (zero, below, e) = e
in_one y x (suc k, below, e) = absurd (omega arith)

-- only the join at the head is a version that a row of points makes
pub joins_at : (o : Option ℕ) (h x p y : ℕ) → found o h x ≡ join_at p y → p ≡ h
joins_at None h x p y e = cc
joins_at (Some q) h x p y e = absurd (cc)

-- and it is one of the slot
pub joins_slot : (o : Option ℕ) (h x p y : ℕ) → found o h x ≡ join_at p y → y ≡ x
joins_slot None h x p y e = cc
joins_slot (Some q) h x p y e = absurd (cc)

pub kept_more : (old new : List (ℕ × ℕ)) (v : PlainVersion) → ((h x : ℕ) → Contains old (h, x) → Contains new (h, x)) → IsKept (asked_by old) v → IsKept (asked_by new) v
kept_more old new (of_definition d) more k = k
kept_more old new (join_at p x) more k = more p x k

-- what a map holds after one more was put in
pub cases_put : {A : Type 0} (b c : Bool) (new old : Option A) (a : A) → new ≡ cond (b && c) (Some a) old → ((b ≡ true) × (c ≡ true) × (new ≡ Some a)) ⊎ (new ≡ old)
cases_put true true new old a e = inl (refl, refl, e)
cases_put true false new old a e = inr e
cases_put false c new old a e = inr e

pub no_none : {A : Type 0} (a : A) (o : Option A) → o ≡ Some a → o ≢ None
no_none a o e n = absurd (cc)

pub one_read : (old new : Marks) (head point slot : ℕ) (v : Version) → new.last ≡ old.last → version_seen v ≡ found_in old.last head slot → IsKept (asked_by new.asks.keys) (version_seen v)
    → Keeps old.asks.keys new.asks.keys → ((k : ℕ × ℕ) → Contains new.asks.keys k → Contains old.asks.keys k ⊎ (version_seen v ≡ join_at k.0 k.1))
    → ((p x : ℕ) → held new.versions p x ≡ cond (nat_eq point p && nat_eq slot x) (Some v) (held old.versions p x)) → Reads old new head point (slot ∷ [])
one_read old new head point slot v same seen kept keeps adds puts = record {
  last = same;
  each = λ p x w e. elim (cases_put (nat_eq point p) (nat_eq slot x) (held new.versions p x) (held old.versions p x) v (puts p x)) [
    | inl c ↦ inr (
      sym (eqb-true point p c.0),
      ap version_seen (same_Some w v (sym e ∙ c.2)) ∙ seen ∙ ap (λ (y : ℕ). found_in old.last head y) (eqb-true slot x c.1),
      subst (λ (u : Version). IsKept (asked_by new.asks.keys) (version_seen u)) (same_Some v w (sym c.2 ∙ e)) kept,
    )
    | inr c ↦ inl (sym c ∙ e)
  ];
  all = λ x c. subst (λ (y : ℕ). held new.versions point y ≢ None) (in_one slot x c) (no_none v (held new.versions point slot) (puts point slot ∙ both_same point slot (Some v) (held old.versions point slot)));
  grows = λ p x n. elim (cases_put (nat_eq point p) (nat_eq slot x) (held new.versions p x) (held old.versions p x) v (puts p x)) [
    | inl c ↦ no_none v (held new.versions p x) c.2
    | inr c ↦ subst (λ (o : Option Version). o ≢ None) (sym c) n
  ];
  asks = λ h x c. elim (adds (h, x) c) [
    | inl a ↦ inl a
    | inr e ↦ inr (
      joins_at (held old.last head slot) head slot h x (sym seen ∙ e),
      subst (λ (y : ℕ). Contains (slot ∷ []) y) (sym (joins_slot (held old.last head slot) head slot h x (sym seen ∙ e))) (zero, omega arith, refl),
    )
  ];
  keeps = λ h x c. contains_kept old.asks.keys new.asks.keys (h, x) keeps c;
}
  where
    eq_same : (n : ℕ) → nat_eq n n ≡ true
    eq_same n = eq-eqb n n refl

    both_same : {A : Type 0} (n m : ℕ) (a b : A) → cond (nat_eq n n && nat_eq m m) a b ≡ a
    both_same n m a b = ap (λ t. cond (t && nat_eq m m) a b) (eq_same n) ∙ ap (λ t. cond t a b) (eq_same m)

pub no_read : (m : Marks) (head point : ℕ) → Reads m m head point []
no_read m head point = record {
  last = refl;
  each = λ p x w e. inl e;
  all = λ x c. absurd (let h = c.1 in omega arith);
  grows = λ p x n. n;
  asks = λ h x c. inl c;
  keeps = λ h x c. c;
}

pub reads_both : (old mid new : Marks) (head point : ℕ) (xs ys : List ℕ) → Reads old mid head point xs → Reads mid new head point ys → Reads old new head point (xs ++ ys)
reads_both old mid new head point xs ys a b = record {
  last = b.last ∙ a.last;
  each = λ p x w e. elim (b.each p x w e) [
    | inl k ↦ elim (a.each p x w k) [
      | inl o ↦ inl o
      | inr o ↦ inr (o.0, o.1, kept_more mid.asks.keys new.asks.keys (version_seen w) b.keeps o.2)
    ]
    | inr k ↦ inr (k.0, k.1 ∙ ap (λ l. found_in l head x) a.last, k.2)
  ];
  all = λ x c. elim (Contains-append_cases xs ys x c) [ inl k ↦ b.grows point x (a.all x k) | inr k ↦ b.all x k ];
  grows = λ p x n. b.grows p x (a.grows p x n);
  asks = λ h x c. elim (b.asks h x c) [
    | inl k ↦ elim (a.asks h x k) [ inl o ↦ inl o | inr r ↦ inr (r.0, Contains-append_left xs ys x r.1) ]
    | inr r ↦ inr (r.0, Contains-append_right xs ys x r.1)
  ];
  keeps = λ h x c. b.keeps h x (a.keeps h x c);
}

-- the reads of one slot more
pub one_more : (old mid new : Marks) (head point : ℕ) (slots : List Slot) (i : ℕ) (d : Slot) → i < length slots → Reads old mid head point (numbers (take i slots)) → Reads mid new head point ((get_or slots i d).0 ∷ [])
    → Reads old new head point (numbers (take (i + 1) slots))
one_more old mid new head point slots i d within a b =
    let next : i + 1 ≡ suc i = omega arith in
    let longer : numbers (take (i + 1) slots) ≡ numbers (take i slots) ++ (get_or slots i d).0 ∷ [] =
    ap numbers (ap (λ (n : ℕ). take n slots) next ∙ take-suc slots i d within) ∙ map-append slot_number (take i slots) (get_or slots i d ∷ []) in
    subst (λ (xs : List ℕ). Reads old new head point xs) (sym longer) (reads_both old mid new head point (numbers (take i slots)) ((get_or slots i d).0 ∷ []) a b)
