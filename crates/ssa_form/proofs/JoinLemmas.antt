-- Joins that are asked for, and their rows.
use Rattle.std.proofs.Common.{◌≡◌, ◌≤◌, ◌<◌, ◌+◌, ◌⊎◌, inl, inr, ℕ, zero, suc, Bool, true, false, if◌then◌else◌, List, [], ◌∷◌, ◌++◌, length, take, get_or, Option, Some, None, refl, sym, subst, ◌∙◌, ap, arith, slice_get, Contains, length-append}
use Rattle.std.proofs.lemmas.Option.{same_Some, slice_get_within}
use Rattle.std.proofs.lemmas.List.Elements.{Contains-append_left, Contains-append_right, Contains-append_cases}
use Rattle.numbered_sets.specs.Numbers.{Keeps}
use Rattle.flow_code.specs.Points.{PlainFlowFunction}
use Rattle.flow_graph.specs.declared.arrivals.Arrival.{Arrival}
use Rattle.flow_graph.specs.declared.arrivals.Arrival.TheVariants.{Edge, Entry}
use Rattle.flow_graph.proofs.HeadLemmas.{push_cases}
use Rattle.loose_sets.specs.Reaching.{at_entry}
use Rattle.loose_sets.specs.Versions.{PlainVersion, of_definition, join_at, IsKept}
use Rattle.ssa_form.specs.declared.version.Version.{Version}
use Rattle.ssa_form.specs.Views.{version_seen, versions_seen}
use Rattle.ssa_form.specs.Marks.{asked_by}
use Rattle.ssa_form.specs.Rows.{link_of, link_from, link_into, owns, IsRow}
use Rattle.ssa_form.specs.Joins.{AsksFor, AreFirst, AreRows}
use Rattle.ssa_form.proofs.ReadLemmas.{contains_at, contains_kept, in_one, kept_more}
use Rattle.ssa_form.proofs.RowLemmas.{seen_longer}

none_of : {X : Type 0} (x : X) → Contains [] x → ⊥
none_of x c = let h = c.1 in omega arith

pub asks_none : (old : List (ℕ × ℕ)) → AsksFor old old []
asks_none old = record { kept = λ v c. absurd (none_of v c); keeps = λ n x h. h; adds = λ k c. inl c }

asks_both : (old mid new : List (ℕ × ℕ)) (us vs : List PlainVersion) → AsksFor old mid us → AsksFor mid new vs → AsksFor old new (us ++ vs)
asks_both old mid new us vs a b = record {
  kept = λ v c. elim (Contains-append_cases us vs v c) [
    | inl k ↦ kept_more mid new v (λ h x. contains_kept mid new (h, x) b.keeps) (a.kept v k)
    | inr k ↦ b.kept v k
  ];
  keeps = λ n x h. b.keeps n x (a.keeps n x h);
  adds = λ k c. elim (b.adds k c) [
    | inl m ↦ elim (a.adds k m) [ inl o ↦ inl o | inr u ↦ inr (Contains-append_left us vs (join_at k.0 k.1) u) ]
    | inr v ↦ inr (Contains-append_right us vs (join_at k.0 k.1) v)
  ];
}

asks_one : (old new : List (ℕ × ℕ)) (v : PlainVersion) → IsKept (asked_by new) v → Keeps old new → ((k : ℕ × ℕ) → Contains new k → Contains old k ⊎ (v ≡ join_at k.0 k.1)) → AsksFor old new (v ∷ [])
asks_one old new v kept keeps adds = record {
  kept = λ u c. subst (λ (w : PlainVersion). IsKept (asked_by new) w) (in_one v u c) kept;
  keeps = keeps;
  adds = λ k c. elim (adds k c) [ inl o ↦ inl o | inr e ↦ inr (0, omega arith, e) ];
}

-- one version more
pub asks_more : (old mid new : List (ℕ × ℕ)) (row : List Version) (i : ℕ) (d : Version) → i < length row → AsksFor old mid (versions_seen (take i row)) → IsKept (asked_by new) (version_seen (get_or row i d)) → Keeps mid new
    → ((k : ℕ × ℕ) → Contains new k → Contains mid k ⊎ (version_seen (get_or row i d) ≡ join_at k.0 k.1)) → AsksFor old new (versions_seen (take (i + 1) row))
asks_more old mid new row i d within before kept keeps adds =
    subst (λ (vs : List PlainVersion). AsksFor old new vs) (sym (seen_longer row i d within)) (asks_both old mid new (versions_seen (take i row)) (version_seen (get_or row i d) ∷ []) before (asks_one mid new (version_seen (get_or row i d)) kept keeps adds))

pub keeps_length : {X : Type 0} (old new : List X) → Keeps old new → length old ≤ length new
keeps_length {X} old new keeps = by (length old) refl
  where
    by : (n : ℕ) → length old ≡ n → length old ≤ length new
    by zero e = omega arith
    by (suc n) e =
        let o = at old n (omega arith) in
        let k = slice_get_within new n o.0 (keeps n o.0 o.1) in
        omega arith
      where
        at : (xs : List X) (n : ℕ) → n < length xs → (x : X) × (slice_get xs n ≡ Some x)
        at [] n h = absurd (omega arith)
        at (x ∷ xs) zero h = (x, refl)
        at (x ∷ xs) (suc n) h = at xs n (omega arith)

pub get_there : {X : Type 0} (xs : List X) (n : ℕ) → n < length xs → (x : X) × (slice_get xs n ≡ Some x)
get_there [] n h = absurd (omega arith)
get_there (x ∷ xs) zero h = (x, refl)
get_there (x ∷ xs) (suc n) h = get_there xs n (omega arith)

-- joins behind rows stand at first points of rows, and are those of the slot
abbrev pub JoinsFirst : List ℕ → (ℕ → ℕ → PlainVersion) → Type 0
JoinsFirst heads behind = (g x h y : ℕ) → slice_get heads g ≡ Some g → behind g x ≡ join_at h y → (slice_get heads h ≡ Some h) × (y ≡ x)

module _ (fs : List PlainFlowFunction) (heads : List ℕ) (behind : ℕ → ℕ → PlainVersion) (all : List (ℕ × Arrival)) (first : AreFirst heads) (joins : JoinsFirst heads behind) (firsts : List (ℕ × ℕ)) where
  -- a join comes from the first point of a row
  join_first : (x : ℕ) (a : Arrival) (h y : ℕ) → Contains (link_of fs heads behind x a) (join_at h y) → slice_get heads h ≡ Some h
  unfolding link_of
  join_first x (Edge q) h y c = by (slice_get heads q) refl c
    where
      by : (o : Option ℕ) → slice_get heads q ≡ o → Contains (link_from o behind x) (join_at h y) → slice_get heads h ≡ Some h
      by None e k = absurd (none_of (join_at h y) k)
      by (Some g) e k = (joins g x h y (first q g e) (in_one (behind g x) (join_at h y) k)).0
  join_first x (Entry f) h y c = by (slice_get fs f) c
    where
      entry_only : (b : Bool) → Contains (if b then of_definition (at_entry f x) ∷ [] else []) (join_at h y) → slice_get heads h ≡ Some h
      entry_only true k = absurd (no (in_one (of_definition (at_entry f x)) (join_at h y) k))
        where
          no : of_definition (at_entry f x) ≡ join_at h y → ⊥
          no e = cc
      entry_only false k = absurd (none_of (join_at h y) k)

      by : (o : Option PlainFlowFunction) → Contains (link_into o f x) (join_at h y) → slice_get heads h ≡ Some h
      by None k = absurd (none_of (join_at h y) k)
      by (Some g) k = entry_only (owns g x) k

  -- and is one of the slot
  join_slot : (x : ℕ) (a : Arrival) (h y : ℕ) → Contains (link_of fs heads behind x a) (join_at h y) → y ≡ x
  unfolding link_of
  join_slot x (Edge q) h y c = by (slice_get heads q) refl c
    where
      by : (o : Option ℕ) → slice_get heads q ≡ o → Contains (link_from o behind x) (join_at h y) → y ≡ x
      by None e k = absurd (none_of (join_at h y) k)
      by (Some g) e k = (joins g x h y (first q g e) (in_one (behind g x) (join_at h y) k)).1
  join_slot x (Entry f) h y c = by (slice_get fs f) c
    where
      entry_only : (b : Bool) → Contains (if b then of_definition (at_entry f x) ∷ [] else []) (join_at h y) → y ≡ x
      entry_only true k = absurd (no (in_one (of_definition (at_entry f x)) (join_at h y) k))
        where
          no : of_definition (at_entry f x) ≡ join_at h y → ⊥
          no e = cc
      entry_only false k = absurd (none_of (join_at h y) k)

      by : (o : Option PlainFlowFunction) → Contains (link_into o f x) (join_at h y) → y ≡ x
      by None k = absurd (none_of (join_at h y) k)
      by (Some g) k = entry_only (owns g x) k

  pub rows_more : (asks new : List (ℕ × ℕ)) (rows : List (List Version)) (r : List Version) (j : ℕ × ℕ) → AreRows fs heads behind all firsts asks rows → length rows < length asks → slice_get asks (length rows) ≡ Some j
      → IsRow fs heads behind all j.0 j.1 (versions_seen r) → AsksFor asks new (versions_seen r) → AreRows fs heads behind all firsts new (rows ++ r ∷ [])
  rows_more asks new rows r j are less at row adds = record {
    within = (let e = length-append rows (r ∷ []) in let k = keeps_length asks new adds.keeps in omega arith);
    each = λ i p x s here there. elim (push_cases rows r i s there) [
      | inl k ↦ (let o = get_there asks i (let a = k.0 in omega arith) in
          let same : o.0 ≡ (p, x) = same_Some o.0 (p, x) (sym (adds.keeps i o.0 o.1) ∙ here) in
          are.each i p x s (o.1 ∙ ap (λ (q : ℕ × ℕ). Some q) same) k.1)
      | inr k ↦
          let same : j ≡ (p, x) = same_Some j (p, x) (sym (adds.keeps i j (subst (λ (n : ℕ). slice_get asks n ≡ Some j) (sym k.0) at)) ∙ here) in
          subst (λ (t : List Version). IsRow fs heads behind all p x (versions_seen t)) k.1
          (subst (λ (q : ℕ × ℕ). IsRow fs heads behind all q.0 q.1 (versions_seen r)) same row)
    ];
    kept = λ i s v there c. elim (push_cases rows r i s there) [
      | inl k ↦ kept_more asks new v (λ h x. contains_kept asks new (h, x) adds.keeps) (are.kept i s v k.1 c)
      | inr k ↦ adds.kept v (subst (λ (t : List Version). Contains (versions_seen t) v) (sym k.1) c)
    ];
    asked = λ h x c. elim (adds.adds (h, x) c) [
      | inl k ↦ are.asked h x k
      | inr k ↦ (let o = row.each (join_at h x) k in join_first j.1 o.0 h x o.2)
    ];
    slots = λ h x c. elim (adds.adds (h, x) c) [
      | inl k ↦ are.slots h x k
      | inr k ↦ (let o = row.each (join_at h x) k in
          subst (λ (y : ℕ). (g : ℕ) × Contains firsts (g, y)) (sym (join_slot j.1 o.0 h x o.2)) (are.slots j.0 j.1 (contains_at asks (length rows) j at)))
    ];
  }

  pub no_rows : ((h x : ℕ) → Contains firsts (h, x) → slice_get heads h ≡ Some h) → AreRows fs heads behind all firsts firsts []
  no_rows asked = record { within = omega arith; each = λ i p x r here there. absurd (cc); kept = λ i r v there c. absurd (cc); asked = asked; slots = λ h x c. (h, c) }
