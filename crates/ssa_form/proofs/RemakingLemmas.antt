-- Versions made anew, with the version in the place of each join that is no more than that.
use Rattle.std.proofs.Common.{◌≡◌, ◌≢◌, ◌<◌, ◌+◌, ◌⊎◌, inl, inr, ℕ, zero, suc, Bool, true, false, ◌&&◌, cond, List, [], ◌∷◌, ◌++◌, length, take, get_or, Option, Some, None, refl, sym, subst, ◌∙◌, ap, arith, slice_get, Contains}
use Rattle.std.specs.Prelude.{nat_eq}
use Rattle.std.specs.Map.{lookup}
use Rattle.std.proofs.lemmas.Option.{same_Some}
use Rattle.std.proofs.lemmas.Bool.{eqb-true, eq-eqb}
use Rattle.std.proofs.lemmas.Bool.Decides.{eqb_tells}
use Rattle.std.proofs.lemmas.List.{map-append, length-append, length-map}
use Rattle.std.proofs.lemmas.List.Elements.{Contains-append_left, Contains-append_right, Contains-append_cases}
use Rattle.indexmap.specs.IndexMap.{IndexMap}
use Rattle.numbered_sets.specs.Numbers.{Keeps}
use Rattle.flow_code.specs.Points.{PlainFlow}
use Rattle.flow_graph.specs.Found.{number_in}
use Rattle.flow_graph.proofs.HeadLemmas.{push_cases}
use Rattle.loose_sets.specs.Versions.{PlainVersion, join_at, IsKept}
use Rattle.ssa_form.specs.declared.version.Version.{Version}
use Rattle.ssa_form.specs.Views.{version_seen, versions_seen, held}
use Rattle.ssa_form.specs.Marks.{asked_by}
use Rattle.ssa_form.specs.JoinRows.{IsRowOf}
use Rattle.ssa_form.specs.Joins.{AsksFor}
use Rattle.ssa_form.specs.Versions.{row_of}
use Rattle.ssa_form.specs.Replacing.{Replaces, ReplacesAll, AreHeld, AreAsked, AreMadeAnew}
use Rattle.ssa_form.proofs.ReadLemmas.{contains_kept, in_one, kept_more, cases_put, no_none}
use Rattle.ssa_form.proofs.JoinLemmas.{keeps_length, get_there}
use Rattle.ssa_form.proofs.RowLemmas.{seen_longer}
use Rattle.ssa_form.proofs.ReplacingLemmas.{one_of}

none_of : {X : Type 0} (x : X) → Contains [] x → ⊥
none_of x c = let h = c.1 in omega arith

-- versions in the places of those of a row, one more
pub replaces_none : (flow : PlainFlow) (asks : List (ℕ × ℕ)) → ReplacesAll flow asks [] []
replaces_none flow asks = record { each = λ w c. absurd (none_of w c); all = λ u c. absurd (none_of u c); few = omega arith }

replaces_one : (flow : PlainFlow) (asks : List (ℕ × ℕ)) (us ws : List PlainVersion) (u w : PlainVersion) → ReplacesAll flow asks us ws → Replaces flow asks u w → ReplacesAll flow asks (us ++ u ∷ []) (ws ++ w ∷ [])
replaces_one flow asks us ws u w are r = record {
  each = λ z c. elim (Contains-append_cases ws (w ∷ []) z c) [
    | inl k ↦ (let o = are.each z k in (o.0, Contains-append_left us (u ∷ []) o.0 o.1, o.2))
    | inr k ↦ (u, Contains-append_right us (u ∷ []) u (one_of u), subst (λ (y : PlainVersion). Replaces flow asks u y) (in_one w z k) r)
  ];
  all = λ z c. elim (Contains-append_cases us (u ∷ []) z c) [
    | inl k ↦ (let o = are.all z k in (o.0, Contains-append_left ws (w ∷ []) o.0 o.1, o.2))
    | inr k ↦ (w, Contains-append_right ws (w ∷ []) w (one_of w), subst (λ (y : PlainVersion). Replaces flow asks y w) (in_one u z k) r)
  ];
  few = (let a = are.few in let b = length-append us (u ∷ []) in let c = length-append ws (w ∷ []) in omega (arith, a, b, c));
}

pub replaces_more : (flow : PlainFlow) (asks : List (ℕ × ℕ)) (links row : List Version) (i : ℕ) (d w : Version) → i < length links → ReplacesAll flow asks (versions_seen (take i links)) (versions_seen row)
    → Replaces flow asks (version_seen (get_or links i d)) (version_seen w) → ReplacesAll flow asks (versions_seen (take (i + 1) links)) (versions_seen (row ++ w ∷ []))
replaces_more flow asks links row i d w within are r =
    subst (λ (us : List PlainVersion). ReplacesAll flow asks us (versions_seen (row ++ w ∷ []))) (sym (seen_longer links i d within))
    (subst (λ (ws : List PlainVersion). ReplacesAll flow asks (versions_seen (take i links) ++ version_seen (get_or links i d) ∷ []) ws) (sym (map-append version_seen row (w ∷ [])))
    (replaces_one flow asks (versions_seen (take i links)) (versions_seen row) (version_seen (get_or links i d)) (version_seen w) are r))

pub row_replaces : (flow : PlainFlow) (asks : List (ℕ × ℕ)) (us vs : List PlainVersion) (row : List Version) → ReplacesAll flow asks us vs → IsRowOf row vs → ReplacesAll flow asks us (versions_seen row)
row_replaces flow asks us vs row are is = record {
  each = λ w c. are.each w ((is.same w).0 c);
  all = λ u c. (let o = are.all u c in (o.0, (is.same o.0).1 o.1, o.2));
  few = (let a = are.few in let b = is.few in let c = length-map row version_seen in omega (arith, a, b, c));
}

-- what a map holds is one of its entries
at_entry : (p x : ℕ) (v : Version) (e : (ℕ × ℕ) × Version) (es : List ((ℕ × ℕ) × Version)) (o : Option Version) (a b : Bool) → nat_eq p e.0.0 ≡ a → nat_eq x e.0.1 ≡ b → cond (a && b) (Some e.1) o ≡ Some v
    → (o ≡ Some v → (i : ℕ) × (slice_get es i ≡ Some ((p, x), v))) → (i : ℕ) × (slice_get (e ∷ es) i ≡ Some ((p, x), v))
at_entry p x v e es o true true f g k further =
    let key : (p, x) ≡ e.0 = ap (λ (z : ℕ). (z, x)) (eqb-true p e.0.0 f) ∙ ap (λ (z : ℕ). (e.0.0, z)) (eqb-true x e.0.1 g) in
    (zero, ap (λ (z : ℕ × ℕ). Some (z, e.1)) (sym key) ∙ ap (λ (z : Version). Some ((p, x), z)) (same_Some e.1 v k))
at_entry p x v e es o true false f g k further = let n = further k in (suc n.0, n.1)
at_entry p x v e es o false b f g k further = let n = further k in (suc n.0, n.1)

entry_of : (p x : ℕ) (v : Version) (es : List ((ℕ × ℕ) × Version)) → lookup (λ (k : ℕ × ℕ). nat_eq p k.0 && nat_eq x k.1) es ≡ Some v → (i : ℕ) × (slice_get es i ≡ Some ((p, x), v))
entry_of p x v [] k = absurd (cc)
entry_of p x v (e ∷ es) k = at_entry p x v e es (lookup (λ (k : ℕ × ℕ). nat_eq p k.0 && nat_eq x k.1) es) (nat_eq p e.0.0) (nat_eq x e.0.1) refl refl k (λ f. entry_of p x v es f)

pub held_entry : {S : Type 0} (m : IndexMap (ℕ × ℕ) Version S) (p x : ℕ) (v : Version) → held m p x ≡ Some v → (i : ℕ) × (slice_get m.entries i ≡ Some ((p, x), v))
held_entry m p x v e = entry_of p x v m.entries e

both_same : {A : Type 0} (n m : ℕ) (a b : A) → cond (nat_eq n n && nat_eq m m) a b ≡ a
both_same n m a b = ap (λ t. cond (t && nat_eq m m) a b) (eq-eqb n n refl) ∙ ap (λ t. cond t a b) (eq-eqb m m refl)

pub held_none : {S T : Type 0} (flow : PlainFlow) (asks : List (ℕ × ℕ)) (old : IndexMap (ℕ × ℕ) Version S) (new : IndexMap (ℕ × ℕ) Version T) (keys : List (ℕ × ℕ)) → ((p x : ℕ) → held new p x ≡ None) → keys ≡ [] → AreHeld flow asks old new keys 0
held_none flow asks old new keys none empty = record {
  each = λ p x w e. absurd (none_some w (sym (none p x) ∙ e));
  all = λ i e less at. absurd (omega arith);
  known = λ p x c. absurd (none_of (p, x) (subst (λ (ks : List (ℕ × ℕ)). Contains ks (p, x)) empty c));
}
  where
    none_some : (w : Version) → None ≡ Some w → ⊥
    none_some w e = cc

pub held_past : {S T : Type 0} (flow : PlainFlow) (asks : List (ℕ × ℕ)) (old : IndexMap (ℕ × ℕ) Version S) (new : IndexMap (ℕ × ℕ) Version T) (keys : List (ℕ × ℕ)) (n : ℕ) → slice_get old.entries n ≡ None
    → AreHeld flow asks old new keys n → AreHeld flow asks old new keys (suc n)
held_past flow asks old new keys n past are = record {
  each = are.each;
  all = λ i e less at. elim (eqb_tells i n) [
    | inl k ↦ absurd (none_some e (sym past ∙ subst (λ (z : ℕ). slice_get old.entries z ≡ Some e) k.1 at))
    | inr k ↦ are.all i e (let d = k.1 in omega arith) at
  ];
  known = are.known;
}
  where
    none_some : (e : (ℕ × ℕ) × Version) → None ≡ Some e → ⊥
    none_some e k = cc

module _ {S T : Type 0} (flow : PlainFlow) (asks : List (ℕ × ℕ)) (old : IndexMap (ℕ × ℕ) Version S) (mid new : IndexMap (ℕ × ℕ) Version T) (before after : List (ℕ × ℕ)) (n point slot : ℕ) (version kept : Version)
    (entry : slice_get old.entries n ≡ Some ((point, slot), version)) (holds : held old point slot ≡ Some version) (r : Replaces flow asks (version_seen version) (version_seen kept))
    (is_kept : IsKept (asked_by after) (version_seen kept)) (keeps : Keeps before after) (adds : (k : ℕ × ℕ) → Contains after k → Contains before k ⊎ (version_seen kept ≡ join_at k.0 k.1))
    (puts : (p x : ℕ) → held new p x ≡ cond (nat_eq point p && nat_eq slot x) (Some kept) (held mid p x)) (asked : AreAsked asks old) (are : AreHeld flow asks old mid before n) where
  put_cases : (p x : ℕ) → ((nat_eq point p ≡ true) × (nat_eq slot x ≡ true) × (held new p x ≡ Some kept)) ⊎ (held new p x ≡ held mid p x)
  put_cases p x = cases_put (nat_eq point p) (nat_eq slot x) (held new p x) (held mid p x) kept (puts p x)

  pub held_more : AreHeld flow asks old new after (suc n)
  held_more = record {
    each = λ p x w e. elim (put_cases p x) [
      | inl c ↦ (
        version,
        subst (λ (z : ℕ). held old z x ≡ Some version) (eqb-true point p c.0) (subst (λ (z : ℕ). held old point z ≡ Some version) (eqb-true slot x c.1) holds),
        subst (λ (u : Version). Replaces flow asks (version_seen version) (version_seen u)) (same_Some kept w (sym c.2 ∙ e)) r,
        subst (λ (u : Version). IsKept (asked_by after) (version_seen u)) (same_Some kept w (sym c.2 ∙ e)) is_kept,
      )
      | inr c ↦ (let o = are.each p x w (sym c ∙ e) in (o.0, o.1, o.2, kept_more before after (version_seen w) (λ h y. contains_kept before after (h, y) keeps) o.3))
    ];
    all = λ i e less at. elim (eqb_tells i n) [
      | inl k ↦ (let same : ((point, slot), version) ≡ e = same_Some ((point, slot), version) e (sym entry ∙ subst (λ (z : ℕ). slice_get old.entries z ≡ Some e) k.1 at) in
          subst (λ (z : (ℕ × ℕ) × Version). held new z.0.0 z.0.1 ≢ None) same (no_none kept (held new point slot) (puts point slot ∙ both_same point slot (Some kept) (held mid point slot))))
      | inr k ↦ elim (put_cases e.0.0 e.0.1) [
        | inl c ↦ no_none kept (held new e.0.0 e.0.1) c.2
        | inr c ↦ subst (λ (o : Option Version). o ≢ None) (sym c) (are.all i e (let d = k.1 in omega arith) at)
      ]
    ];
    known = λ p x c. elim (adds (p, x) c) [
      | inl k ↦ are.known p x k
      | inr e ↦ subst (λ (v : PlainVersion). IsKept (asked_by asks) v) e (r.kept (asked point slot version holds))
    ];
  }

-- rows of joins made anew, one more
pub none_anew : (flow : PlainFlow) (asks : List (ℕ × ℕ)) (old : List (List Version)) (keys : List (ℕ × ℕ)) → ((p x : ℕ) → Contains keys (p, x) → Contains asks (p, x)) → AreMadeAnew flow asks old keys []
none_anew flow asks old keys known = record { within = omega arith; each = λ i p x r here there. absurd (cc); kept = λ i r v there c. absurd (cc); known = known }

pub anew_more : (flow : PlainFlow) (asks : List (ℕ × ℕ)) (old : List (List Version)) (keys new : List (ℕ × ℕ)) (rows : List (List Version)) (r : List Version) (j : ℕ × ℕ) → AreMadeAnew flow asks old keys rows → length rows < length keys
    → slice_get keys (length rows) ≡ Some j → ReplacesAll flow asks (row_of old (number_in asks j.0 j.1)) (versions_seen r) → AsksFor keys new (versions_seen r)
    → ((u : PlainVersion) → Contains (row_of old (number_in asks j.0 j.1)) u → IsKept (asked_by asks) u) → AreMadeAnew flow asks old new (rows ++ r ∷ [])
anew_more flow asks old keys new rows r j are less at row adds closed = record {
  within = (let e = length-append rows (r ∷ []) in let k = keeps_length keys new adds.keeps in omega arith);
  each = λ i p x s here there. elim (push_cases rows r i s there) [
    | inl k ↦ (let o = get_there keys i (let a = k.0 in omega arith) in
        let same : o.0 ≡ (p, x) = same_Some o.0 (p, x) (sym (adds.keeps i o.0 o.1) ∙ here) in
        are.each i p x s (o.1 ∙ ap (λ (q : ℕ × ℕ). Some q) same) k.1)
    | inr k ↦
        let same : j ≡ (p, x) = same_Some j (p, x) (sym (adds.keeps i j (subst (λ (n : ℕ). slice_get keys n ≡ Some j) (sym k.0) at)) ∙ here) in
        subst (λ (t : List Version). ReplacesAll flow asks (row_of old (number_in asks p x)) (versions_seen t)) k.1
        (subst (λ (q : ℕ × ℕ). ReplacesAll flow asks (row_of old (number_in asks q.0 q.1)) (versions_seen r)) same row)
  ];
  kept = λ i s v there c. elim (push_cases rows r i s there) [
    | inl k ↦ kept_more keys new v (λ h x. contains_kept keys new (h, x) adds.keeps) (are.kept i s v k.1 c)
    | inr k ↦ adds.kept v (subst (λ (t : List Version). Contains (versions_seen t) v) (sym k.1) c)
  ];
  known = λ p x c. elim (adds.adds (p, x) c) [
    | inl k ↦ are.known p x k
    | inr k ↦ (let o = row.each (join_at p x) k in o.2.kept (closed o.0 o.1))
  ];
}
