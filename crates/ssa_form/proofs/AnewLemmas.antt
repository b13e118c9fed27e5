-- Versions made anew are exact, and their joins are joins, where those before were.
use Rattle.std.proofs.Common.{◌≡◌, ◌≢◌, ◌≤◌, ◌↔◌, ℕ, List, length, Option, Some, None, refl, sym, subst, ap, arith, slice_get, Contains}
use Rattle.std.specs.Option.{option_map}
use Rattle.std.proofs.lemmas.Option.{same_Some, slice_get_within}
use Rattle.numbered_sets.specs.Numbers.{AreDifferent}
use Rattle.flow_code.specs.Points.{PlainFlow}
use Rattle.flow_graph.specs.Found.{number_in}
use Rattle.flow_graph.proofs.FoundLemmas.{found, number_is}
use Rattle.loose_sets.specs.Reaching.{Definition, at_point, at_entry}
use Rattle.loose_sets.specs.Versions.{PlainVersion, of_definition, join_at, Stands, Link, IsKept, AreLinks, asked_in, linked_in}
use Rattle.loose_sets.proofs.Exact.{exact}
use Rattle.ssa_form.specs.declared.version.Version.{Version}
use Rattle.ssa_form.specs.declared.versions.Versions.{Versions}
use Rattle.ssa_form.specs.Views.{version_seen, versions_seen, held}
use Rattle.ssa_form.specs.Marks.{asked_by}
use Rattle.ssa_form.specs.JoinRows.{row_in}
use Rattle.ssa_form.specs.Versions.{joins_in, asks_of, rows_of, joins_of, row_of, version_of, arrivals_at, IsExact, AreJoins}
use Rattle.ssa_form.specs.Replacing.{Replaces, AreHeld, AreMadeAnew}
use Rattle.ssa_form.proofs.ReadLemmas.{contains_at, at_contains, kept_more}
use Rattle.ssa_form.proofs.JoinLemmas.{get_there}
use Rattle.ssa_form.proofs.ExactLemmas.{joins_hold, joins_only, linked_row}
use Rattle.ssa_form.proofs.RemakingLemmas.{held_entry}

-- a join that is asked for is one of the joins
asked_key : (ks : List (ℕ × ℕ)) (rs : List (List Version)) (p x : ℕ) → asked_in (joins_in ks rs) p x → Contains ks (p, x)
asked_key ks rs p x c = let j = joins_only ks rs (record { point = p; slot = x; versions = c.0 }) c.1 in contains_at ks j.place (p, x) j.asked

key_row : (ks : List (ℕ × ℕ)) (rs : List (List Version)) → length rs ≡ length ks → (p x : ℕ) → Contains ks (p, x) → (i : ℕ) × (r : List Version) × (slice_get ks i ≡ Some (p, x)) × (slice_get rs i ≡ Some r)
key_row ks rs long p x c =
    let o = at_contains ks (p, x) c in
    let r = get_there rs o.0 (let w = slice_get_within ks o.0 (p, x) o.1 in omega arith) in
    (o.0, r.0, o.1, r.1)

key_asked : (ks : List (ℕ × ℕ)) (rs : List (List Version)) → length rs ≡ length ks → (p x : ℕ) → Contains ks (p, x) → asked_in (joins_in ks rs) p x
key_asked ks rs long p x c = let k = key_row ks rs long p x c in (versions_seen k.1, joins_hold ks rs k.0 (p, x) k.1 k.2 k.3)

kept_asked : (ks : List (ℕ × ℕ)) (rs : List (List Version)) → length rs ≡ length ks → (v : PlainVersion) → IsKept (asked_by ks) v → IsKept (asked_in (joins_in ks rs)) v
kept_asked ks rs long (of_definition d) k = k
kept_asked ks rs long (join_at p x) k = key_asked ks rs long p x k

pub asked_kept : (ks : List (ℕ × ℕ)) (rs : List (List Version)) (v : PlainVersion) → IsKept (asked_in (joins_in ks rs)) v → IsKept (asked_by ks) v
asked_kept ks rs (of_definition d) k = k
asked_kept ks rs (join_at p x) k = asked_key ks rs p x k

-- a link by a version in the place of another
link_through : (flow : PlainFlow) (asks : List (ℕ × ℕ)) (p x : ℕ) (u w : PlainVersion) → Link flow p x u → Replaces flow asks u w → Link flow p x w
link_through flow asks _ _ _ w (Link.from_set p q x e s) r = subst (λ (v : PlainVersion). Link flow p x v) (sym (r.same (at_point q) refl)) (Link.from_set p q x e s)
link_through flow asks _ _ u w (Link.from_left p q x _ e l s) r = Link.from_left p q x w e l (r.stands q x s)
link_through flow asks _ _ _ w (Link.from_entry f x g there own) r = subst (λ (v : PlainVersion). Link flow g.entry_of x v) (sym (r.same (at_entry f x) refl)) (Link.from_entry f x g there own)

module _ (flow : PlainFlow) (made new : Versions) (was : IsExact flow made) (are : AreJoins flow made) (different : AreDifferent (asks_of made)) (firsts : List (ℕ × ℕ))
    (holds : AreHeld flow (asks_of made) made.versions new.versions firsts (length made.versions.entries)) (anew : AreMadeAnew flow (asks_of made) (rows_of made) (asks_of new) (rows_of new))
    (long : length (rows_of new) ≡ length (asks_of new)) (more : (p x : ℕ) → Contains firsts (p, x) → Contains (asks_of new) (p, x)) where
  abbrev asks : List (ℕ × ℕ)
  asks = asks_of made

  abbrev keys : List (ℕ × ℕ)
  keys = asks_of new

  old_row : (p x : ℕ) → Contains keys (p, x) → (u : PlainVersion) → Contains (row_of (rows_of made) (number_in asks p x)) u ↔ linked_in (joins_of made) p x u
  old_row p x c u =
      let a = at_contains asks (p, x) (anew.known p x c) in
      subst (λ (o : Option ℕ). Contains (row_of (rows_of made) o) u ↔ linked_in (joins_of made) p x u) (sym (found asks (p, x) a.0 different a.1)) (linked_row asks (rows_of made) a.0 p x different a.1 u)

  was_asked : (p x : ℕ) → Contains keys (p, x) → asked_in (joins_of made) p x
  was_asked p x c = key_asked asks (rows_of made) are.rows p x (anew.known p x c)

  -- what was linked is, with the version in its place
  linked_anew : (p x : ℕ) → Contains keys (p, x) → (u : PlainVersion) → linked_in (joins_of made) p x u → (w : PlainVersion) × linked_in (joins_of new) p x w × Replaces flow asks u w
  linked_anew p x c u k =
      let r = key_row keys (rows_of new) long p x c in
      let o = (anew.each r.0 p x r.1 r.2 r.3).all u ((old_row p x c u).1 k) in
      (o.0, (versions_seen r.1, joins_hold keys (rows_of new) r.0 (p, x) r.1 r.2 r.3, o.1), o.2)

  definition_anew : (p x : ℕ) → Contains keys (p, x) → (d : Definition) → linked_in (joins_of made) p x (of_definition d) → linked_in (joins_of new) p x (of_definition d)
  definition_anew p x c d k = let o = linked_anew p x c (of_definition d) k in subst (λ (v : PlainVersion). linked_in (joins_of new) p x v) (o.2.same d refl) o.1

  links_anew : AreLinks flow (asked_in (joins_of new)) (linked_in (joins_of new))
  links_anew = record {
    each = λ p x w k.
        let j = joins_only keys (rows_of new) (record { point = p; slot = x; versions = k.0 }) k.1 in
        let o = (anew.each j.place p x j.row j.asked j.there).each w (subst (λ (vs : List PlainVersion). Contains vs w) j.is k.2) in
        link_through flow asks p x o.0 w (are.links.each p x o.0 ((old_row p x (contains_at keys j.place (p, x) j.asked) o.0).0 o.1)) o.2;
    closed = λ p x w k.
        let j = joins_only keys (rows_of new) (record { point = p; slot = x; versions = k.0 }) k.1 in
        kept_asked keys (rows_of new) long w (anew.kept j.place j.row w j.there (subst (λ (vs : List PlainVersion). Contains vs w) j.is k.2));
    set = λ p q x a e s. let c = asked_key keys (rows_of new) p x a in definition_anew p x c (at_point q) (are.links.set p q x (was_asked p x c) e s);
    left = λ p q x a e l.
        let c = asked_key keys (rows_of new) p x a in
        let u = are.links.left p q x (was_asked p x c) e l in
        let w = linked_anew p x c u.0 u.1 in
        (w.0, w.1, w.2.stands q x u.2);
    entry = λ f x g there own a. let c = asked_key keys (rows_of new) g.entry_of x a in definition_anew g.entry_of x c (at_entry f x) (are.links.entry f x g there own (was_asked g.entry_of x c));
  }

  -- a version that is held stands for the slot, and is kept
  record IsThere (p x : ℕ) (v : PlainVersion) : Type 0 where
    pub stands : Stands flow p x v
    pub kept : IsKept (asked_in (joins_of new)) v

  there : (p x : ℕ) (v : PlainVersion) → version_of new p x ≡ Some v → IsThere p x v
  there p x v e = by (held new.versions p x) refl e
    where
      by : (o : Option Version) → held new.versions p x ≡ o → option_map version_seen o ≡ Some v → IsThere p x v
      by None h f = absurd (cc)
      by (Some w) h f =
          let o = holds.each p x w h in
          subst (λ (u : PlainVersion). IsThere p x u) (same_Some (version_seen w) v f) (record {
            stands = o.2.stands p x (are.stands p x (version_seen o.0) (ap (λ (z : Option Version). option_map version_seen z) o.1));
            kept = kept_asked keys (rows_of new) long (version_seen w) (kept_more firsts keys (version_seen w) more o.3);
          })

  none_held : (o : Option Version) → option_map version_seen o ≡ None → o ≡ None
  none_held None e = refl
  none_held (Some v) e = absurd (cc)

  pub anew_exact : IsExact flow new
  anew_exact = record {
    all = λ p x i at c n. by p x (held made.versions p x) refl (was.all p x i at c) (none_held (held new.versions p x) n);
    behind = λ p x v e d. let t = there p x v e in exact flow (asked_in (joins_of new)) (linked_in (joins_of new)) links_anew p x v t.stands t.kept d;
  }
    where
      by : (p x : ℕ) (o : Option Version) → held made.versions p x ≡ o → option_map version_seen (held made.versions p x) ≢ None → held new.versions p x ≡ None → ⊥
      by p x None h some none = some (ap (λ (z : Option Version). option_map version_seen z) h)
      by p x (Some v) h some none = let e = held_entry made.versions p x v h in holds.all e.0 ((p, x), v) (slice_get_within made.versions.entries e.0 ((p, x), v) e.1) e.1 none

  few_anew : (p x : ℕ) (o : Option ℕ) → number_in keys p x ≡ o → length (row_of (rows_of new) o) ≤ arrivals_at flow p
  few_anew p x None e = omega arith
  few_anew p x (Some i) e = at (slice_get (rows_of new) i) refl
    where
      at : (o : Option (List Version)) → slice_get (rows_of new) i ≡ o → length (versions_seen (row_in o)) ≤ arrivals_at flow p
      at None there = omega arith
      at (Some r) there = let a = (anew.each i p x r (number_is keys (p, x) i e) there).few in let b = are.few p x in omega (arith, a, b)

  pub anew_joins : AreJoins flow new
  anew_joins = record {
    there = λ p x c. are.there p x (anew.known p x c);
    first = λ p x c. are.first p x (anew.known p x c);
    read = λ p x c. are.read p x (anew.known p x c);
    rows = long;
    links = links_anew;
    few = λ p x. few_anew p x (number_in keys p x) refl;
    stands = λ p x v e. (there p x v e).stands;
    kept = λ p x v e. (there p x v e).kept;
  }
