-- A version in the place of each join that is no more than that version.
use Rattle.std.proofs.Common.{◌≡◌, ◌⊎◌, inl, inr, ℕ, zero, suc, Bool, true, false, cond, List, [], ◌∷◌, ◌++◌, length, Some, refl, sym, subst, ◌∙◌, ap, arith, slice_get, slice_set, Contains}
use Rattle.std.specs.Prelude.{nat_eq}
use Rattle.std.proofs.lemmas.Option.{same_Some}
use Rattle.std.proofs.lemmas.Bool.{eqb-true, eq-eqb}
use Rattle.std.proofs.lemmas.List.Elements.{Contains-append_left, Contains-append_right, Contains-append_cases}
use Rattle.numbered_sets.specs.Numbers.{AreDifferent}
use Rattle.flow_code.specs.Points.{PlainFlow}
use Rattle.flow_code.specs.Lawful.{IsOwnSlot}
use Rattle.flow_graph.proofs.HeadLemmas.{push_cases}
use Rattle.loose_sets.specs.Reaching.{at_point, at_entry}
use Rattle.loose_sets.specs.Versions.{PlainVersion, of_definition, join_at, Edge, Sets, Leaves, Enters, Stands, Link, IsKept, PlainJoin, asked_in, linked_in}
use Rattle.loose_sets.proofs.Exact.{not_both, no_join, sets_or_leaves, slot_of}
use Rattle.ssa_form.specs.declared.version.Version.{Version}
use Rattle.ssa_form.specs.declared.places.Seen.{Seen}
use Rattle.ssa_form.specs.declared.places.Seen.TheVariants.{Nothing, One, Several}
use Rattle.ssa_form.specs.Views.{version_seen, versions_seen}
use Rattle.ssa_form.specs.Marks.{asked_by}
use Rattle.ssa_form.specs.JoinRows.{row_in}
use Rattle.ssa_form.specs.Versions.{joins_in}
use Rattle.ssa_form.specs.Replacing.{Replaces, ArePut, AreThemselves, AreLinked, IsAll, IsSeen}
use Rattle.ssa_form.proofs.ReadLemmas.{contains_at, in_one}
use Rattle.ssa_form.proofs.ExactLemmas.{joins_only, linked_row}
use Rattle.ssa_form.proofs.ThroughLemmas.{stands_through}

pub one_of : {X : Type 0} (x : X) → Contains (x ∷ []) x
one_of x = (zero, omega arith, refl)

pub replaces_itself : (flow : PlainFlow) (asks : List (ℕ × ℕ)) (v : PlainVersion) → Replaces flow asks v v
replaces_itself flow asks v = record { stands = λ p x s. s; kept = λ k. k; same = λ d e. e }

pub replaces_on : (flow : PlainFlow) (asks : List (ℕ × ℕ)) (u v w : PlainVersion) → Replaces flow asks u v → Replaces flow asks v w → Replaces flow asks u w
replaces_on flow asks u v w a b = record { stands = λ p x s. b.stands p x (a.stands p x s); kept = λ k. b.kept (a.kept k); same = λ d e. b.same d (a.same d e) }

-- one version more of a row
module _ (flow : PlainFlow) (asks : List (ℕ × ℕ)) (row : List PlainVersion) (own u : PlainVersion) where
  abbrev longer : List PlainVersion
  longer = row ++ u ∷ []

  each_more : (P : PlainVersion → Type 0) → ((w : PlainVersion) → Contains row w → P w) → P u → (w : PlainVersion) → Contains longer w → P w
  each_more P before one w c = elim (Contains-append_cases row (u ∷ []) w c) [ inl k ↦ before w k | inr k ↦ subst P (in_one u w k) one ]

  pub seen_first : (v : PlainVersion) → ((w : PlainVersion) → Contains row w → Replaces flow asks w own) → Replaces flow asks u v → IsAll flow asks longer own v
  seen_first v before r = record {
    each = each_more (λ w. Replaces flow asks w v ⊎ Replaces flow asks w own) (λ w c. inr (before w c)) (inl r);
    some = (u, Contains-append_right row (u ∷ []) u (one_of u), r);
  }

  all_more : (v : PlainVersion) → IsAll flow asks row own v → Replaces flow asks u v ⊎ Replaces flow asks u own → IsAll flow asks longer own v
  all_more v is r = record {
    each = each_more (λ w. Replaces flow asks w v ⊎ Replaces flow asks w own) is.each r;
    some = (is.some.0, Contains-append_left row (u ∷ []) is.some.0 is.some.1, is.some.2);
  }

  pub seen_again : (v : PlainVersion) → IsAll flow asks row own v → Replaces flow asks u v → IsAll flow asks longer own v
  seen_again v is r = all_more v is (inl r)

  pub seen_own : (seen : Seen) → IsSeen flow asks row own seen → Replaces flow asks u own → IsSeen flow asks longer own seen
  seen_own Nothing is r = each_more (λ w. Replaces flow asks w own) is r
  seen_own (One v) is r = all_more (version_seen v) is (inr r)
  seen_own Several is r = is

-- the join of which all that it joins is one version, or itself
module _ (flow : PlainFlow) (asks : List (ℕ × ℕ)) (rows : List (List Version)) (are : AreLinked flow asks rows) (n p x : ℕ) (different : AreDifferent asks) (asked : slice_get asks n ≡ Some (p, x))
    (v : PlainVersion) (is : IsAll flow asks (versions_seen (row_in (slice_get rows n))) (join_at p x) v) where
  abbrev joins : List PlainJoin
  joins = joins_in asks rows

  linked_each : (u : PlainVersion) → linked_in joins p x u → Replaces flow asks u v ⊎ Replaces flow asks u (join_at p x)
  linked_each u k = is.each u ((linked_row asks rows n p x different asked u).1 k)

  linked_some : linked_in joins p x is.some.0
  linked_some = (linked_row asks rows n p x different asked is.some.0).0 is.some.1

  asked_there : asked_in joins p x
  asked_there = (linked_some.0, linked_some.1)

  -- what comes by an edge, without a choice
  record Comes (q : ℕ) (e : Edge flow q p) : Type 0 where
    pub version : PlainVersion
    pub set : Sets flow q x → version ≡ of_definition (at_point q)
    pub left : Leaves flow q x → Stands flow q x version
    pub one : (version ≡ v) ⊎ (version ≡ join_at p x)

  comes : (q : ℕ) (e : Edge flow q p) → Comes q e
  comes q e = elim (sets_or_leaves flow q p x e) [
    | inl w ↦ by_set w (linked_each (of_definition (at_point q)) (are.set p q x asked_there e w))
    | inr l ↦ (let k = are.left p q x asked_there e l in by_left l k.0 k.2 (linked_each k.0 k.1))
  ]
    where
      by_set : Sets flow q x → Replaces flow asks (of_definition (at_point q)) v ⊎ Replaces flow asks (of_definition (at_point q)) (join_at p x) → Comes q e
      by_set w (inl r) = record { version = of_definition (at_point q); set = λ s. refl; left = λ l. absurd (not_both flow q x w l); one = inl (sym (r.same (at_point q) refl)) }
      by_set w (inr r) = absurd (no_join (at_point q) p x (sym (r.same (at_point q) refl)))

      by_left : Leaves flow q x → (u : PlainVersion) → Stands flow q x u → Replaces flow asks u v ⊎ Replaces flow asks u (join_at p x) → Comes q e
      by_left l u s (inl r) = record { version = v; set = λ w. absurd (not_both flow q x w l); left = λ m. r.stands q x s; one = inl refl }
      by_left l u s (inr r) = record { version = join_at p x; set = λ w. absurd (not_both flow q x w l); left = λ m. r.stands q x s; one = inr refl }

  one_entry : (f : ℕ) → Enters flow f p x → v ≡ of_definition (at_entry f x)
  one_entry f en =
      let k = are.entry f x en.function en.there en.own (subst (λ (z : ℕ). asked_in joins z x) en.entry asked_there) in
      elim (linked_each (of_definition (at_entry f x)) (subst (λ (z : ℕ). linked_in joins z x (of_definition (at_entry f x))) (sym en.entry) k)) [
        | inl r ↦ r.same (at_entry f x) refl
        | inr r ↦ absurd (no_join (at_entry f x) p x (sym (r.same (at_entry f x) refl)))
      ]

  -- where the version comes by an entry
  by_the_entry : (f : ℕ) → Enters flow f p x → Stands flow p x v
  by_the_entry f en = Stands.alike p x v (λ q e. (comes q e).version)
      (record { by_set = λ q e w. (comes q e).set w; by_edge = λ q e. (comes q e).one; by_entry = one_entry; some = inr (f, en) })
      (λ q e l. (comes q e).left l)

  -- where it comes by an edge from a point that leaves the slot
  module _ (from : ℕ) (edge : Edge flow from p) (leaves : Leaves flow from x) (stood : Stands flow from x v) where
    abbrev chosen : (q : ℕ) → Edge flow q p → PlainVersion
    chosen q e = cond (nat_eq q from) v (comes q e).version

    record Chosen (q : ℕ) (w : PlainVersion) : Type 0 where
      pub set : Sets flow q x → w ≡ of_definition (at_point q)
      pub left : Leaves flow q x → Stands flow q x w
      pub one : (w ≡ v) ⊎ (w ≡ join_at p x)

    chosen_is : (q : ℕ) (e : Edge flow q p) → Chosen q (chosen q e)
    chosen_is q e = by (nat_eq q from) refl
      where
        by : (b : Bool) → nat_eq q from ≡ b → Chosen q (cond b v (comes q e).version)
        by true k = (let same : q ≡ from = eqb-true q from k in record {
          set = λ w. absurd (not_both flow from x (subst (λ (z : ℕ). Sets flow z x) same w) leaves);
          left = λ l. subst (λ (z : ℕ). Stands flow z x v) (sym same) stood;
          one = inl refl;
        })
        by false k = (let c = comes q e in record { set = c.set; left = c.left; one = c.one })

    by_that_edge : Stands flow p x v
    by_that_edge = Stands.alike p x v chosen
        (record {
          by_set = λ q e w. (chosen_is q e).set w;
          by_edge = λ q e. (chosen_is q e).one;
          by_entry = one_entry;
          some = inl (from, edge, ap (λ (b : Bool). cond b v (comes from edge).version) (eq-eqb from from refl));
        })
        (λ q e l. (chosen_is q e).left l)

  -- where it comes by an edge from a point that sets it
  by_setting : (q : ℕ) → Edge flow q p → Sets flow q x → v ≡ of_definition (at_point q) → Stands flow p x v
  by_setting q e w is_set = Stands.alike p x v (λ r f. (comes r f).version)
      (record { by_set = λ r f s. (comes r f).set s; by_edge = λ r f. (comes r f).one; by_entry = one_entry; some = inl (q, e, (comes q e).set w ∙ sym is_set) })
      (λ r f l. (comes r f).left l)

  by_link : (y z : ℕ) (u : PlainVersion) → Link flow y z u → y ≡ p → z ≡ x → Replaces flow asks u v → Stands flow p x v
  by_link y z _ (Link.from_set _ q _ e w) a b r =
      by_setting q (subst (λ (t : ℕ). Edge flow q t) a e) (subst (λ (t : ℕ). Sets flow q t) b w) (r.same (at_point q) refl)
  by_link y z u (Link.from_left _ q _ _ e l s) a b r =
      by_that_edge q (subst (λ (t : ℕ). Edge flow q t) a e) (subst (λ (t : ℕ). Leaves flow q t) b l) (subst (λ (t : ℕ). Stands flow q t v) b (r.stands q z s))
  by_link _ z _ (Link.from_entry f _ g there own) a b r =
      by_the_entry f (record { function = g; there = there; own = subst (λ (t : ℕ). IsOwnSlot g t) b own; entry = sym a })

  pub replaced : Replaces flow asks (join_at p x) v
  replaced =
      let s = by_link p x is.some.0 (are.each p x is.some.0 linked_some) refl refl is.some.2 in
      record {
        stands = λ q y t. (let same : y ≡ x = slot_of flow q y p x t in
            subst (λ (z : ℕ). Stands flow q z v) (sym same) (stands_through flow p v q x (join_at p x) (subst (λ (z : ℕ). Stands flow q z (join_at p x)) same t) refl s));
        kept = λ k. is.some.2.kept (kept_back is.some.0 (are.closed p x is.some.0 linked_some));
        same = λ d e. absurd (no_join d p x (sym e));
      }
    where
      kept_back : (u : PlainVersion) → IsKept (asked_in joins) u → IsKept (asked_by asks) u
      kept_back (of_definition d) k = k
      kept_back (join_at q y) k = let j = joins_only asks rows (record { point = q; slot = y; versions = k.0 }) k.1 in contains_at asks j.place (q, y) j.asked

-- the version is put in the place of the join
pub put_more : (flow : PlainFlow) (asks : List (ℕ × ℕ)) (old new : List Version) (n p x : ℕ) (v : Version) → slice_get asks n ≡ Some (p, x) → Replaces flow asks (join_at p x) (version_seen v)
    → ((i : ℕ) (w : Version) → slice_get new i ≡ Some w → ((i ≡ n) × (w ≡ v)) ⊎ (slice_get old i ≡ Some w)) → ArePut flow asks old → ArePut flow asks new
put_more flow asks old new n p x v asked r sets are i q y w at there = elim (sets i w there) [
  | inr k ↦ are i q y w at k
  | inl k ↦
      let same : (p, x) ≡ (q, y) = same_Some (p, x) (q, y) (sym asked ∙ subst (λ (z : ℕ). slice_get asks z ≡ Some (q, y)) k.0 at) in
      subst (λ (u : Version). Replaces flow asks (join_at q y) (version_seen u)) (sym k.1)
      (subst (λ (z : ℕ × ℕ). Replaces flow asks (join_at z.0 z.1) (version_seen v)) same r)
]

pub put_themselves : (flow : PlainFlow) (asks : List (ℕ × ℕ)) (places : List Version) → AreThemselves asks places → ArePut flow asks places
put_themselves flow asks places are i p x w at there = subst (λ (v : PlainVersion). Replaces flow asks (join_at p x) v) (sym (are i p x w at there)) (replaces_itself flow asks (join_at p x))

pub themselves_more : (asks : List (ℕ × ℕ)) (places : List Version) (p x : ℕ) (v : Version) → AreThemselves asks places → slice_get asks (length places) ≡ Some (p, x) → version_seen v ≡ join_at p x
    → AreThemselves asks (places ++ v ∷ [])
themselves_more asks places p x v are asked is i q y w at there = elim (push_cases places v i w there) [
  | inl k ↦ are i q y w at k.1
  | inr k ↦
      let same : (p, x) ≡ (q, y) = same_Some (p, x) (q, y) (sym asked ∙ subst (λ (z : ℕ). slice_get asks z ≡ Some (q, y)) k.0 at) in
      ap version_seen (sym k.1) ∙ is ∙ ap (λ (z : ℕ × ℕ). join_at z.0 z.1) same
]

-- what stands in a list in which one place was written
pub set_cases : (old : List Version) (n : ℕ) (v : Version) (i : ℕ) (w : Version) → slice_get (slice_set old n v) i ≡ Some w → ((i ≡ n) × (w ≡ v)) ⊎ (slice_get old i ≡ Some w)
set_cases [] n v i w e = inr e
set_cases (u ∷ old) zero v zero w e = inl (refl, same_Some w v (sym e))
set_cases (u ∷ old) zero v (suc i) w e = inr e
set_cases (u ∷ old) (suc n) v zero w e = inr e
set_cases (u ∷ old) (suc n) v (suc i) w e = elim (set_cases old n v i w e) [ inl k ↦ inl (ap suc k.0, k.1) | inr k ↦ inr k ]
