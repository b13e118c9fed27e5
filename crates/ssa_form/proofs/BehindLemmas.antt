-- Versions that are looked for in the rows before: where joins among them stand, and what it means that there is a row before.
use Rattle.std.proofs.Common.{◌≡◌, ℕ, zero, suc, List, [], ◌∷◌, map, Option, Some, None, refl, sym, subst, ◌∙◌, ap, arith, slice_get, Contains}
use Rattle.std.specs.Option.{option_map}
use Rattle.std.specs.declared.vec.Vec.{Vec}
use Rattle.std.specs.declared.alloc.Global.{Global}
use Rattle.std.proofs.lemmas.Option.{same_Some, slice_get-map}
use Rattle.indexmap.specs.IndexMap.{IndexMap}
use Rattle.numbered_sets.specs.Places.{ArePlaces}
use Rattle.flow_graph.specs.declared.arrivals.Arrival.{Arrival}
use Rattle.flow_graph.specs.declared.arrivals.Arrival.TheVariants.{Edge, Entry}
use Rattle.flow_graph.specs.Arrivals.{target}
use Rattle.flow_graph.specs.Heads.{ComesFrom}
use Rattle.loose_sets.specs.Versions.{PlainVersion, of_definition, join_at}
use Rattle.ssa_form.specs.Views.{held}
use Rattle.ssa_form.specs.Marks.{found_in}
use Rattle.ssa_form.specs.Joins.{AreFirst}
use Rattle.ssa_form.specs.Behind.{lone, lone_place, left_by, left_point, at_place, row_before, or_before, found_behind, IsRowBefore}
use Rattle.ssa_form.proofs.ReadLemmas.{contains_at, at_contains, in_one, joins_at, joins_slot}
use Rattle.ssa_form.proofs.JoinLemmas.{JoinsFirst}

-- the row before begins at a first point
pub before_first : (at : List (Vec ℕ Global)) (all : List (ℕ × Arrival)) (heads : List ℕ) → AreFirst heads → (p h : ℕ) → row_before at all heads p ≡ Some h → slice_get heads h ≡ Some h
unfolding row_before
before_first at all heads first p h e = by (left_point (at_place all (lone_place (slice_get at p)))) e
  where
    by : (o : Option ℕ) → at_place heads o ≡ Some h → slice_get heads h ≡ Some h
    by None f = absurd (cc)
    by (Some q) f = first q h f

found_first : {S : Type 0} (last : IndexMap (ℕ × ℕ) ℕ S) (heads : List ℕ) (g x h y : ℕ) → slice_get heads g ≡ Some g → found_in last g x ≡ join_at h y → (slice_get heads h ≡ Some h) × (y ≡ x)
found_first last heads g x h y at e = (subst (λ (z : ℕ). slice_get heads z ≡ Some z) (sym (joins_at (held last g x) g x h y e)) at, joins_slot (held last g x) g x h y e)

pub joins_first : {S : Type 0} (before : ℕ → Option ℕ) (last : IndexMap (ℕ × ℕ) ℕ S) (heads : List ℕ) → ((p h : ℕ) → before p ≡ Some h → slice_get heads h ≡ Some h) → (n : ℕ) → JoinsFirst heads (λ h x. found_behind before last n h x)
unfolding found_behind
joins_first before last heads first zero g x h y at e = found_first last heads g x h y at e
joins_first before last heads first (suc n) g x h y at e =
    by (found_in last g x) refl (before g) refl e (λ b f m. joins_first before last heads first n b x h y f m)
  where
    by : (v : PlainVersion) → found_in last g x ≡ v → (o : Option ℕ) → before g ≡ o → or_before v o (λ k. found_behind before last n k x) ≡ join_at h y
        → ((b : ℕ) → slice_get heads b ≡ Some b → found_behind before last n b x ≡ join_at h y → (slice_get heads h ≡ Some h) × (y ≡ x)) → (slice_get heads h ≡ Some h) × (y ≡ x)
    by (of_definition d) f o k m further = absurd (cc)
    by (join_at p z) f None k m further = found_first last heads g x h y at (f ∙ m)
    by (join_at p z) f (Some b) k m further = further b (first g b k) m

-- where one place alone holds what leads to a point, it is all that does
the_one : (all : List (ℕ × Arrival)) (at : List (Vec ℕ Global)) (p n q : ℕ) (v : Vec ℕ Global) → ArePlaces (map target all) at → slice_get at p ≡ Some v → v.items ≡ n ∷ [] → slice_get all n ≡ Some (p, Edge q) → ComesFrom all p q
the_one all at p n q v places there only here a c =
    let o = at_contains all (p, a) c in
    let key : slice_get (map target all) o.0 ≡ Some p = slice_get-map target all o.0 ∙ ap (option_map target) o.1 in
    let at_n : n ≡ o.0 = in_one n o.0 (subst (λ (ns : List ℕ). Contains ns o.0) only ((places p v there o.0).1 key)) in
    let same : (p, a) ≡ (p, Edge q) = same_Some (p, a) (p, Edge q) (sym o.1 ∙ subst (λ (z : ℕ). slice_get all z ≡ Some (p, Edge q)) at_n here) in
    ap (λ (y : ℕ × Arrival). y.1) same

pub is_before : (at : List (Vec ℕ Global)) (all : List (ℕ × Arrival)) (heads : List ℕ) (p h : ℕ) → ArePlaces (map target all) at → row_before at all heads p ≡ Some h → IsRowBefore all heads p h
unfolding row_before
is_before at all heads p h places is = by (slice_get at p) refl is
  where
    by_arrival : (v : Vec ℕ Global) → slice_get at p ≡ Some v → (n : ℕ) → v.items ≡ n ∷ [] → (r : ℕ) (a : Arrival) → slice_get all n ≡ Some (r, a) → at_place heads (left_by a) ≡ Some h → IsRowBefore all heads p h
    by_arrival v there n only r (Entry f) here e = absurd (cc)
    by_arrival v there n only r (Edge q) here e =
        let key : slice_get (map target all) n ≡ Some p = (places p v there n).0 (subst (λ (ns : List ℕ). Contains ns n) (sym only) (zero, omega arith, refl)) in
        let same : r ≡ p = same_Some r p (sym (slice_get-map target all n ∙ ap (option_map target) here) ∙ key) in
        let mine : slice_get all n ≡ Some (p, Edge q) = subst (λ (z : ℕ). slice_get all n ≡ Some (z, Edge q)) same here in
        record { point = q; head = e; edge = contains_at all n (p, Edge q) mine; alone = the_one all at p n q v places there only mine }

    by_place : (v : Vec ℕ Global) → slice_get at p ≡ Some v → (n : ℕ) → v.items ≡ n ∷ [] → (o : Option (ℕ × Arrival)) → slice_get all n ≡ o → at_place heads (left_point o) ≡ Some h → IsRowBefore all heads p h
    by_place v there n only None here e = absurd (cc)
    by_place v there n only (Some a) here e = by_arrival v there n only a.0 a.1 here e

    by_items : (v : Vec ℕ Global) → slice_get at p ≡ Some v → (ns : List ℕ) → v.items ≡ ns → at_place heads (left_point (at_place all (lone ns))) ≡ Some h → IsRowBefore all heads p h
    by_items v there [] only e = absurd (cc)
    by_items v there (n ∷ []) only e = by_place v there n only (slice_get all n) refl e
    by_items v there (n ∷ m ∷ ns) only e = absurd (cc)

    by : (o : Option (Vec ℕ Global)) → slice_get at p ≡ o → at_place heads (left_point (at_place all (lone_place o))) ≡ Some h → IsRowBefore all heads p h
    by None there e = absurd (cc)
    by (Some v) there e = by_items v there v.items refl e
