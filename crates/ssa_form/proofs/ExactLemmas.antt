-- The joins of a program, each with its row, are the links of its versions.
use Rattle.std.proofs.Common.{◌≡◌, ◌≤◌, ◌<◌, ◌-◌, ◌&&◌, ◌↔◌, inl, inr, ℕ, zero, suc, Bool, true, false, if◌then◌else◌, List, [], ◌∷◌, length, map, Option, Some, None, refl, sym, subst, ◌∙◌, ap, arith, slice_get, Contains}
use Rattle.std.specs.Prelude.{nat_le, nat_lt}
use Rattle.std.specs.Option.{option_map}
use Rattle.std.specs.declared.vec.Vec.{Vec}
use Rattle.std.specs.declared.alloc.Global.{Global}
use Rattle.std.proofs.lemmas.Option.{same_Some, slice_get_within}
use Rattle.std.proofs.lemmas.Bool.{leb-true, lt-ltb, ltb-true}
use Rattle.std.proofs.lemmas.Bool.Decides.{leb_tells}
use Rattle.std.proofs.lemmas.List.Elements.{Contains-append_cases, Contains-append_right}
use Rattle.numbered_sets.specs.Numbers.{AreDifferent}
use Rattle.numbered_sets.specs.Places.{ArePlaces}
use Rattle.flow_graph.specs.Arrivals.{target}
use Rattle.flow_code.specs.Points.{PlainFlowFunction, PlainFlow, function_at}
use Rattle.flow_code.specs.Lawful.{IsOwnSlot}
use Rattle.flow_graph.specs.declared.arrivals.Arrival.{Arrival}
use Rattle.flow_graph.specs.declared.arrivals.Arrival.TheVariants.{Edge as of_edge, Entry as of_entry}
use Rattle.flow_graph.specs.Steps.{PlainStep}
use Rattle.loose_sets.specs.Reaching.{Definition, at_point, at_entry, Reaches}
use Rattle.loose_sets.specs.Versions.{PlainVersion, of_definition, join_at, Edge, Sets, Leaves, Stands, Link, IsKept, AreLinks, PlainJoin, asked_in, linked_in, Behind}
use Rattle.loose_sets.proofs.Exact.{set_or_not, not_both, exact}
use Rattle.ssa_form.specs.declared.marks.Marks.{Marks}
use Rattle.ssa_form.specs.declared.version.Version.{Version}
use Rattle.ssa_form.specs.declared.versions.Versions.{Versions}
use Rattle.ssa_form.specs.Views.{version_seen, versions_seen, held}
use Rattle.ssa_form.specs.Marks.{found_in, Leaving, asked_by, IsGraph, AreMarked}
use Rattle.ssa_form.specs.Rows.{link_of, link_from, link_into, owns, IsRow}
use Rattle.ssa_form.specs.Joins.{AreRows}
use Rattle.ssa_form.specs.Versions.{joins_in, asks_of, rows_of, joins_of, version_of, row_of, arrivals_at, IsExact, AreJoins}
use Rattle.ssa_form.specs.Behind.{row_before, or_before, found_behind}
use Rattle.ssa_form.specs.JoinRows.{row_in}
use Rattle.flow_graph.specs.Found.{number_in}
use Rattle.ssa_form.proofs.BehindLemmas.{is_before}
use Rattle.ssa_form.proofs.HeadLemmas.{is_first}
use Rattle.ssa_form.proofs.EdgeLemmas.{edge_listed, entry_listed, listed, listed_edge, only_from, no_first, step_at, is_point}
use Rattle.ssa_form.proofs.MarkLemmas.{step_on}
use Rattle.ssa_form.proofs.ThroughLemmas.{stands_through}
use Rattle.ssa_form.proofs.ReadLemmas.{contains_at, at_contains, in_one, kept_more, joins_at, joins_slot}
use Rattle.ssa_form.proofs.FewLemmas.{arrivals_few, joined_few}

none_of : {X : Type 0} (x : X) → Contains [] x → ⊥
none_of x c = let h = c.1 in omega arith

leaving_through : (flow : PlainFlow) (h : ℕ) (v : PlainVersion) (q x : ℕ) (u : PlainVersion) → Leaving flow q x u → u ≡ join_at h x → Stands flow h x v → Leaving flow q x v
leaving_through flow h v _ _ _ (Leaving.set q x set) e s = absurd (no_join q x e)
  where
    no_join : (q x : ℕ) → of_definition (at_point q) ≡ join_at h x → ⊥
    no_join q x e = cc
leaving_through flow h v _ _ _ (Leaving.left q x w leaves stands) e s = Leaving.left q x v leaves (stands_through flow h v q x w stands e s)

-- what stands among the joins
pub joins_hold : (ks : List (ℕ × ℕ)) (rs : List (List Version)) (i : ℕ) (k : ℕ × ℕ) (r : List Version) → slice_get ks i ≡ Some k → slice_get rs i ≡ Some r
    → Contains (joins_in ks rs) (record { point = k.0; slot = k.1; versions = versions_seen r })
joins_hold [] rs i k r e f = absurd (cc)
joins_hold (l ∷ ks) [] i k r e f = absurd (cc)
joins_hold (l ∷ ks) (s ∷ rs) zero k r e f =
    subst (λ (m : ℕ × ℕ). Contains (joins_in (l ∷ ks) (s ∷ rs)) (record { point = m.0; slot = m.1; versions = versions_seen r })) (same_Some l k e)
    (subst (λ (t : List Version). Contains (joins_in (l ∷ ks) (s ∷ rs)) (record { point = l.0; slot = l.1; versions = versions_seen t })) (same_Some s r f) (zero, omega arith, refl))
joins_hold (l ∷ ks) (s ∷ rs) (suc i) k r e f =
    Contains-append_right (record { point = l.0; slot = l.1; versions = versions_seen s } ∷ []) (joins_in ks rs) (record { point = k.0; slot = k.1; versions = versions_seen r }) (joins_hold ks rs i k r e f)

pub record IsJoin (ks : List (ℕ × ℕ)) (rs : List (List Version)) (j : PlainJoin) : Type 0 where
  pub place : ℕ
  pub row : List Version
  pub asked : slice_get ks place ≡ Some (j.point, j.slot)
  pub there : slice_get rs place ≡ Some row
  pub is : j.versions ≡ versions_seen row

pub joins_only : (ks : List (ℕ × ℕ)) (rs : List (List Version)) (j : PlainJoin) → Contains (joins_in ks rs) j → IsJoin ks rs j
joins_only [] rs j c = absurd (none_of j c)
joins_only (l ∷ ks) [] j c = absurd (none_of j c)
joins_only (l ∷ ks) (s ∷ rs) j c = elim (Contains-append_cases (record { point = l.0; slot = l.1; versions = versions_seen s } ∷ []) (joins_in ks rs) j c) [
  | inl k ↦ (let e = in_one (record { point = l.0; slot = l.1; versions = versions_seen s }) j k in
      record { place = zero; row = s; asked = ap (λ (m : PlainJoin). Some (m.point, m.slot)) e; there = refl; is = sym (ap (λ (m : PlainJoin). m.versions) e) })
  | inr k ↦ (let r = joins_only ks rs j k in record { place = suc r.place; row = r.row; asked = r.asked; there = r.there; is = r.is })
]

-- the versions that the join of a number joins
pub row_linked : (ks : List (ℕ × ℕ)) (rs : List (List Version)) (n p x : ℕ) (r : List Version) → AreDifferent ks → slice_get ks n ≡ Some (p, x) → slice_get rs n ≡ Some r
    → (v : PlainVersion) → Contains (versions_seen r) v ↔ linked_in (joins_in ks rs) p x v
row_linked ks rs n p x r different asked there v = (
  λ c. (versions_seen r, joins_hold ks rs n (p, x) r asked there, c),
  λ k. let j = joins_only ks rs (record { point = p; slot = x; versions = k.0 }) k.1 in
      let same : j.row ≡ r = same_Some j.row r (sym j.there ∙ subst (λ (i : ℕ). slice_get rs i ≡ Some r) (different n j.place (p, x) asked j.asked) there) in
      subst (λ (t : List Version). Contains (versions_seen t) v) same (subst (λ (vs : List PlainVersion). Contains vs v) j.is k.2),
)

pub none_linked : (ks : List (ℕ × ℕ)) (rs : List (List Version)) (p x : ℕ) → (Contains ks (p, x) → ⊥) → (v : PlainVersion) → Contains [] v ↔ linked_in (joins_in ks rs) p x v
none_linked ks rs p x absent v = (
  λ c. absurd (none_of v c),
  λ k. let j = joins_only ks rs (record { point = p; slot = x; versions = k.0 }) k.1 in absurd (absent (contains_at ks j.place (p, x) j.asked)),
)

pub past_linked : (ks : List (ℕ × ℕ)) (rs : List (List Version)) (n p x : ℕ) → AreDifferent ks → slice_get ks n ≡ Some (p, x) → slice_get rs n ≡ None → (v : PlainVersion) → Contains [] v ↔ linked_in (joins_in ks rs) p x v
past_linked ks rs n p x different asked past v = (
  λ c. absurd (none_of v c),
  λ k. let j = joins_only ks rs (record { point = p; slot = x; versions = k.0 }) k.1 in
      absurd (no_some j.row (sym (subst (λ (i : ℕ). slice_get rs i ≡ None) (different n j.place (p, x) asked j.asked) past) ∙ j.there)),
)
  where
    no_some : (r : List Version) → None ≡ Some r → ⊥
    no_some r e = cc

-- the row of a number, where there may be none
pub linked_row : (ks : List (ℕ × ℕ)) (rs : List (List Version)) (n p x : ℕ) → AreDifferent ks → slice_get ks n ≡ Some (p, x) → (v : PlainVersion) → Contains (versions_seen (row_in (slice_get rs n))) v ↔ linked_in (joins_in ks rs) p x v
linked_row ks rs n p x different asked v = by (slice_get rs n) refl
  where
    by : (o : Option (List Version)) → slice_get rs n ≡ o → Contains (versions_seen (row_in o)) v ↔ linked_in (joins_in ks rs) p x v
    by None e = past_linked ks rs n p x different asked e v
    by (Some r) e = row_linked ks rs n p x r different asked e v

get_there : {X : Type 0} (xs : List X) (n : ℕ) → n < length xs → (x : X) × (slice_get xs n ≡ Some x)
get_there [] n h = absurd (omega arith)
get_there (x ∷ xs) zero h = (x, refl)
get_there (x ∷ xs) (suc n) h = get_there xs n (omega arith)

own_slot : (g : PlainFlowFunction) (x : ℕ) → owns g x ≡ true → IsOwnSlot g x
unfolding owns
own_slot g x h = by (nat_le g.first_slot_of x) (nat_lt (x - g.first_slot_of) g.slots_of) refl refl h
  where
    by : (b c : Bool) → nat_le g.first_slot_of x ≡ b → nat_lt (x - g.first_slot_of) g.slots_of ≡ c → (b && c) ≡ true → IsOwnSlot g x
    by true true e f k = let a = leb-true g.first_slot_of x e in let d = ltb-true (x - g.first_slot_of) g.slots_of f in record { least = a; most = omega arith }
    by true false e f k = absurd (cc)
    by false c e f k = absurd (cc)

slot_own : (g : PlainFlowFunction) (x : ℕ) → IsOwnSlot g x → owns g x ≡ true
unfolding owns
slot_own g x own = let a = own.least in let d = own.most in
    ap (λ (t : Bool). t && nat_lt (x - g.first_slot_of) g.slots_of) (le_true g.first_slot_of x a) ∙ lt-ltb (x - g.first_slot_of) g.slots_of (omega arith)
  where
    le_true : (n m : ℕ) → n ≤ m → nat_le n m ≡ true
    le_true n m h = elim (leb_tells n m) [ inl k ↦ k.0 | inr k ↦ absurd (let e = k.1 in omega arith) ]

module _ (flow : PlainFlow) (steps : List PlainStep) (all : List (ℕ × Arrival)) (heads : List ℕ) (graph : IsGraph flow steps all heads) (marks : Marks) (are : AreMarked flow heads marks (length steps))
    (lists : List (Vec ℕ Global)) (places : ArePlaces (map target all) lists) (most : ℕ) (asks : List (ℕ × ℕ)) (rows : List (List Version))
    (made : AreRows flow.functions_of heads (λ h x. found_behind (row_before lists all heads) marks.last most h x) all marks.asks.keys asks rows) (long : length rows ≡ length asks) where
  -- the version of a slot behind a row
  abbrev behind : ℕ → ℕ → PlainVersion
  behind h x = found_behind (row_before lists all heads) marks.last most h x

  -- behind an edge to the first point of a row stands the version that is found
  leaving : (q p : ℕ) → Edge flow q p → slice_get heads p ≡ Some p → (h : ℕ) → slice_get heads q ≡ Some h → (x : ℕ) → Leaving flow q x (found_in marks.last h x)
  leaving q p e first h at x =
      let less : q < length steps = slice_get_within steps q _ (step_at flow steps all heads graph q e.point e.there) in
      elim (set_or_not (slice_get heads (suc q)) h) [
        | inr other ↦ are.last.ends q h less at (inr (λ k. other k)) x
        | inl same ↦
            let below = graph.heads_are.before q h at in
            let goes = (graph.heads_are.goes q h same (λ k. omega arith)).1 in
            let before : goes.before ≡ q = (let f = goes.follows in omega arith) in
            let s = step_at flow steps all heads graph q e.point e.there in
            let one : Contains (suc q ∷ []) p = subst (λ (ns : List ℕ). Contains ns p) goes.on
            (subst (λ (t : PlainStep). Contains t.nexts_of p) (same_Some _ goes.step (sym s ∙ subst (λ (n : ℕ). slice_get steps n ≡ Some goes.step) before goes.there)) e.leads) in
            absurd (let a = same_Some h p (sym same ∙ subst (λ (n : ℕ). slice_get heads n ≡ Some p) (sym (in_one (suc q) p one)) first) in let b = in_one (suc q) p one in omega arith)
      ]

  -- also where it is looked for in the rows before
  leaving_behind : (n q p : ℕ) → Edge flow q p → slice_get heads p ≡ Some p → (h : ℕ) → slice_get heads q ≡ Some h → (x : ℕ) → Leaving flow q x (found_behind (row_before lists all heads) marks.last n h x)
  unfolding found_behind
  leaving_behind zero q p e first h there x = leaving q p e first h there x
  leaving_behind (suc n) q p e first h there x =
      let begins : slice_get heads h ≡ Some h = is_first steps all heads graph.heads_are q h there in
      by (found_in marks.last h x) refl (row_before lists all heads h) refl (leaving q p e first h there x) (λ c b f k. leaving_behind n b h f begins c k x)
    where
      before : ℕ → PlainVersion
      before c = found_behind (row_before lists all heads) marks.last n c x

      inside : h < length steps
      inside = let w = slice_get_within heads h h (is_first steps all heads graph.heads_are q h there) in let l = graph.long in omega arith

      stands : (c : ℕ) → row_before lists all heads h ≡ Some c → ((b : ℕ) → Edge flow b h → slice_get heads b ≡ Some c → Leaving flow b x (before c)) → Stands flow h x (before c)
      stands c g further =
          let r = is_before lists all heads h c places g in
          let edge = listed_edge flow steps all heads graph h r.point r.edge in
          step_on flow h r.point x (before c) (only_from flow steps all heads graph h r.point edge r.alone inside) (further r.point edge r.head)

      by : (v : PlainVersion) → found_in marks.last h x ≡ v → (o : Option ℕ) → row_before lists all heads h ≡ o → Leaving flow q x v
          → ((c b : ℕ) → Edge flow b h → slice_get heads b ≡ Some c → Leaving flow b x (before c)) → Leaving flow q x (or_before v o before)
      by (of_definition d) f o g l further = l
      by (join_at y z) f None g l further = l
      by (join_at y z) f (Some c) g l further =
          let same : join_at y z ≡ join_at h x = sym f ∙ found_is y z (joins_at (held marks.last h x) h x y z f) (joins_slot (held marks.last h x) h x y z f) f in
          leaving_through flow h (before c) q x (join_at y z) l same (stands c g (λ b. further c b))
        where
          found_is : (y z : ℕ) → y ≡ h → z ≡ x → found_in marks.last h x ≡ join_at y z → found_in marks.last h x ≡ join_at h x
          found_is y z a b k = k ∙ ap (λ (w : ℕ). join_at w z) a ∙ ap (λ (w : ℕ). join_at h w) b

  row_at : (p x : ℕ) → Contains asks (p, x) → (r : List Version) × IsRow flow.functions_of heads behind all p x (versions_seen r) × Contains (joins_in asks rows) (record { point = p; slot = x; versions = versions_seen r })
  row_at p x c =
      let o = at_contains asks (p, x) c in
      let r = get_there rows o.0 (let w = slice_get_within asks o.0 (p, x) o.1 in omega arith) in
      (r.0, made.each o.0 p x r.0 o.1 r.1, joins_hold asks rows o.0 (p, x) r.0 o.1 r.1)

  asked_is : (p x : ℕ) → asked_in (joins_in asks rows) p x → Contains asks (p, x)
  asked_is p x c = let j = joins_only asks rows (record { point = p; slot = x; versions = c.0 }) c.1 in contains_at asks j.place (p, x) j.asked

  kept_is : (v : PlainVersion) → IsKept (asked_by asks) v → IsKept (asked_in (joins_in asks rows)) v
  kept_is (of_definition d) k = k
  kept_is (join_at p x) k = let r = row_at p x k in (versions_seen r.0, r.2)

  link_is : (p x : ℕ) (v : PlainVersion) (a : Arrival) → slice_get heads p ≡ Some p → Contains all (p, a) → Contains (link_of flow.functions_of heads behind x a) v → Link flow p x v
  unfolding link_of
  link_is p x v a first c k = elim (listed flow steps all heads graph p a c) [
    | inl e ↦ by_edge e.0 e.2 (subst (λ (b : Arrival). Contains (link_of flow.functions_of heads behind x b) v) e.1 k)
    | inr e ↦ subst (λ (q : ℕ). Link flow q x v) e.4 (by_entry e.0 e.2 e.3 (subst (λ (b : Arrival). Contains (link_of flow.functions_of heads behind x b) v) e.1 k))
  ]
    where
      of_leaving : (q : ℕ) (u : PlainVersion) → Edge flow q p → Leaving flow q x u → Link flow p x u
      of_leaving q u e (Leaving.set r y s) = Link.from_set p r y e s
      of_leaving q u e (Leaving.left r y w l s) = Link.from_left p r y w e l s

      by_edge : (q : ℕ) → Edge flow q p → Contains (link_of flow.functions_of heads behind x (of_edge q)) v → Link flow p x v
      by_edge q e m = at (slice_get heads q) refl m
        where
          at : (o : Option ℕ) → slice_get heads q ≡ o → Contains (link_from o behind x) v → Link flow p x v
          at None f n = absurd (none_of v n)
          at (Some h) f n = subst (λ (u : PlainVersion). Link flow p x u) (in_one (behind h x) v n) (of_leaving q (behind h x) e (leaving_behind most q p e first h f x))

      by_entry : (f : ℕ) (g : PlainFlowFunction) → function_at flow f ≡ Some g → Contains (link_of flow.functions_of heads behind x (of_entry f)) v → Link flow g.entry_of x v
      by_entry f g e m = own (owns g x) refl (subst (λ (o : Option PlainFlowFunction). Contains (link_into o f x) v) e m)
        where
          own : (b : Bool) → owns g x ≡ b → Contains (if b then of_definition (at_entry f x) ∷ [] else []) v → Link flow g.entry_of x v
          own true t n = subst (λ (u : PlainVersion). Link flow g.entry_of x u) (in_one (of_definition (at_entry f x)) v n) (Link.from_entry f x g e (own_slot g x t))
          own false t n = absurd (none_of v n)

  -- the version that comes by an edge
  by_an_edge : (p q x : ℕ) → Contains asks (p, x) → Edge flow q p → (v : PlainVersion) × linked_in (joins_in asks rows) p x v × Leaving flow q x v
  unfolding link_of
  by_an_edge p q x c e =
      let r = row_at p x c in
      let first = made.asked p x c in
      let inside : p < length steps = (let w = slice_get_within heads p p first in let l = graph.long in omega arith) in
      let less : q < length heads = (let w = slice_get_within steps q _ (step_at flow steps all heads graph q e.point e.there) in let l = graph.long in omega arith) in
      let h = get_there heads q less in
      (behind h.0 x, (versions_seen r.0, r.2, r.1.all_are (of_edge q) (behind h.0 x) (edge_listed flow steps all heads graph q p e inside) (in_link q h.0 h.1 x)), leaving_behind most q p e first h.0 h.1 x)
    where
      in_link : (q h : ℕ) → slice_get heads q ≡ Some h → (x : ℕ) → Contains (link_of flow.functions_of heads behind x (of_edge q)) (behind h x)
      in_link q h there x = subst (λ (o : Option ℕ). Contains (link_from o behind x) (behind h x)) (sym there) (zero, omega arith, refl)

  are_links : AreLinks flow (asked_in (joins_in asks rows)) (linked_in (joins_in asks rows))
  unfolding link_of
  are_links = record {
    each = λ p x v k. let j = joins_only asks rows (record { point = p; slot = x; versions = k.0 }) k.1 in
        let r = made.each j.place p x j.row j.asked j.there in
        let o = r.each v (subst (λ (vs : List PlainVersion). Contains vs v) j.is k.2) in
        link_is p x v o.0 (made.asked p x (contains_at asks j.place (p, x) j.asked)) o.1 o.2;
    closed = λ p x v k. let j = joins_only asks rows (record { point = p; slot = x; versions = k.0 }) k.1 in
        kept_is v (made.kept j.place j.row v j.there (subst (λ (vs : List PlainVersion). Contains vs v) j.is k.2));
    set = λ p q x c e w. let o = by_an_edge p q x (asked_is p x c) e in subst (λ (v : PlainVersion). linked_in (joins_in asks rows) p x v) (set_only q x o.0 w o.2) o.1;
    left = λ p q x c e w. let o = by_an_edge p q x (asked_is p x c) e in (o.0, o.1, left_only q x o.0 w o.2);
    entry = λ f x g e own c. let a = asked_is g.entry_of x c in
        let r = row_at g.entry_of x a in
        let inside : g.entry_of < length steps = (let w = slice_get_within heads g.entry_of g.entry_of (made.asked g.entry_of x a) in let l = graph.long in omega arith) in
        (versions_seen r.0, r.2, r.1.all_are (of_entry f) (of_definition (at_entry f x)) (entry_listed flow steps all heads graph f g e inside) (entry_link f g x e own));
  }
    where
      set_only : (q x : ℕ) (v : PlainVersion) → Sets flow q x → Leaving flow q x v → v ≡ of_definition (at_point q)
      set_only q x v w (Leaving.set r y s) = refl
      set_only q x v w (Leaving.left r y u l s) = absurd (not_both flow r y w l)

      left_only : (q x : ℕ) (v : PlainVersion) → Leaves flow q x → Leaving flow q x v → Stands flow q x v
      left_only q x v w (Leaving.set r y s) = absurd (not_both flow r y s w)
      left_only q x v w (Leaving.left r y u l s) = s

      entry_link : (f : ℕ) (g : PlainFlowFunction) (x : ℕ) → function_at flow f ≡ Some g → IsOwnSlot g x → Contains (link_of flow.functions_of heads behind x (of_entry f)) (of_definition (at_entry f x))
      entry_link f g x e own = subst (λ (o : Option PlainFlowFunction). Contains (link_into o f x) (of_definition (at_entry f x))) (sym e)
          (subst (λ (b : Bool). Contains (if b then of_definition (at_entry f x) ∷ [] else []) (of_definition (at_entry f x))) (sym (slot_own g x own)) (zero, omega arith, refl))

  -- the version that is held for a read
  pub versions_exact : (versions : Versions) → versions.versions ≡ marks.versions → asks_of versions ≡ asks → rows_of versions ≡ rows → ((h x : ℕ) → Contains marks.asks.keys (h, x) → Contains asks (h, x)) → IsExact flow versions
  versions_exact versions same_versions same_asks same_rows more = record {
    all = λ p x i at c n. are.all p x i (slice_get_within steps p _ (step_at flow steps all heads graph p i at)) at c (none_held (held marks.versions p x) (sym (ap (λ (m : _). option_map version_seen (held m p x)) same_versions) ∙ n));
    behind = λ p x v e d. subst (λ (js : List PlainJoin). Behind (linked_in js) v d ↔ Reaches flow d x p) (sym joins_same)
        (by p x v (held marks.versions p x) refl (sym (ap (λ (m : _). option_map version_seen (held m p x)) same_versions) ∙ e) d);
  }
    where
      joins_same : joins_of versions ≡ joins_in asks rows
      joins_same = ap (λ (ks : List (ℕ × ℕ)). joins_in ks (rows_of versions)) same_asks ∙ ap (λ (rs : List (List Version)). joins_in asks rs) same_rows

      none_held : (o : Option Version) → option_map version_seen o ≡ None → o ≡ None
      none_held None e = refl
      none_held (Some v) e = absurd (cc)

      by : (p x : ℕ) (v : PlainVersion) (o : Option Version) → held marks.versions p x ≡ o → option_map version_seen o ≡ Some v → (d : Definition) → Behind (linked_in (joins_in asks rows)) v d ↔ Reaches flow d x p
      by p x v None e f d = absurd (cc)
      by p x v (Some w) e f d =
          let r = are.each p x w e in
          let same = same_Some (version_seen w) v f in
          subst (λ (u : PlainVersion). Behind (linked_in (joins_in asks rows)) u d ↔ Reaches flow d x p) same
          (exact flow (asked_in (joins_in asks rows)) (linked_in (joins_in asks rows)) are_links p x (version_seen w) r.stands
          (kept_is (version_seen w) (kept_more marks.asks.keys asks (version_seen w) more r.kept)) d)

  -- the joins stand where they are asked for
  pub are_joins : (versions : Versions) → versions.versions ≡ marks.versions → asks_of versions ≡ asks → rows_of versions ≡ rows → ((h x : ℕ) → Contains marks.asks.keys (h, x) → Contains asks (h, x)) → AreJoins flow versions
  are_joins versions same_versions same_asks same_rows more = record {
    there = λ p x c.
        let first = made.asked p x (subst (λ (ks : List (ℕ × ℕ)). Contains ks (p, x)) same_asks c) in
        let s = get_there steps p (let w = slice_get_within heads p p first in let l = graph.long in omega arith) in
        let at = is_point flow steps all heads graph p p s.0 first s.1 in
        (at.point, at.there);
    first = λ p x c. no_first flow steps all heads graph p (made.asked p x (subst (λ (ks : List (ℕ × ℕ)). Contains ks (p, x)) same_asks c));
    read = λ p x c. let o = made.slots p x (subst (λ (ks : List (ℕ × ℕ)). Contains ks (p, x)) same_asks c) in are.slots o.0 x o.1;
    rows = ap (λ (rs : List (List Version)). length rs) same_rows ∙ long ∙ sym (ap (λ (ks : List (ℕ × ℕ)). length ks) same_asks);
    links = subst (λ (js : List PlainJoin). AreLinks flow (asked_in js) (linked_in js)) (sym joins_same) are_links;
    few = λ p x. subst (λ (ks : List (ℕ × ℕ)). length (row_of (rows_of versions) (number_in ks p x)) ≤ arrivals_at flow p) (sym same_asks)
        (subst (λ (rs : List (List Version)). length (row_of rs (number_in asks p x)) ≤ arrivals_at flow p) (sym same_rows)
        (joined_few flow heads behind all marks.asks.keys asks rows made (arrivals_few flow steps all heads graph) p x));
    stands = λ p x v e. stands_by p x v (held marks.versions p x) refl (seen p x v e);
    kept = λ p x v e. subst (λ (js : List PlainJoin). IsKept (asked_in js) v) (sym joins_same) (kept_by p x v (held marks.versions p x) refl (seen p x v e));
  }
    where
      joins_same : joins_of versions ≡ joins_in asks rows
      joins_same = ap (λ (ks : List (ℕ × ℕ)). joins_in ks (rows_of versions)) same_asks ∙ ap (λ (rs : List (List Version)). joins_in asks rs) same_rows

      seen : (p x : ℕ) (v : PlainVersion) → version_of versions p x ≡ Some v → option_map version_seen (held marks.versions p x) ≡ Some v
      seen p x v e = sym (ap (λ (m : _). option_map version_seen (held m p x)) same_versions) ∙ e

      stands_by : (p x : ℕ) (v : PlainVersion) (o : Option Version) → held marks.versions p x ≡ o → option_map version_seen o ≡ Some v → Stands flow p x v
      stands_by p x v None e f = absurd (cc)
      stands_by p x v (Some w) e f = subst (λ (u : PlainVersion). Stands flow p x u) (same_Some (version_seen w) v f) (are.each p x w e).stands

      kept_by : (p x : ℕ) (v : PlainVersion) (o : Option Version) → held marks.versions p x ≡ o → option_map version_seen o ≡ Some v → IsKept (asked_in (joins_in asks rows)) v
      kept_by p x v None e f = absurd (cc)
      kept_by p x v (Some w) e f =
          subst (λ (u : PlainVersion). IsKept (asked_in (joins_in asks rows)) u) (same_Some (version_seen w) v f)
          (kept_is (version_seen w) (kept_more marks.asks.keys asks (version_seen w) more (are.each p x w e).kept))
