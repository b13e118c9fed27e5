-- The sets that rows name are among all names of the program.
use Rattle.std.proofs.Common.{◌≡◌, ◌≤◌, ◌+◌, inl, inr, ℕ, zero, suc, List, [], ◌∷◌, ◌++◌, Option, Some, None, refl, sym, subst, ◌∙◌, ap, arith, slice_get, length, map}
use Rattle.std.specs.Prelude.{Contains, flat_map}
use Rattle.std.proofs.lemmas.List.Elements.{Contains-append_left, Contains-append_right}
use Rattle.string_functions.proofs.Members.{Contains-nil, Contains-cons_cases, Contains-head, Contains-later}
use Rattle.useful_nonterminals.proofs.RuleLemmas.{flat_map_has}
use Rattle.plain_values.specs.Plain.{PlainKey}
use Rattle.flow_code.specs.Points.{concat_source, PlainPoint, set_point, call_point, PlainFlowFunction, PlainFlow, points_in, point_at, function_at}
use Rattle.flow_code.specs.Lawful.{nexts, IsOwnSlot}
use Rattle.loose_sets.specs.Reaching.{at_point, at_entry}
use Rattle.loose_sets.specs.Versions.{PlainVersion, of_definition, join_at, Stands, Link, IsKept, PlainJoin, asked_in, linked_in}
use Rattle.loose_sets.proofs.Exact.{sets_or_leaves}
use Rattle.ssa_form.specs.declared.version.Version.{Version}
use Rattle.ssa_form.specs.declared.versions.Versions.{Versions}
use Rattle.ssa_form.specs.Views as ssa
use Rattle.ssa_form.specs.Versions.{joins_in, asks_of, rows_of, joins_of, version_of, IsExact, AreJoins}
use Rattle.system_writing.specs.Forms.{all_names}
use Rattle.point_listing.specs.Reading.{or_join, read_at}
use Rattle.extraction.proofs.Universe as universe
use Rattle.least_sets.specs.Forms.{Form}
use Rattle.loose_sets.specs.Keys.{told_keys}
use Rattle.loose_sets.specs.Exact.{ReadsSlot}
use Rattle.loose_sets.specs.Uses.{At, version_seen, version_back}
use Rattle.loose_sets.specs.Points.{source_at, joined_slots}
use Rattle.loose_sets.specs.Table.{SetsTo, point_of, forms_from, forms_there, forms, RowBy}
use Rattle.loose_sets.specs.Used.{IsAspect, ReadsVersion, IsUsed}
use Rattle.loose_sets.specs.declared.name.Half.{Half}
use Rattle.loose_sets.specs.declared.name.Half.TheVariants as half
use Rattle.loose_sets.specs.declared.name.Aspect.{Aspect}
use Rattle.loose_sets.specs.declared.name.Aspect.TheVariants.{Own, Member, Others, Keys}
use Rattle.loose_sets.specs.declared.name.Leaving.{Leaving}
use Rattle.loose_sets.specs.declared.name.Leaving.TheVariants.{Return, Exit}
use Rattle.loose_sets.specs.declared.name.SetVersion.{SetVersion}
use Rattle.loose_sets.specs.declared.name.SetVersion.TheVariants.{Point, Entry, Join}
use Rattle.loose_sets.specs.declared.name.SetName.{SetName}
use Rattle.loose_sets.specs.declared.name.SetName.TheVariants.{Value, Members, Shown, Result, Input, Output, Joined, Piece, FurtherPiece, FurtherPieces, Out}
use Rattle.loose_sets.proofs.Lists.{map_has, from_place}
use Rattle.loose_sets.proofs.Returned.{only_one}
use Rattle.loose_sets.proofs.Carried.{IsPoint, IsCalled, IsTarget, IsFixed, Carries}
use Rattle.loose_sets.proofs.OfVersions.{seen_back}
use Rattle.extraction.proofs.Closed.{knows_told, First, HasValues, keeps, used_known}

-- a join that is asked for is one of the keys
joined_key : (keys : List (ℕ × ℕ)) (rows : List (List Version)) (p x : ℕ) → asked_in (joins_in keys rows) p x → Contains keys (p, x)
joined_key [] rows p x (vs, has) = Contains-nil (record { point = p; slot = x; versions = vs }) has
joined_key (k ∷ keys) [] p x (vs, has) = Contains-nil (record { point = p; slot = x; versions = vs }) has
joined_key (k ∷ keys) (r ∷ rows) p x (vs, has) = elim (Contains-cons_cases (record { point = k.0; slot = k.1; versions = ssa.versions_seen r }) (joins_in keys rows) (record { point = p; slot = x; versions = vs }) has) [
  | inl e ↦ (
      let at : k ≡ (p, x) = ap (λ (j : PlainJoin). (j.point, j.slot)) e in
      subst (λ (z : ℕ × ℕ). Contains (k ∷ keys) z) at (Contains-head k keys)
      )
  | inr later ↦ Contains-later k keys (p, x) (joined_key keys rows p x (vs, later))
]

-- the aspect is one by the keys that are told apart
pub aspect_has : (told : List PlainKey) (b : Aspect) → IsAspect told b → Contains (universe.aspects told) b
aspect_has told (Own half.Text) is = from_place (universe.aspects told) 0 (Own half.Text) refl
aspect_has told (Own half.Array) is = from_place (universe.aspects told) 1 (Own half.Array) refl
aspect_has told (Others half.Text) is = from_place (universe.aspects told) 2 (Others half.Text) refl
aspect_has told (Others half.Array) is = from_place (universe.aspects told) 3 (Others half.Array) refl
aspect_has told Keys is = from_place (universe.aspects told) 4 Keys refl
aspect_has told (Member i h) is =
    Contains-append_right universe.five_aspects (flat_map universe.both_members (universe.places 0 told)) (Member i h)
    (flat_map_has universe.both_members (universe.places 0 told) i (Member i h) (universe.place_in told i is.0 is.1) (both h))
  where
    both : (h : Half) → Contains (universe.both_members i) (Member i h)
    both half.Text = from_place (universe.both_members i) 0 (Member i half.Text) refl
    both half.Array = from_place (universe.both_members i) 1 (Member i half.Array) refl

module _ (flow : PlainFlow) (versions : Versions) (exact : IsExact flow versions) (joins : AreJoins flow versions) where
  abbrev fs : List PlainFlowFunction
  fs = flow.functions_of

  abbrev points : List PlainPoint
  points = points_in fs

  abbrev asks : List (ℕ × ℕ)
  asks = asks_of versions

  abbrev at : At
  at = read_at versions

  abbrev Known : Aspect → Type 0
  Known b = IsAspect (told_keys flow) b

  -- the version is that of a point, of a slot where its function is entered, or of a join that is asked for
  abbrev pub IsThere : PlainVersion → Type 0
  IsThere (of_definition (at_point p)) = IsPoint flow p
  IsThere (of_definition (at_entry f x)) = (g : PlainFlowFunction) × (function_at flow f ≡ Some g) × IsOwnSlot g x
  IsThere (join_at p x) = Contains asks (p, x)

  stands_there : (p x : ℕ) (v : PlainVersion) → Stands flow p x v → IsKept (asked_in (joins_of versions)) v → IsThere v
  stands_there _ _ _ (Stands.here p x) kept = joined_key asks (rows_of versions) p x kept
  stands_there _ _ _ (Stands.set_before p q x only set) kept = (set.point, set.there)
  stands_there _ _ _ (Stands.left_before p q x v only leaves stands) kept = stands_there q x v stands kept
  stands_there _ _ _ (Stands.alike p x v comes one stands) kept = elim one.some [
    | inl k ↦ elim (sets_or_leaves flow k.0 p x k.1) [
      | inl w ↦ subst (λ (u : PlainVersion). IsThere u) (sym (one.by_set k.0 k.1 w) ∙ k.2) (w.point, w.there)
      | inr l ↦ subst (λ (u : PlainVersion). IsThere u) k.2 (stands_there k.0 x (comes k.0 k.1) (stands k.0 k.1 l) (subst (λ (u : PlainVersion). IsKept (asked_in (joins_of versions)) u) (sym k.2) kept))
    ]
    | inr k ↦ subst (λ (u : PlainVersion). IsThere u) (sym (one.by_entry k.0 k.1)) (k.1.function, k.1.there, k.1.own)
  ]

  link_there : (p x : ℕ) (v : PlainVersion) → Link flow p x v → IsKept (asked_in (joins_of versions)) v → IsThere v
  link_there _ _ _ (Link.from_set p q x edge set) kept = (set.point, set.there)
  link_there _ _ _ (Link.from_left p q x v edge leaves stands) kept = stands_there q x v stands kept
  link_there _ _ _ (Link.from_entry f x g is own_slot) kept = (g, is, own_slot)

  read_there : (p x : ℕ) → ReadsSlot flow p x → IsThere (version_seen (at p x))
  read_there p x read = by (version_of versions p x) refl
    where
      by : (o : Option PlainVersion) → version_of versions p x ≡ o → IsThere (version_seen (or_join p x o))
      by None e = absurd (exact.all p x read.point read.there read.it e)
      by (Some v) e = subst (λ (u : PlainVersion). IsThere u) (sym (seen_back v)) (stands_there p x v (joins.stands p x v e) (joins.kept p x v e))

  point_in : (p : ℕ) (k : PlainPoint) → point_at flow p ≡ Some k → Contains points k
  unfolding point_at
  point_in p k e = from_place points p k e

  next_in : (p q : ℕ) (k : PlainPoint) → point_at flow p ≡ Some k → Contains (nexts k) q → Contains (universe.targets_in fs points) q
  next_in p q k e has = Contains-append_right (map (λ (g : PlainFlowFunction). g.entry_of) fs) (flat_map nexts points) q (flat_map_has nexts points k q (point_in p k e) has)

  pub entry_in : (n : ℕ) (g : PlainFlowFunction) → function_at flow n ≡ Some g → Contains (universe.targets_in fs points) g.entry_of
  entry_in n g e = Contains-append_left (map (λ (z : PlainFlowFunction). z.entry_of) fs) (flat_map nexts points) g.entry_of (map_has (λ (z : PlainFlowFunction). z.entry_of) fs g (from_place fs n g e))

  call_next : (p x n next : ℕ) (args : List ℕ) → point_at flow p ≡ Some (call_point x n args next) → Contains (universe.targets_in fs points) next
  unfolding nexts
  call_next p x n next args e = next_in p next (call_point x n args next) e (Contains-head next [])

  -- the set is one of a version, a point, a function or a target that there is, by an aspect that there is
  abbrev pub IsNamed : SetName → Type 0
  IsNamed (Value b v) = Known b × IsThere (version_seen v)
  IsNamed (Members h v) = IsThere (version_seen v)
  IsNamed (Shown v) = IsThere (version_seen v)
  IsNamed (Result b n) = Known b × Contains (flat_map universe.called_by points) n
  IsNamed (Input p) = IsPoint flow p
  IsNamed (Output p) = IsPoint flow p
  IsNamed (Joined p i) = (xs : List ℕ) × SetsTo flow p (concat_source xs) × (i ≤ length xs)
  IsNamed (Piece p) = IsPoint flow p
  IsNamed (FurtherPiece p) = IsPoint flow p
  IsNamed (FurtherPieces p) = IsPoint flow p
  IsNamed (Out q l) = Contains (universe.targets_in fs points) q

  target_in : (q : ℕ) → IsTarget flow q → Contains (universe.targets_in fs points) q
  target_in _ (IsTarget.by_entry n g e) = entry_in n g e
  target_in _ (IsTarget.by_edge p q k e has) = next_in p q k e has

  called_in : (n : ℕ) → IsCalled flow n → Contains (flat_map universe.called_by points) n
  unfolding universe.called_by
  called_in n c = flat_map_has universe.called_by points (call_point c.slot n c.args c.next) n (point_in c.point (call_point c.slot n c.args c.next) c.call) (Contains-head n [])

  fixed_named : (n : SetName) → IsFixed flow Known n → IsNamed n
  fixed_named (Value b (Point p)) is = is
  fixed_named (Value b (Entry f x)) is = absurd is
  fixed_named (Value b (Join p x)) is = absurd is
  fixed_named (Members h v) is = absurd is
  fixed_named (Shown v) is = absurd is
  fixed_named (Result b n) is = (is.0, called_in n is.1)
  fixed_named (Input p) is = is
  fixed_named (Output p) is = is
  fixed_named (Joined p i) is = is
  fixed_named (Piece p) is = is
  fixed_named (FurtherPiece p) is = is
  fixed_named (FurtherPieces p) is = is
  fixed_named (Out q l) is = target_in q is

  names : Carries flow Known at at (First flow Known (knows_told flow) at IsNamed)
  names = record { used = λ b p x k r. (k, read_there p x r); members = λ h p x r. read_there p x r; shown = λ p x r. read_there p x r; fixed = fixed_named }

  -- a version that some point reads
  version_read : (v : SetVersion) → ReadsVersion flow at v → IsThere (version_seen v)
  version_read v u = subst (λ (w : SetVersion). IsThere (version_seen w)) u.it (read_there u.point u.slot u.read)

  input_there : (p : ℕ) (f : Form SetName) → Contains (forms at flow (Output p)) f → IsPoint flow p
  unfolding point_of forms_from
  input_there p f has = by (point_at flow p) refl has
    where
      by : (o : Option PlainPoint) → point_at flow p ≡ o → Contains (forms_there (forms_from (told_keys flow) fs at (Output p)) o) f → IsPoint flow p
      by None e has = Contains-nil f has
      by (Some k) e has = (k, e)

  values_named : (m : SetName) (f : Form SetName) → IsUsed flow at m → Contains (forms at flow m) f → HasValues flow Known (knows_told flow) at IsNamed m
  unfolding IsUsed
  values_named (Value b v) f u has = tt
  values_named (Members h v) f u has = λ b k. (k, version_read v u)
  values_named (Shown v) f u has = λ b k. (k, version_read v u)
  values_named (Result b n) f u has = tt
  values_named (Input p) f u has = tt
  values_named (Output p) f u has = input_there p f has
  values_named (Joined p i) f u has = tt
  values_named (Piece p) f u has = tt
  values_named (FurtherPiece p) f u has = tt
  values_named (FurtherPieces p) f u has = tt
  values_named (Out q l) f u has = tt

  -- each set that a row of a used set names is there
  pub row_named : (m : SetName) (f : Form SetName) → RowBy at (linked_in (joins_of versions)) flow m f → IsUsed flow at m → (n : SetName) → Contains (all_names f) n → IsNamed n
  unfolding IsUsed
  row_named m f (RowBy.listed _ _ has) u n named = keeps flow Known (knows_told flow) at IsNamed names m (used_known flow at m u) (values_named m f u has) f has n named
  row_named _ _ (RowBy.joined b p x v k) u n named =
      subst (λ (z : SetName). IsNamed z) (only_one (Value b (version_back v)) n named)
      (u, subst (λ (w : PlainVersion). IsThere w) (sym (seen_back v)) (link_there p x v (joins.links.each p x v k) (joins.links.closed p x v k)))

  -- all names that may be named
  abbrev pub named : List SetName
  named = universe.all_names_of (universe.aspects (told_keys flow)) (universe.all_versions fs points asks) (flat_map universe.called_by points) points (universe.targets_in fs points)

  version_has : (v : PlainVersion) (w : SetVersion) → version_seen w ≡ v → IsThere v → Contains (universe.all_versions fs points asks) w
  unfolding point_at
  version_has v (Point p) is there =
      let h : IsPoint flow p = subst (λ (u : PlainVersion). IsThere u) (sym is) there in
      let k = universe.place_in points p h.0 h.1 in
      Contains-append_left (map (λ (q : ℕ). Point q) (universe.places 0 points)) (map universe.entry_of (universe.entry_slots 0 fs) ++ map universe.join_of asks) (Point p)
      (map_has (λ (q : ℕ). Point q) (universe.places 0 points) p k)
  version_has v (Entry f x) is there =
      let h : IsThere (of_definition (at_entry f x)) = subst (λ (u : PlainVersion). IsThere u) (sym is) there in
      Contains-append_right (map (λ (q : ℕ). Point q) (universe.places 0 points)) (map universe.entry_of (universe.entry_slots 0 fs) ++ map universe.join_of asks) (Entry f x)
      (Contains-append_left (map universe.entry_of (universe.entry_slots 0 fs)) (map universe.join_of asks) (Entry f x) (map_has universe.entry_of (universe.entry_slots 0 fs) (f, x) (subst (λ (n : ℕ). Contains (universe.entry_slots 0 fs) (n, x)) (nothing f) (entry_has fs 0 f h.0 h.1 h.2))))
    where
      nothing : (n : ℕ) → 0 + n ≡ n
      nothing n = omega arith

      entry_has : (gs : List PlainFlowFunction) (i k : ℕ) (g : PlainFlowFunction) → slice_get gs k ≡ Some g → IsOwnSlot g x → Contains (universe.entry_slots i gs) (i + k, x)
      entry_has [] i k g e slot = absurd (cc)
      entry_has (y ∷ gs) i zero g e slot =
          let same : y ≡ g = cc in
          subst (λ (n : ℕ). Contains (universe.entry_slots i (y ∷ gs)) (n, x)) (none i)
          (Contains-append_left (universe.own_slots i y) (universe.entry_slots (suc i) gs) (i, x)
          (map_has (λ (z : ℕ). (i, z)) (universe.run y.first_slot_of y.slots_of) x
          (subst (λ (z : PlainFlowFunction). Contains (universe.run z.first_slot_of z.slots_of) x) (sym same) (universe.run_has g.first_slot_of g.slots_of x slot.least slot.most))))
        where
          none : (i : ℕ) → i ≡ i + 0
          none i = omega arith
      entry_has (y ∷ gs) i (suc k) g e slot =
          subst (λ (n : ℕ). Contains (universe.entry_slots i (y ∷ gs)) (n, x)) (next i k)
          (Contains-append_right (universe.own_slots i y) (universe.entry_slots (suc i) gs) (suc i + k, x) (entry_has gs (suc i) k g e slot))
        where
          next : (i k : ℕ) → suc i + k ≡ i + suc k
          next i k = omega arith
  version_has v (Join p x) is there =
      let h : Contains asks (p, x) = subst (λ (u : PlainVersion). IsThere u) (sym is) there in
      Contains-append_right (map (λ (q : ℕ). Point q) (universe.places 0 points)) (map universe.entry_of (universe.entry_slots 0 fs) ++ map universe.join_of asks) (Join p x)
      (Contains-append_right (map universe.entry_of (universe.entry_slots 0 fs)) (map universe.join_of asks) (Join p x) (map_has universe.join_of asks (p, x) h))

  -- a name over any functions and targets
  module _ (called targets : List ℕ) where
    abbrev pub over : List SetName
    over = universe.all_names_of (universe.aspects (told_keys flow)) (universe.all_versions fs points asks) called points targets

    abbrev bs : List Aspect
    bs = universe.aspects (told_keys flow)

    abbrev vs : List SetVersion
    vs = universe.all_versions fs points asks

    abbrev of_versions : List SetName
    of_versions = flat_map (universe.version_names bs) vs

    abbrev of_results : List SetName
    of_results = flat_map (universe.result_names bs) called

    abbrev of_points : List SetName
    of_points = flat_map universe.point_names (universe.places 0 points)

    abbrev of_joined : List SetName
    of_joined = flat_map (universe.joined_names points) (universe.places 0 points)

    abbrev of_outs : List SetName
    of_outs = flat_map universe.out_names targets

    first : (n : SetName) → Contains of_versions n → Contains over n
    first n has = Contains-append_left of_versions (of_results ++ (of_points ++ (of_joined ++ of_outs))) n has

    second : (n : SetName) → Contains of_results n → Contains over n
    second n has = Contains-append_right of_versions (of_results ++ (of_points ++ (of_joined ++ of_outs))) n (Contains-append_left of_results (of_points ++ (of_joined ++ of_outs)) n has)

    third : (n : SetName) → Contains of_points n → Contains over n
    third n has =
        Contains-append_right of_versions (of_results ++ (of_points ++ (of_joined ++ of_outs))) n
        (Contains-append_right of_results (of_points ++ (of_joined ++ of_outs)) n (Contains-append_left of_points (of_joined ++ of_outs) n has))

    fourth : (n : SetName) → Contains of_joined n → Contains over n
    fourth n has =
        Contains-append_right of_versions (of_results ++ (of_points ++ (of_joined ++ of_outs))) n
        (Contains-append_right of_results (of_points ++ (of_joined ++ of_outs)) n (Contains-append_right of_points (of_joined ++ of_outs) n (Contains-append_left of_joined of_outs n has)))

    fifth : (n : SetName) → Contains of_outs n → Contains over n
    fifth n has =
        Contains-append_right of_versions (of_results ++ (of_points ++ (of_joined ++ of_outs))) n
        (Contains-append_right of_results (of_points ++ (of_joined ++ of_outs)) n (Contains-append_right of_points (of_joined ++ of_outs) n (Contains-append_right of_joined of_outs n has)))

    of_version : (w : SetVersion) (n : SetName) → Contains vs w → Contains (universe.version_names bs w) n → Contains over n
    of_version w n there has = first n (flat_map_has (universe.version_names bs) vs w n there has)

    pub value_has : (b : Aspect) (w : SetVersion) → Contains bs b → Contains vs w → Contains over (Value b w)
    value_has b w has there =
        of_version w (Value b w) there (Contains-append_left (map (λ (c : Aspect). Value c w) bs) (universe.own_names w) (Value b w) (map_has (λ (c : Aspect). Value c w) bs b has))

    own_has : (w : SetVersion) (n : SetName) → Contains vs w → Contains (universe.own_names w) n → Contains over n
    own_has w n there has = of_version w n there (Contains-append_right (map (λ (c : Aspect). Value c w) bs) (universe.own_names w) n has)

    pub members_has : (h : Half) (w : SetVersion) → Contains vs w → Contains over (Members h w)
    members_has half.Text w there = own_has w (Members half.Text w) there (from_place (universe.own_names w) 0 (Members half.Text w) refl)
    members_has half.Array w there = own_has w (Members half.Array w) there (from_place (universe.own_names w) 1 (Members half.Array w) refl)

    pub shown_has : (w : SetVersion) → Contains vs w → Contains over (Shown w)
    shown_has w there = own_has w (Shown w) there (from_place (universe.own_names w) 2 (Shown w) refl)

    pub result_has : (b : Aspect) (n : ℕ) → Contains bs b → Contains called n → Contains over (Result b n)
    result_has b n has there = second (Result b n) (flat_map_has (universe.result_names bs) called n (Result b n) there (map_has (λ (c : Aspect). Result c n) bs b has))

    pub point_has : (p : ℕ) (n : SetName) → IsPoint flow p → Contains (universe.point_names p) n → Contains over n
    unfolding point_at
    point_has p n is has = third n (flat_map_has universe.point_names (universe.places 0 points) p n (universe.place_in points p is.0 is.1) has)

    pub joined_has : (p i : ℕ) (k : PlainPoint) → point_at flow p ≡ Some k → i ≤ universe.joined_count (Some k) → Contains over (Joined p i)
    unfolding point_at
    joined_has p i k e less =
        let n = suc (universe.joined_count (slice_get points p)) in
        let l = ap universe.joined_count e in
        fourth (Joined p i) (flat_map_has (universe.joined_names points) (universe.places 0 points) p (Joined p i) (universe.place_in points p k e)
        (map_has (λ (j : ℕ). Joined p j) (universe.run 0 n) i (universe.run_has 0 n i (omega arith) (omega (arith, less, l)))))

    pub out_has : (p : ℕ) (l : Leaving) → Contains targets p → Contains over (Out p l)
    out_has p Return there = fifth (Out p Return) (flat_map_has universe.out_names targets p (Out p Return) there (from_place (universe.out_names p) 0 (Out p Return) refl))
    out_has p Exit there = fifth (Out p Exit) (flat_map_has universe.out_names targets p (Out p Exit) there (from_place (universe.out_names p) 1 (Out p Exit) refl))

  joined_less : (i x : ℕ) (xs : List ℕ) (next : ℕ) → i ≤ length xs → i ≤ universe.joined_count (Some (set_point x (concat_source xs) next))
  unfolding source_at joined_slots
  joined_less i x xs next h = h

  -- such a set is among all names over functions and targets that have its own
  pub over_has : (called targets : List ℕ) (n : SetName) → IsNamed n → ((b : Aspect) (f : ℕ) → n ≡ Result b f → Contains called f) → ((p : ℕ) (l : Leaving) → n ≡ Out p l → Contains targets p) → Contains (over called targets) n
  over_has called targets (Value b v) is c o = value_has called targets b v (aspect_has (told_keys flow) b is.0) (version_has (version_seen v) v refl is.1)
  over_has called targets (Members h v) is c o = members_has called targets h v (version_has (version_seen v) v refl is)
  over_has called targets (Shown v) is c o = shown_has called targets v (version_has (version_seen v) v refl is)
  over_has called targets (Result b n) is c o = result_has called targets b n (aspect_has (told_keys flow) b is.0) (c b n refl)
  over_has called targets (Input p) is c o = point_has called targets p (Input p) is (from_place (universe.point_names p) 0 (Input p) refl)
  over_has called targets (Output p) is c o = point_has called targets p (Output p) is (from_place (universe.point_names p) 1 (Output p) refl)
  over_has called targets (Joined p i) is c o = joined_has called targets p i (set_point is.1.0 (concat_source is.0) is.1.1) is.1.2 (joined_less i is.1.0 is.0 is.1.1 is.2)
  over_has called targets (Piece p) is c o = point_has called targets p (Piece p) is (from_place (universe.point_names p) 2 (Piece p) refl)
  over_has called targets (FurtherPiece p) is c o = point_has called targets p (FurtherPiece p) is (from_place (universe.point_names p) 3 (FurtherPiece p) refl)
  over_has called targets (FurtherPieces p) is c o = point_has called targets p (FurtherPieces p) is (from_place (universe.point_names p) 4 (FurtherPieces p) refl)
  over_has called targets (Out q l) is c o = out_has called targets q l (o q l refl)

  called_of : (n : SetName) → IsNamed n → (b : Aspect) (f : ℕ) → n ≡ Result b f → Contains (flat_map universe.called_by points) f
  called_of n is b f e = (subst (λ (z : SetName). IsNamed z) e is).1

  target_of : (n : SetName) → IsNamed n → (p : ℕ) (l : Leaving) → n ≡ Out p l → Contains (universe.targets_in fs points) p
  target_of n is p l e = subst (λ (z : SetName). IsNamed z) e is

  pub named_has : (n : SetName) → IsNamed n → Contains named n
  named_has n is = over_has (flat_map universe.called_by points) (universe.targets_in fs points) n is (called_of n is) (target_of n is)

  pub entry_named : (g : PlainFlowFunction) (l : Leaving) → function_at flow 0 ≡ Some g → IsNamed (Out g.entry_of l)
  entry_named g l e = entry_in 0 g e
