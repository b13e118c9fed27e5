-- The list of each name has exactly the rows of the set.
use Rattle.std.proofs.Common.{◌≡◌, ◌↔◌, ◌⊎◌, inl, inr, ℕ, Bool, true, false, List, [], ◌∷◌, Option, Some, None, refl, sym, subst, ap, ◌∙◌, slice_get, Contains, map}
use Rattle.std.proofs.lemmas.List.Elements.{Contains-append_left, Contains-append_right, Contains-append_cases}
use Rattle.string_functions.proofs.Members.{Contains-nil, Contains-cons_cases, Contains-head, Contains-later}
use Rattle.plain_values.specs.Plain.{PlainKey}
use Rattle.flow_code.specs.Points.{PlainPoint, PlainFlow, point_at}
use Rattle.least_sets.specs.Forms.{Form, text_form, same_form}
use Rattle.loose_sets.specs.Keys.{told_keys}
use Rattle.loose_sets.specs.Versions.{PlainVersion, Linked, linked_in}
use Rattle.ssa_form.specs.Versions.{joins_of}
use Rattle.loose_sets.specs.declared.name.Aspect.{Aspect}
use Rattle.loose_sets.specs.declared.name.SetVersion.{SetVersion}
use Rattle.loose_sets.specs.declared.name.SetVersion.TheVariants.{Point, Entry, Join}
use Rattle.loose_sets.specs.declared.name.SetName.{SetName}
use Rattle.loose_sets.specs.declared.name.SetName.TheVariants.{Value, Members, Shown, Result, Input, Output, Joined, Piece, FurtherPiece, FurtherPieces, Out}
use Rattle.loose_sets.specs.Uses.{At, where_so, version_seen, version_back}
use Rattle.loose_sets.specs.Arrays.{Forms}
use Rattle.loose_sets.specs.Sources.{texts_alone}
use Rattle.loose_sets.specs.Members.{members_forms, link_form, link_forms}
use Rattle.loose_sets.specs.Functions.{IsReturned, ArePairs, returned_of, returned_by, handed_to, is_null_slot, used_pair, used_pairs, entry_forms}
use Rattle.loose_sets.specs.Table.{point_of, forms_from, forms_there, forms_beside, forms, RowBy}
use Rattle.loose_sets.proofs.Lists.{map_has}
use Rattle.loose_sets.proofs.Returned.{none_in, returned_law}
use Rattle.loose_sets.proofs.Handed.{handed_pairs}
use Rattle.loose_sets.proofs.Nulls.{null_from, null_is}
use Rattle.loose_sets.proofs.OfVersions.{back_seen}
use Rattle.point_listing.proofs.Handed.{found_law}
use Rattle.point_listing.specs.Links.{links_seen}
use Rattle.point_listing.proofs.Links.{links_law}
use Rattle.flow_code.specs.Points.{PlainFlowFunction, function_at}
use Rattle.flow_graph.specs.Handed.{handings_from}
use Rattle.flow_graph.specs.Rows.{points_seen}
use Rattle.flow_graph.specs.Tables.{pairs_seen}
use Rattle.extraction.specs.declared.tables.FlowTables.{FlowTables}
use Rattle.extraction.specs.Params.{is_null}
use Rattle.extraction.specs.Tables.{flow_of, functions_of, at_in, pairs_or_none, handed_in, further_forms, lists_from, lists_of, AreTables}
use Rattle.extraction.proofs.ListedEntries as entries

-- what stands in a list of images
map_from : {A B : Type 0} (f : A → B) (xs : List A) (y : B) → Contains (map f xs) y → (x : A) × Contains xs x × (f x ≡ y)
map_from f [] y has = absurd (Contains-nil y has)
map_from f (x ∷ xs) y has = elim (Contains-cons_cases (f x) (map f xs) y has) [
  | inl same ↦ (x, Contains-head x xs, same)
  | inr later ↦ (let r = map_from f xs y later in (r.0, Contains-later x xs r.0 r.1, r.2))
]

-- the values of the same pairs
pairs_alike : (at : At) (b : Aspect) (ps qs : List (ℕ × ℕ)) → ((t : ℕ × ℕ) → Contains ps t → Contains qs t) → (f : Form SetName) → Contains (used_pairs at ps b) f → Contains (used_pairs at qs b) f
pairs_alike at b ps qs each f has =
    let r = map_from (used_pair at b) ps f has in
    subst (λ (z : Form SetName). Contains (used_pairs at qs b) z) r.2 (map_has (used_pair at b) qs r.0 (each r.0 r.1))

where_alike : (a b : Bool) → (a ≡ true → b ≡ true) → (xs : Forms) (f : Form SetName) → Contains (where_so a xs) f → Contains (where_so b xs) f
unfolding where_so
where_alike true b is xs f has = subst (λ (z : Bool). Contains (where_so z xs) f) (sym (is refl)) has
where_alike false b is xs f has = absurd (none_in f has)

entries_alike : (at : At) (b : Aspect) (ps qs : List (ℕ × ℕ)) (m n : Bool) → ((t : ℕ × ℕ) → Contains ps t → Contains qs t) → (m ≡ true → n ≡ true) → (f : Form SetName) → Contains (entry_forms at ps m b) f → Contains (entry_forms at qs n b) f
entries_alike at b ps qs m n each is f has =
    let alone = texts_alone (text_form [] ∷ []) b in
    elim (Contains-append_cases (used_pairs at ps b) (where_so m alone) f has) [
      | inl k ↦ Contains-append_left (used_pairs at qs b) (where_so n alone) f (pairs_alike at b ps qs each f k)
      | inr k ↦ Contains-append_right (used_pairs at qs b) (where_so n alone) f (where_alike m n is alone f k)
    ]

module _ (t : FlowTables) (are : AreTables t) where
  abbrev flow : PlainFlow
  flow = flow_of t

  abbrev linked : Linked
  linked = linked_in (joins_of t.versions)

  abbrev at : At
  at = at_in t

  abbrev Told : List PlainKey
  Told = told_keys flow

  abbrev Rows : SetName → Form SetName → Type 0
  Rows n f = RowBy at linked flow n f

  -- a row is one of the table, or that of a join
  record IsJoined (n : SetName) (f : Form SetName) : Type 0 where
    aspect : Aspect
    point : ℕ
    slot : ℕ
    version : PlainVersion
    link : linked point slot version
    name : n ≡ Value aspect (Join point slot)
    form : f ≡ same_form (Value aspect (version_back version))

  row_is : (n : SetName) (f : Form SetName) → Rows n f → Contains (forms at flow n) f ⊎ IsJoined n f
  row_is n f (RowBy.listed _ _ has) = inl has
  row_is _ _ (RowBy.joined b p x v k) = inr (record { aspect = b; point = p; slot = x; version = v; link = k; name = refl; form = refl })

  -- a set that is no join's
  IsList : SetName → Type 0
  IsList n = (f : Form SetName) → Contains (lists_of t n) f ↔ Rows n f

  by_members : (n : SetName) → ((b : Aspect) (p x : ℕ) → n ≡ Value b (Join p x) → ⊥) → (f : Form SetName) → (Contains (lists_of t n) f → Contains (forms at flow n) f) → (Contains (forms at flow n) f → Contains (lists_of t n) f) → Contains (lists_of t n) f ↔ Rows n f
  by_members n isnt f there back = (
    λ has. RowBy.listed n f (there has),
    λ row. elim (row_is n f row) [
      | inl has ↦ back has
      | inr j ↦ absurd (isnt j.aspect j.point j.slot j.name)
    ],
  )

  by_equal : (n : SetName) → ((b : Aspect) (p x : ℕ) → n ≡ Value b (Join p x) → ⊥) → lists_of t n ≡ forms at flow n → (f : Form SetName) → Contains (lists_of t n) f ↔ Rows n f
  by_equal n isnt same f = by_members n isnt f (λ has. subst (λ (fs : Forms). Contains fs f) same has) (λ has. subst (λ (fs : Forms). Contains fs f) (sym same) has)

  -- of a set that belongs to a point
  point_lists : (n : SetName) (p : ℕ) → lists_from t n (Some p) ≡ forms_there (forms_from Told (functions_of t) at n) (point_at flow p)
  unfolding point_at
  point_lists n p =
      ap (λ (ks : List PlainKey). forms_there (forms_from ks (functions_of t) at n) (slice_get (points_seen t.row) p)) are.told
      ∙ ap (λ (ks : List PlainPoint). forms_there (forms_from Told (functions_of t) at n) (slice_get ks p)) are.points

  -- of a slot at an entry
  entry_exact : (b : Aspect) (n y : ℕ) (f : Form SetName) → Contains (lists_of t (Value b (Entry n y))) f ↔ Rows (Value b (Entry n y)) f
  unfolding point_of further_forms forms_beside
  entry_exact b n y f =
      let found = found_law flow t.handed.all.items t.handed.groups.keys.keys t.handed.groups.places.items (are.handed ∙ ap (λ (ks : List PlainPoint). handings_from (functions_of t) 0 ks) are.points) are.groups n y in
      by_members (Value b (Entry n y)) (λ c p x e. cc) f
      (entries_alike at b (handed_in t n y) (handed_to flow n y) (is_null (functions_of t) t.params.keys n y) (is_null_slot flow n y)
      (λ s has. (handed_pairs flow n y s.0 s.1).1 ((found s.0 s.1).0 has)) (λ so. null_is flow n y (entries.null_slot flow t.params.keys are.params n y so)) f)
      (entries_alike at b (handed_to flow n y) (handed_in t n y) (is_null_slot flow n y) (is_null (functions_of t) t.params.keys n y)
      (λ s has. (found s.0 s.1).1 ((handed_pairs flow n y s.0 s.1).0 has)) (λ so. entries.slot_null flow t.params.keys are.params n y (null_from flow n y so)) f)

  -- of the results of a function
  returned_pairs_of : (n : ℕ) → ArePairs (IsReturned flow n) (returned_by flow n)
  unfolding returned_by
  returned_pairs_of n = by (function_at flow n) refl
    where
      by : (o : Option PlainFlowFunction) → function_at flow n ≡ o → ArePairs (IsReturned flow n) (returned_of flow o)
      by None is = λ p x. (λ c. absurd (none_in (p, x) c), λ r. absurd (let both : None ≡ Some r.function = sym is ∙ r.is in cc))
      by (Some g) is = returned_law flow n g is

  result_exact : (b : Aspect) (n : ℕ) (f : Form SetName) → Contains (lists_of t (Result b n)) f ↔ Rows (Result b n) f
  unfolding point_of further_forms forms_beside
  result_exact b n f =
      let pairs = pairs_or_none (slice_get (pairs_seen t.returned.items) n) in
      let listed = entries.returned_exact flow (points_seen t.row) (pairs_seen t.returned.items) are.points are.returned n in
      let rows = returned_pairs_of n in
      by_members (Result b n) (λ c p x e. cc) f
      (pairs_alike at b pairs (returned_by flow n) (λ s has. (rows s.0 s.1).1 ((listed s.0 s.1).0 has)) f)
      (pairs_alike at b (returned_by flow n) pairs (λ s has. (listed s.0 s.1).1 ((rows s.0 s.1).0 has)) f)

  -- of a join
  join_exact : (b : Aspect) (p x : ℕ) (f : Form SetName) → Contains (lists_of t (Value b (Join p x))) f ↔ Rows (Value b (Join p x)) f
  unfolding point_of further_forms forms_beside
  join_exact b p x f = (there, back)
    where
      there : Contains (link_forms (links_seen t.versions p x) b) f → Rows (Value b (Join p x)) f
      there has =
          let r = map_from (link_form b) (links_seen t.versions p x) f has in
          let k = (links_law t.versions are.once p x (version_seen r.0)).0 (map_has version_seen (links_seen t.versions p x) r.0 r.1) in
          let row : Rows (Value b (Join p x)) (same_form (Value b (version_back (version_seen r.0)))) = RowBy.joined b p x (version_seen r.0) k in
          subst (λ (z : Form SetName). Rows (Value b (Join p x)) z) r.2 (subst (λ (w : SetVersion). Rows (Value b (Join p x)) (same_form (Value b w))) (back_seen r.0) row)

      link : (c : Aspect) (q y : ℕ) (v : PlainVersion) → linked q y v → ◌≡◌ {A = SetName} (Value b (Join p x)) (Value c (Join q y)) → Contains (link_forms (links_seen t.versions p x) b) (same_form (Value c (version_back v)))
      link c q y v k e =
          let aspects : b ≡ c = cc in
          let points : p ≡ q = cc in
          let slots : x ≡ y = cc in
          let here : linked p x v = subst (λ (z : ℕ). linked z x v) (sym points) (subst (λ (z : ℕ). linked q z v) (sym slots) k) in
          let r = map_from version_seen (links_seen t.versions p x) v ((links_law t.versions are.once p x v).1 here) in
          let version : r.0 ≡ version_back v = sym (back_seen r.0) ∙ ap version_back r.2 in
          subst (λ (z : Aspect). Contains (link_forms (links_seen t.versions p x) b) (same_form (Value z (version_back v)))) aspects
          (subst (λ (w : SetVersion). Contains (link_forms (links_seen t.versions p x) b) (same_form (Value b w))) version (map_has (link_form b) (links_seen t.versions p x) r.0 r.1))

      back : Rows (Value b (Join p x)) f → Contains (link_forms (links_seen t.versions p x) b) f
      back row = elim (row_is (Value b (Join p x)) f row) [
        | inl has ↦ absurd (none_in f has)
        | inr j ↦ subst (λ (z : Form SetName). Contains (link_forms (links_seen t.versions p x) b) z) (sym j.form) (link j.aspect j.point j.slot j.version j.link j.name)
      ]

  pub exact : (n : SetName) (f : Form SetName) → Contains (lists_of t n) f ↔ Rows n f
  unfolding point_of further_forms forms_beside
  exact (Value b (Point p)) f = by_equal (Value b (Point p)) (λ c q x e. cc) (point_lists (Value b (Point p)) p) f
  exact (Value b (Entry n y)) f = entry_exact b n y f
  exact (Value b (Join p x)) f = join_exact b p x f
  exact (Members h v) f = by_equal (Members h v) (λ c q x e. cc) (ap (λ (ks : List PlainKey). members_forms ks h v) are.told) f
  exact (Shown v) f = by_equal (Shown v) (λ c q x e. cc) refl f
  exact (Result b n) f = result_exact b n f
  exact (Input p) f = by_equal (Input p) (λ c q x e. cc) (point_lists (Input p) p) f
  exact (Output p) f = by_equal (Output p) (λ c q x e. cc) (point_lists (Output p) p) f
  exact (Joined p i) f = by_equal (Joined p i) (λ c q x e. cc) (point_lists (Joined p i) p) f
  exact (Piece p) f = by_equal (Piece p) (λ c q x e. cc) (point_lists (Piece p) p) f
  exact (FurtherPiece p) f = by_equal (FurtherPiece p) (λ c q x e. cc) (point_lists (FurtherPiece p) p) f
  exact (FurtherPieces p) f = by_equal (FurtherPieces p) (λ c q x e. cc) (point_lists (FurtherPieces p) p) f
  exact (Out p l) f = by_equal (Out p l) (λ c q x e. cc) (point_lists (Out p l) p) f
