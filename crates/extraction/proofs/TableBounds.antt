-- How many forms the tables of a program list for all its names, and how many bytes stand in them.
use Rattle.std.proofs.Common.{◌≡◌, ◌≤◌, ◌+◌, ◌*◌, ℕ, List, [], ◌∷◌, Option, Some, None, refl, sym, subst, ap, ◌∙◌, arith, slice_get, length}
use Rattle.std.specs.Prelude.{flat_map}
use Rattle.std.specs.List.{count_by}
use Rattle.std.specs.Option.{option_map}
use Rattle.std.proofs.lemmas.List.{length-map, length-append}
use Rattle.std.proofs.lemmas.Option.{slice_get-map}
use Rattle.std.specs.declared.vec.Vec.{Vec}
use Rattle.std.specs.declared.alloc.Global.{Global}
use Rattle.plain_values.specs.Plain.{PlainKey}
use Rattle.flow_code.specs.Points.{PlainPoint, PlainFlowFunction, points_in}
use Rattle.loose_sets.specs.Keys.{told_keys}
use Rattle.ssa_form.specs.Versions.{joined_by}
use Rattle.flow_graph.specs.Returned.{returned_pairs}
use Rattle.flow_graph.specs.Handed.{Handing, has_key}
use Rattle.flow_graph.specs.Found.{number_in, items_of, places_of, pair_of, pair_at}
use Rattle.flow_graph.proofs.FoundLemmas.{number_is}
use Rattle.flow_graph.specs.Tables.{pairs_seen}
use Rattle.flow_graph.specs.Rows.{points_seen}
use Rattle.point_listing.specs.Views.{keys_seen}
use Rattle.point_listing.specs.Links.{links_seen}
use Rattle.loose_sets.specs.Uses.{version_back}
use Rattle.loose_sets.specs.declared.name.Half.{Half}
use Rattle.loose_sets.specs.declared.name.Aspect.{Aspect}
use Rattle.loose_sets.specs.declared.name.SetVersion.{SetVersion}
use Rattle.loose_sets.specs.declared.name.SetVersion.TheVariants.{Point}
use Rattle.loose_sets.specs.declared.name.Leaving.{Leaving}
use Rattle.loose_sets.specs.declared.name.SetName.{SetName}
use Rattle.loose_sets.specs.declared.name.SetName.TheVariants.{Value, Members, Shown, Result, Input, Output, Joined, Piece, FurtherPiece, FurtherPieces, Out}
use Rattle.loose_sets.specs.Arrays.{Forms}
use Rattle.loose_sets.specs.Points.{source_at, joined_slots, imploded_slots, operation_of}
use Rattle.loose_sets.specs.Functions.{used_pairs}
use Rattle.loose_sets.specs.Table.{point_of, forms_from, forms_there}
use Rattle.extraction.specs.declared.tables.FlowTables.{FlowTables}
use Rattle.extraction.specs.Params.{is_null}
use Rattle.extraction.specs.Tables.{flow_of, functions_of, AreTables, at_in, pairs_or_none, handed_in, further_forms, lists_from, lists_of}
use Rattle.extraction.specs.Sizes.{point_bytes, point_parts}
use Rattle.extraction.proofs.Counts.{returned_length}
use Rattle.extraction.proofs.Fits.{Fits, value_fits, input_fits, output_fits, joined_fits, piece_fits, further_fits, any_further_fits, out_fits, members_fits, shown_fits, links_fits, pairs_fits, entry_fits}
use Rattle.extraction.proofs.Universe as universe

-- how many bytes stand in a point, if there is the point
abbrev pub bytes_at : Option PlainPoint → ℕ
bytes_at None = 0
bytes_at (Some k) = point_bytes k

-- the pairs of the items at places
pairs_few : (all : List Handing) (is : List ℕ) → length (flat_map (pair_at all) is) ≤ length is
pairs_few all [] = omega arith
pairs_few all (i ∷ is) = let a = length-append (pair_at all i) (flat_map (pair_at all) is) in let b = pairs_few all is in let c = few (slice_get all i) in omega (arith, a, b, c)
  where
    few : (o : Option Handing) → length (pair_of o) ≤ 1
    few None = omega arith
    few (Some h) = omega arith

module _ (t : FlowTables) (are : AreTables t) where
  abbrev fs : List PlainFlowFunction
  fs = functions_of t

  abbrev points : List PlainPoint
  points = points_in fs

  abbrev told : List PlainKey
  told = keys_seen t.told.items

  abbrev all : List Handing
  all = t.handed.all.items

  -- the list of a set that belongs to a point
  listed : (n : SetName) (p : ℕ) (k : PlainPoint) → point_of n ≡ Some p → slice_get points p ≡ Some k → lists_of t n ≡ forms_from told fs (at_in t) n k
  listed n p k e there =
      ap (lists_from t n) e
      ∙ ap (λ (o : Option PlainPoint). forms_there (forms_from told fs (at_in t) n) o) (ap (λ (ks : List PlainPoint). slice_get ks p) are.points ∙ there)

  pub past : (n : SetName) (p : ℕ) → point_of n ≡ Some p → slice_get points p ≡ None → lists_of t n ≡ []
  past n p e there =
      ap (lists_from t n) e
      ∙ ap (λ (o : Option PlainPoint). forms_there (forms_from told fs (at_in t) n) o) (ap (λ (ks : List PlainPoint). slice_get ks p) are.points ∙ there)

  -- whatever stands at the point
  anywhere : (l d : ℕ) (n : SetName) (p : ℕ) → point_of n ≡ Some p → ((k : PlainPoint) → slice_get points p ≡ Some k → Fits l d (forms_from told fs (at_in t) n k)) → Fits l d (lists_of t n)
  anywhere l d n p e fits = by (slice_get points p) refl
    where
      by : (o : Option PlainPoint) → slice_get points p ≡ o → Fits l d (lists_of t n)
      by None there = subst (λ (forms : Forms). Fits l d forms) (sym (past n p e there)) (omega arith, omega arith)
      by (Some k) there = subst (λ (forms : Forms). Fits l d forms) (sym (listed n p k e there)) (fits k there)

  pub at_point : (b : Aspect) (p : ℕ) (k : PlainPoint) → slice_get points p ≡ Some k → Fits (4 + 3 * point_parts k) (1 + point_parts k + point_bytes k) (lists_of t (Value b (Point p)))
  unfolding point_of forms_from
  at_point b p k there = subst (λ (forms : Forms). Fits (4 + 3 * point_parts k) (1 + point_parts k + point_bytes k) forms) (sym (listed (Value b (Point p)) p k refl there)) (value_fits told (at_in t) p k b)

  -- what is handed in for a slot is no more than the items of its key
  handed_few : (n y : ℕ) → length (handed_in t n y) ≤ count_by (has_key (n, y)) all
  handed_few n y = let a = pairs_few all (places_of t.handed.groups.places.items (number_in t.handed.groups.keys.keys n y)) in let b = by (number_in t.handed.groups.keys.keys n y) refl in omega (arith, a, b)
    where
      by : (o : Option ℕ) → number_in t.handed.groups.keys.keys n y ≡ o → length (places_of t.handed.groups.places.items o) ≤ count_by (has_key (n, y)) all
      by None e = omega arith
      by (Some i) e = at (slice_get t.handed.groups.places.items i) refl
        where
          at : (v : Option (Vec ℕ Global)) → slice_get t.handed.groups.places.items i ≡ v → length (items_of v) ≤ count_by (has_key (n, y)) all
          at None there = omega arith
          at (Some v) there = are.groups.few i v (n, y) there (number_is t.handed.groups.keys.keys (n, y) i e)

  pub at_entry : (b : Aspect) (k : ℕ × ℕ) → Fits (count_by (has_key k) all + 1) 0 (lists_of t (Value b (universe.entry_of k)))
  unfolding point_of further_forms
  at_entry b k =
      let a = entry_fits (at_in t) (handed_in t k.0 k.1) (is_null fs t.params.keys k.0 k.1) b in
      let c = handed_few k.0 k.1 in
      (let d = a.0 in omega (arith, c, d), a.1)

  pub at_join : (b : Aspect) (k : ℕ × ℕ) → Fits (length (joined_by t.versions k.0 k.1)) 0 (lists_of t (Value b (universe.join_of k)))
  unfolding point_of further_forms
  at_join b k =
      let a = links_fits (links_seen t.versions k.0 k.1) b in
      let c = length-map (joined_by t.versions k.0 k.1) version_back in
      (let d = a.0 in omega (arith, c, d), a.1)

  abbrev keys : ℕ
  keys = length (told_keys (flow_of t))

  pub of_members : (h : Half) (v : SetVersion) → Fits (keys + 1) 0 (lists_of t (Members h v))
  unfolding point_of further_forms
  of_members h v =
      let a = members_fits told h v in
      let b = ap (λ (ks : List PlainKey). length ks) are.told in
      (let c = a.0 in omega (arith, b, c), a.1)

  pub of_shown : (v : SetVersion) → Fits 2 5 (lists_of t (Shown v))
  unfolding point_of further_forms
  of_shown v = shown_fits v

  -- what a function returns
  abbrev pub returned : ℕ → List (ℕ × ℕ)
  returned n = pairs_or_none (slice_get (pairs_seen t.returned.items) n)

  pub of_result : (b : Aspect) (n : ℕ) → Fits (length (returned n)) 0 (lists_of t (Result b n))
  unfolding point_of further_forms
  of_result b n = pairs_fits (at_in t) (returned n) b

  returned_is : (n : ℕ) (o : Option PlainFlowFunction) → slice_get fs n ≡ o → returned n ≡ pairs_or_none (option_map (returned_pairs (points_seen t.row)) o)
  returned_is n o e =
      ap (λ (ls : List (List (ℕ × ℕ))). pairs_or_none (slice_get ls n)) are.returned
      ∙ ap pairs_or_none (slice_get-map (returned_pairs (points_seen t.row)) fs n ∙ ap (option_map (returned_pairs (points_seen t.row))) e)

  pub returned_few : (n : ℕ) (g : PlainFlowFunction) → slice_get fs n ≡ Some g → length (returned n) ≤ length g.points_of
  returned_few n g e = let a = ap (λ (ps : List (ℕ × ℕ)). length ps) (returned_is n (Some g) e) in let b = returned_length (points_seen t.row) g.first_point_of (length g.points_of) in omega (arith, a, b)

  pub result_past : (b : Aspect) (n : ℕ) → slice_get fs n ≡ None → lists_of t (Result b n) ≡ []
  unfolding point_of further_forms
  result_past b n e = ap (λ (ps : List (ℕ × ℕ)). used_pairs (at_in t) ps b) (returned_is n None e)

  -- of a point
  pub of_input : (p : ℕ) → Fits 2 0 (lists_of t (Input p))
  unfolding point_of forms_from
  of_input p = anywhere 2 0 (Input p) p refl (λ k there. input_fits (at_in t) p (source_at k))

  pub of_output : (p : ℕ) → Fits 1 0 (lists_of t (Output p))
  unfolding point_of forms_from
  of_output p = anywhere 1 0 (Output p) p refl (λ k there. output_fits p (operation_of (source_at k)))

  pub of_joined : (p i : ℕ) → Fits 1 0 (lists_of t (Joined p i))
  unfolding point_of forms_from
  of_joined p i = anywhere 1 0 (Joined p i) p refl (λ k there. joined_fits (at_in t) p (joined_slots (source_at k)) i)

  pub of_piece : (p : ℕ) → Fits 2 5 (lists_of t (Piece p))
  unfolding point_of forms_from
  of_piece p = anywhere 2 5 (Piece p) p refl (λ k there. piece_fits (at_in t) p (imploded_slots (source_at k)))

  pub of_further : (p : ℕ) → Fits 1 0 (lists_of t (FurtherPiece p))
  unfolding point_of forms_from
  of_further p = anywhere 1 0 (FurtherPiece p) p refl (λ k there. further_fits (at_in t) p (imploded_slots (source_at k)))

  pub of_any_further : (p : ℕ) → Fits 2 0 (lists_of t (FurtherPieces p))
  unfolding point_of forms_from
  of_any_further p = anywhere 2 0 (FurtherPieces p) p refl (λ k there. any_further_fits p (imploded_slots (source_at k)))

  pub of_out : (p : ℕ) (l : Leaving) → Fits 2 (bytes_at (slice_get points p)) (lists_of t (Out p l))
  unfolding point_of forms_from
  of_out p l =
      anywhere 2 (bytes_at (slice_get points p)) (Out p l) p refl
      (λ k there. subst (λ (o : Option PlainPoint). Fits 2 (bytes_at o) (forms_from told fs (at_in t) (Out p l) k)) (sym there) (out_fits fs (at_in t) p k l))
