-- Where no text or name is stray, the arrays are admitted.
use Rattle.std.proofs.Common.{◌≡◌, ◌≤◌, ℕ, suc, ℤ, Bool, true, false, ◌&&◌, if◌then◌else◌, List, Option, Some, None, Ordering, Less, Equal, Greater, refl, sym, subst, arith}
use Rattle.std.specs.Prelude.{decimal}
use Rattle.std.specs.Cmp.Lexicographic.{slice_cmp}
use Rattle.std.specs.Option.{option_or}
use Rattle.std.specs.Ordering.{nat_cmp, match_ordering}
use Rattle.std.proofs.lemmas.Bool.{and_parts}
use Rattle.xml_text.specs.Texts.{IsText}
use Rattle.plain_values.specs.Plain.{Plain, Pairs, array, empty, pair}
use Rattle.plain_values.specs.Keys.{canonical_integer, canonical_key}
use Rattle.plain_values.specs.Lawful.{HasValues}
use Rattle.script_meaning.specs.Requests.{IsMember, AreMembers, IsAdmitted}
use Rattle.serde_json.specs.Data.{Data, boolean, number, string, object, Items, no_items, item, Members, no_members, member, members_depth}
use Rattle.serde_json.specs.Data as json
use Rattle.serde_json.specs.Find.{get, get_member}
use Rattle.request_reading.specs.Names.{is_array_name}
use Rattle.request_reading.specs.RequestFile.{name_key, value_of, places_of, members_of, members_in, fits_text, is_member, are_items, are_members, is_object, are_arrays, is_request}
use Rattle.request_reading.specs.Admission.{is_text, below, stray_in, stray_item, stray_member, stray_array, stray_path}
use Rattle.request_reading.proofs.TextLemmas.{text_is}
use Rattle.request_reading.proofs.ArrayLemmas.{shallow_members}

text_unless : (b : Bool) (p : List ℕ) → (if b then None else Some p) ≡ None → b ≡ true
text_unless true p h = refl
text_unless false p h = cc

neither : (o r : Option (List ℕ)) → option_or o r ≡ None → (o ≡ None) × (r ≡ None)
neither None r h = (refl, h)
neither (Some p) r h = cc

text_and : (b : Bool) (p : List ℕ) (o r : Option (List ℕ)) → (if b then option_or o r else Some p) ≡ None → (b ≡ true) × (o ≡ None) × (r ≡ None)
text_and true p o r h = let parts = neither o r h in (refl, parts.0, parts.1)
text_and false p o r h = cc

under_key : (name : List ℕ) (v : Plain) (ps : Pairs) → IsText name → IsMember v → AreMembers ps → AreMembers (pair (name_key name) v ps)
unfolding AreMembers
under_key name v ps t m ms = by (canonical_integer name)
  where
    by : (o : Option ℤ) → AreMembers (pair (canonical_key name o) v ps)
    by None = (t, m, ms)
    by (Some z) = (m, ms)

mutual
  unfolding AreMembers

  members_admitted : (p : List ℕ) (d : Data) → is_member d ≡ true → stray_in p d ≡ None → IsMember (value_of d)
  members_admitted p json.null h g = cc
  members_admitted p (boolean b) h g = cc
  members_admitted p (number n) h g = cc
  members_admitted p (string s) h g = text_is s (text_unless (is_text s) p g)
  members_admitted p (json.array ds) h g = items_admitted p 0 ds h g
  members_admitted p (object ms) h g = names_admitted p ms h g

  items_admitted : (p : List ℕ) (n : ℕ) (ds : Items) → are_items ds ≡ true → stray_item p n ds ≡ None → AreMembers (places_of n ds)
  items_admitted p n no_items h g = tt
  items_admitted p n (item d ds) h g =
      let form = and_parts (is_member d) (are_items ds) h in
      let free = neither (stray_in (below p (decimal n)) d) (stray_item p (suc n) ds) g in
      (members_admitted (below p (decimal n)) d form.0 free.0, items_admitted p (suc n) ds form.1 free.1)

  pub names_admitted : (p : List ℕ) (ms : Members) → are_members ms ≡ true → stray_member p ms ≡ None → AreMembers (members_of ms)
  names_admitted p no_members h g = tt
  names_admitted p (member name d ms) h g =
      let form = and_parts (fits_text name) (is_member d && are_members ms) h in
      let more = and_parts (is_member d) (are_members ms) form.1 in
      let free = text_and (is_text name) (below p name) (stray_in (below p name) d) (stray_member p ms) g in
      under_key name (value_of d) (members_of ms) (text_is name free.0) (members_admitted (below p name) d more.0 free.1) (names_admitted p ms more.1 free.2)

-- an object under one of the names of a request
pub record IsArray (nests : ℕ) (d : Data) : Type 0 where
  pub form : is_member d ≡ true
  pub path : List ℕ
  pub free : stray_in path d ≡ None
  pub low : json.depth d ≤ nests

found_at : (name : List ℕ) (ms : Members) (d : Data) → get_member name ms ≡ Some d → are_arrays ms ≡ true → stray_array ms ≡ None → IsArray (members_depth ms) d
found_at name no_members d e h g = cc
found_at name (member n first ms) d e h g =
    let form = and_parts (is_array_name n) (is_object first && (is_member first && are_arrays ms)) h in
    let more = and_parts (is_object first) (is_member first && are_arrays ms) form.1 in
    let last = and_parts (is_member first) (are_arrays ms) more.1 in
    let free = text_and (is_text n) n (stray_in n first) (stray_array ms) g in
    by (slice_cmp nat_cmp name n) last.0 free.1 (λ later. found_at name ms d later last.1 free.2) e
  where
    lower : IsArray (members_depth ms) d → IsArray (members_depth (member n first ms)) d
    lower a = record { form = a.form; path = a.path; free = a.free; low = omega (arith, a.low) }

    here : is_member first ≡ true → stray_in n first ≡ None → Some first ≡ Some d → IsArray (members_depth (member n first ms)) d
    here f s i =
        let is : first ≡ d = cc in
        subst (IsArray (members_depth (member n first ms))) is (record { form = f; path = n; free = s; low = omega arith })

    by : (o : Ordering) → is_member first ≡ true → stray_in n first ≡ None → (get_member name ms ≡ Some d → IsArray (members_depth ms) d) → match_ordering o (get_member name ms) (Some first) (get_member name ms) ≡ Some d → IsArray (members_depth (member n first ms)) d
    by Less f s rest i = lower (rest i)
    by Equal f s rest i = here f s i
    by Greater f s rest i = lower (rest i)

-- what stands under a name of a request
pub array_found : (r : Data) (name : List ℕ) (d : Data) → is_request r ≡ true → stray_path r ≡ None → json.depth r ≤ 127 → get name r ≡ Some d → IsArray 126 d
array_found json.null name d h g n e = cc
array_found (boolean b) name d h g n e = cc
array_found (number x) name d h g n e = cc
array_found (string s) name d h g n e = cc
array_found (json.array ds) name d h g n e = cc
array_found (object all) name d h g n e = let a = found_at name all d e h g in record { form = a.form; path = a.path; free = a.free; low = omega (arith, a.low, n) }

none_admitted : IsAdmitted empty
unfolding AreMembers
none_admitted = record { value = record { parts = (refl, tt); shallow = omega arith }; members_are = tt }

object_admitted : (d : Data) → IsArray 126 d → HasValues (array (members_in (Some d))) → IsAdmitted (members_in (Some d))
object_admitted json.null a has = none_admitted
object_admitted (boolean b) a has = none_admitted
object_admitted (number x) a has = none_admitted
object_admitted (string s) a has = none_admitted
object_admitted (json.array ds) a has = none_admitted
object_admitted (object ms) a has = record {
  value = record { parts = has; shallow = omega (arith, shallow_members ms, a.low) };
  members_are = names_admitted a.path ms a.form a.free;
}

-- an array of a request in which nothing is stray
pub array_admitted : (r : Data) (name : List ℕ) (ps : Pairs) → is_request r ≡ true → stray_path r ≡ None → json.depth r ≤ 127 → ps ≡ members_in (get name r) → HasValues (array ps) → IsAdmitted ps
array_admitted r name ps h g n is has = subst IsAdmitted (sym is) (by (get name r) refl (subst (λ qs. HasValues (array qs)) is has))
  where
    by : (o : Option Data) → get name r ≡ o → HasValues (array (members_in o)) → IsAdmitted (members_in o)
    by None e i = none_admitted
    by (Some d) e i = object_admitted d (array_found r name d h g n e) i
