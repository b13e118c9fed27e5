-- Nothing is stray exactly where the members of the request are those of an admitted one.
use Rattle.std.proofs.Common.{◌≡◌, ◌∙◌, ◌<◌, ◌≤◌, ◌^◌, ◌+◌, ◌%◌, ℕ, zero, suc, ℤ, pos, negsuc, Bool, true, false, ◌&&◌, ◌||◌, if◌then◌else◌, List, [], ◌∷◌, ◌++◌, Option, Some, None, refl, sym, ap, subst, arith, nat_eq, nat_lt}
use Rattle.std.specs.Prelude.{decimal}
use Rattle.std.specs.Fmt.{signed_decimal}
use Rattle.std.specs.Cmp.Lexicographic.{pointwise}
use Rattle.std.specs.List.{list_all}
use Rattle.std.specs.Option.{option_or}
use Rattle.std.specs.Str.{IsAscii}
use Rattle.std.proofs.lemmas.Bool.{and_parts, ltb-true}
use Rattle.std.proofs.lemmas.Bool.Decides.{nat_tests}
use Rattle.std.proofs.lemmas.Fmt.{decimal_by_steps, IsAscii-decimal}
use Rattle.std.proofs.lemmas.List.Folds.{list_all-append}
use Rattle.std.proofs.lemmas.Str.{chars-IsAscii, IsUtf8-from_ascii}
use Rattle.std.proofs.lemmas.Str.Ascii.{IsAscii-nil}
use Rattle.text_base.specs.Exactness.{exact_bytes}
use Rattle.xml_text.specs.Characters.{is_character}
use Rattle.xml_text.specs.Texts.{IsText}
use Rattle.plain_values.specs.Plain.{Plain, Pairs, pair}
use Rattle.plain_values.specs.Keys.{canonical_integer, canonical_key}
use Rattle.plain_values.specs.Numeric.{is_in_range}
use Rattle.function_laws.proofs.Arrays.{canonical_range}
use Rattle.script_meaning.specs.Requests.{PlainRequest, IsMember, AreMembers}
use Rattle.serde_json.specs.Data.{Data, boolean, number, string, object, Items, no_items, item, Members, no_members, member}
use Rattle.serde_json.specs.Data as json
use Rattle.serde_json.specs.Find.{get}
use Rattle.request_reading.specs.Names.{get_name, post_name, cookie_name, request_name, server_name, is_array_name}
use Rattle.request_reading.specs.RequestFile.{name_key, value_of, places_of, members_of, members_in, asked_request, is_member, is_object, are_arrays, is_request}
use Rattle.request_reading.specs.Admission.{is_text, below, stray_in, stray_item, stray_member, stray_array, stray_path}
use Rattle.request_reading.specs.Outcome.{not_request, not_admitted, stands_for, parsed, admission, outcome_of, outcome}
use Rattle.request_reading.specs.Laws.{HasMembers, HasForm, GoesByMembers}
use Rattle.request_reading.proofs.AdmittedLemmas.{IsArray, array_found, names_admitted}
use Rattle.request_reading.proofs.TextLemmas.{is_the_text}
use Rattle.plain_values.proofs.CanonicalLemmas.{spelled}
use Rattle.request_reading.proofs.OrderLemmas.{AreFound, all_found, parsed_ordered, parsed_nests}

-- the decimal form of an integer is a text
are_characters : (n : ℕ) → n < 2 ^ 64 → list_all is_character (decimal n) ≡ true
are_characters = decimal_by_steps (λ n ds. list_all is_character ds ≡ true) one_digit more_digits
  where
    digit_is : (k : ℕ) → k < 10 → is_character (48 + k) ≡ true
    digit_is k h = grind (arith, nat_tests, h)

    one_digit : (n : ℕ) → n < 10 → list_all is_character ((48 + n) ∷ []) ≡ true
    one_digit n h = ap (λ b. b && true) (digit_is n h)

    more_digits : (n : ℕ) (ds : List ℕ) → 10 ≤ n → list_all is_character ds ≡ true → list_all is_character (ds ++ (48 + n % 10) ∷ []) ≡ true
    more_digits n ds l h =
        list_all-append is_character ds ((48 + n % 10) ∷ []) ∙ ap (λ b. b && (is_character (48 + n % 10) && true)) h ∙ ap (λ b. b && true) (digit_is (n % 10) (omega arith))

text_of_ascii : (t : List ℕ) → IsAscii t → list_all is_character t ≡ true → IsText t
text_of_ascii t a h = record { utf8 = IsUtf8-from_ascii t a; characters = ap (list_all is_character) (chars-IsAscii t a) ∙ h }

more_ascii : (b : ℕ) (t : List ℕ) → b < 128 → IsAscii t → IsAscii (b ∷ t)
more_ascii b t h a zero = h
more_ascii b t h a (suc i) = a i

are_ascii : (t : List ℕ) → list_all (λ b. nat_lt b 128) t ≡ true → IsAscii t
are_ascii [] h = IsAscii-nil
are_ascii (b ∷ t) h = let parts = and_parts (nat_lt b 128) (list_all (λ b. nat_lt b 128) t) h in more_ascii b t (ltb-true b 128 parts.0) (are_ascii t parts.1)

-- a word of ASCII is one
word_text : (t : List ℕ) → list_all (λ b. nat_lt b 128) t ≡ true → list_all is_character t ≡ true → is_text t ≡ true
word_text t a h = is_the_text t (text_of_ascii t (are_ascii t a) h)

integer_text : (z : ℤ) → is_in_range z ≡ true → IsText (signed_decimal z)
integer_text (pos n) h = let l = ltb-true n (2 ^ 63) h in text_of_ascii (decimal n) (IsAscii-decimal n (omega (arith, l))) (are_characters n (omega (arith, l)))
integer_text (negsuc n) h =
    let l = ltb-true n (2 ^ 63) h in
    text_of_ascii (45 ∷ decimal (suc n)) (more_ascii 45 (decimal (suc n)) (omega arith) (IsAscii-decimal (suc n) (omega (arith, l)))) (are_characters (suc n) (omega (arith, l)))

-- the name of a member that is admitted is a text
record IsPair (name : List ℕ) (v : Plain) (ps : Pairs) : Type 0 where
  text : is_text name ≡ true
  value : IsMember v
  rest : AreMembers ps

pair_parts : (name : List ℕ) (v : Plain) (ps : Pairs) → AreMembers (pair (name_key name) v ps) → IsPair name v ps
unfolding AreMembers
pair_parts name v ps h = by (canonical_integer name) refl h
  where
    by : (o : Option ℤ) → canonical_integer name ≡ o → AreMembers (pair (canonical_key name o) v ps) → IsPair name v ps
    by None e (t, m, ms) = record { text = is_the_text name t; value = m; rest = ms }
    by (Some z) e (m, ms) =
        record { text = is_the_text name (subst IsText (spelled name z e) (integer_text z (canonical_range name z e))); value = m; rest = ms }

not_stray : (b : Bool) (p : List ℕ) → b ≡ true → (if b then None else Some p) ≡ None
not_stray b p e = ap (λ c. if c then None else Some p) e

not_either : (b : Bool) (p : List ℕ) (o r : Option (List ℕ)) → b ≡ true → o ≡ None → r ≡ None → (if b then option_or o r else Some p) ≡ None
not_either b p o r e f g = ap (λ c. if c then option_or o r else Some p) e ∙ ap (λ x. option_or x r) f ∙ g

mutual
  unfolding AreMembers

  value_free : (p : List ℕ) (d : Data) → IsMember (value_of d) → stray_in p d ≡ None
  value_free p json.null m = refl
  value_free p (boolean b) m = refl
  value_free p (number n) m = refl
  value_free p (string s) m = not_stray (is_text s) p (is_the_text s m)
  value_free p (json.array ds) m = items_free p 0 ds m
  value_free p (object ms) m = names_free p ms m

  items_free : (p : List ℕ) (n : ℕ) (ds : Items) → AreMembers (places_of n ds) → stray_item p n ds ≡ None
  items_free p n no_items m = refl
  items_free p n (item d ds) (first, rest) =
      ap (λ x. option_or x (stray_item p (suc n) ds)) (value_free (below p (decimal n)) d first) ∙ items_free p (suc n) ds rest

  names_free : (p : List ℕ) (ms : Members) → AreMembers (members_of ms) → stray_member p ms ≡ None
  names_free p no_members m = refl
  names_free p (member name d ms) m =
      let parts = pair_parts name (value_of d) (members_of ms) m in
      not_either (is_text name) (below p name) (stray_in (below p name) d) (stray_member p ms) parts.text (value_free (below p name) d parts.value) (names_free p ms parts.rest)

-- what stands under one of the five names
record IsHere (all : Data) (name : List ℕ) : Type 0 where
  text : is_text name ≡ true
  members : AreMembers (members_in (get name all))

one_name : (all : Data) (name own : List ℕ) → is_text own ≡ true → AreMembers (members_in (get own all)) → pointwise nat_eq name own ≡ true → IsHere all name
one_name all name own t m e = subst (IsHere all) (sym (exact_bytes name own e)) (record { text = t; members = m })

either : (a b : Bool) (P : Type 0) → (a ≡ true → P) → (b ≡ true → P) → (a || b) ≡ true → P
either true b P f g e = f refl
either false b P f g e = g e

here : (all : Data) (name : List ℕ) → HasMembers (asked_request all) → is_array_name name ≡ true → IsHere all name
here all name h e =
    either _ (pointwise nat_eq name server_name) (IsHere all name)
    (either _ (pointwise nat_eq name request_name) (IsHere all name)
    (either _ (pointwise nat_eq name cookie_name) (IsHere all name)
    (either (pointwise nat_eq name get_name) (pointwise nat_eq name post_name) (IsHere all name)
    (one_name all name get_name (word_text get_name refl refl) h.get)
    (one_name all name post_name (word_text post_name refl refl) h.post))
    (one_name all name cookie_name (word_text cookie_name refl refl) h.cookie))
    (one_name all name request_name (word_text request_name refl refl) h.request))
    (one_name all name server_name (word_text server_name refl refl) h.server) e

-- an object among the arrays
object_free : (p : List ℕ) (d : Data) → is_object d ≡ true → AreMembers (members_in (Some d)) → stray_in p d ≡ None
object_free p json.null h m = absurd cc
object_free p (boolean b) h m = absurd cc
object_free p (number n) h m = absurd cc
object_free p (string s) h m = absurd cc
object_free p (json.array ds) h m = absurd cc
object_free p (object ms) h m = names_free p ms m

arrays_free : (all ms : Members) → HasMembers (asked_request (object all)) → are_arrays ms ≡ true → AreFound all ms → stray_array ms ≡ None
arrays_free all no_members h f found = refl
arrays_free all (member name d ms) h f (is, more) =
    let form = and_parts (is_array_name name) (is_object d && (is_member d && are_arrays ms)) f in
    let inner = and_parts (is_object d) (is_member d && are_arrays ms) form.1 in
    let rest = and_parts (is_member d) (are_arrays ms) inner.1 in
    let own = here (object all) name h form.0 in
    not_either (is_text name) name (stray_in name d) (stray_array ms) own.text
    (object_free name d inner.0 (subst (λ o. AreMembers (members_in o)) is own.members)) (arrays_free all ms h rest.1 more)

-- where no name or text is stray, what stands under a name is of such members
free_array : (r : Data) (name : List ℕ) → is_request r ≡ true → stray_path r ≡ None → json.depth r ≤ 127 → AreMembers (members_in (get name r))
unfolding AreMembers
free_array r name h g n = by (get name r) refl
  where
    of_object : (d : Data) → IsArray 126 d → AreMembers (members_in (Some d))
    of_object json.null a = tt
    of_object (boolean b) a = tt
    of_object (number x) a = tt
    of_object (string s) a = tt
    of_object (json.array ds) a = tt
    of_object (object ms) a = names_admitted a.path ms a.form a.free

    by : (o : Option Data) → get name r ≡ o → AreMembers (members_in o)
    by None e = tt
    by (Some d) e = of_object d (array_found r name d h g n e)

free_members : (r : Data) → is_request r ≡ true → stray_path r ≡ None → json.depth r ≤ 127 → HasMembers (asked_request r)
free_members r h g n = record {
  get = free_array r get_name h g n;
  post = free_array r post_name h g n;
  cookie = free_array r cookie_name h g n;
  request = free_array r request_name h g n;
  server = free_array r server_name h g n;
}

path_free : (file : List ℕ) (r : Data) → parsed file ≡ Some r → is_request r ≡ true → HasMembers (asked_request r) → stray_path r ≡ None
path_free file json.null e h m = refl
path_free file (boolean b) e h m = refl
path_free file (number x) e h m = refl
path_free file (string s) e h m = refl
path_free file (json.array ds) e h m = refl
path_free file (object ms) e h m = arrays_free ms ms m h (all_found ms (parsed_ordered file ms e))

-- which outcome a value has
formed : (file : List ℕ) (d : Data) → parsed file ≡ Some d → is_request d ≡ true → outcome file ≡ admission d (stray_path d)
formed file d is form = ap outcome_of is ∙ ap (λ b. if b then admission d (stray_path d) else not_request) form

stands_so : (file : List ℕ) (r : PlainRequest) → outcome file ≡ stands_for r → HasForm file r × HasMembers r
stands_so file r e = by (parsed file) refl e
  where
    by_path : (d : Data) → parsed file ≡ Some d → is_request d ≡ true → (o : Option (List ℕ)) → stray_path d ≡ o → admission d o ≡ stands_for r → HasForm file r × HasMembers r
    by_path d is form (Some path) g e = absurd cc
    by_path d is form None g e =
        let same : r ≡ asked_request d = cc in
        (record { value = d; is_value = is; form = form; is = same }, subst HasMembers (sym same) (free_members d form g (parsed_nests file d is)))

    by_form : (d : Data) → parsed file ≡ Some d → (b : Bool) → is_request d ≡ b → (if b then admission d (stray_path d) else not_request) ≡ stands_for r → HasForm file r × HasMembers r
    by_form d is true form e = by_path d is form (stray_path d) refl e
    by_form d is false form e = absurd cc

    by : (o : Option Data) → parsed file ≡ o → outcome_of o ≡ stands_for r → HasForm file r × HasMembers r
    by None is e = absurd cc
    by (Some d) is e = by_form d is (is_request d) refl e

strays_so : (file path : List ℕ) → outcome file ≡ not_admitted path → (r : PlainRequest) × HasForm file r × (HasMembers r → ⊥)
strays_so file path e = by (parsed file) refl e
  where
    by_path : (d : Data) → parsed file ≡ Some d → is_request d ≡ true → (o : Option (List ℕ)) → stray_path d ≡ o → admission d o ≡ not_admitted path
        → (r : PlainRequest) × HasForm file r × (HasMembers r → ⊥)
    by_path d is form None g e = absurd cc
    by_path d is form (Some own) g e = (
      asked_request d,
      record { value = d; is_value = is; form = form; is = refl },
      λ m. let none : None ≡ Some own = sym (path_free file d is form m) ∙ g in cc,
    )

    by_form : (d : Data) → parsed file ≡ Some d → (b : Bool) → is_request d ≡ b → (if b then admission d (stray_path d) else not_request) ≡ not_admitted path
        → (r : PlainRequest) × HasForm file r × (HasMembers r → ⊥)
    by_form d is true form e = by_path d is form (stray_path d) refl e
    by_form d is false form e = absurd cc

    by : (o : Option Data) → parsed file ≡ o → outcome_of o ≡ not_admitted path → (r : PlainRequest) × HasForm file r × (HasMembers r → ⊥)
    by None is e = absurd cc
    by (Some d) is e = by_form d is (is_request d) refl e

named_path : (file : List ℕ) (r : PlainRequest) → HasForm file r → (HasMembers r → ⊥) → (path : List ℕ) × (outcome file ≡ not_admitted path)
named_path file r h none = by (stray_path h.value) refl
  where
    by : (o : Option (List ℕ)) → stray_path h.value ≡ o → (path : List ℕ) × (outcome file ≡ not_admitted path)
    by None g = absurd (none (subst HasMembers (sym h.is) (free_members h.value h.form g (parsed_nests file h.value h.is_value))))
    by (Some path) g = (path, formed file h.value h.is_value h.form ∙ ap (admission h.value) g)

pub goes_by_members : GoesByMembers
goes_by_members = record {
  stands = λ file r. (
    stands_so file r,
    λ (h, m).
        formed file h.value h.is_value h.form ∙ ap (admission h.value) (path_free file h.value h.is_value h.form (subst HasMembers h.is m)) ∙ ap stands_for (sym h.is),
  );
  strays = λ file. (λ (path, e). strays_so file path e, λ (r, h, none). named_path file r h none);
}
