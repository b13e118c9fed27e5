-- Values of request files, and what they are. The values are those that `serde_json` reads of the texts beside them.
use Rattle.std.proofs.Common.{◌≡◌, refl, [], ◌∷◌, ◌++◌, codes, Some, None, pos, true, false}
use Rattle.std.specs.Fmt.{digits}
use Rattle.std.specs.Str.{is_utf8, chars}
use lib.Utf8.{encode}
use Rattle.plain_values.specs.Plain.{Pairs, empty, pair, int_key, text_key, text, array}
use Rattle.script_meaning.specs.Requests.{PlainRequest}
use Rattle.serde_json.specs.Data.{Data, Members, number, unsigned, string, item, no_items, member, no_members}
use Rattle.serde_json.specs.Data as json
use Rattle.request_reading.specs.RequestFile.{name_key, value_of, asked_request, is_request}
use Rattle.request_reading.specs.Admission.{stray_path}
use Rattle.request_reading.specs.Outcome.{outcome_of, not_json, not_request, not_admitted, stands_for}

-- {"get":{..}}
abbrev get_alone : Members → Data
get_alone ms = json.object (member (codes "get") (json.object ms) no_members)

abbrev only_get : Pairs → PlainRequest
only_get ps = record { get_of = ps; post_of = empty; cookie_of = empty; request_of = empty; server_of = empty }

-- no JSON
no_value : outcome_of None ≡ not_json
no_value = refl

-- []
a_list : outcome_of (Some (json.array no_items)) ≡ not_request
a_list = refl

-- {}
nothing : asked_request (json.object no_members) ≡ only_get empty
nothing = refl

-- {"get":{"a":"x<"}}
a_text : asked_request (get_alone (member (codes "a") (string (codes "x<")) no_members)) ≡ only_get (pair (text_key (codes "a")) (text (codes "x<")) empty)
unfolding digits
a_text = refl

-- {"get":{"a":1}}
a_number : is_request (get_alone (member (codes "a") (number (unsigned 1)) no_members)) ≡ false
a_number = refl

-- {"gets":{}}
another_name : is_request (json.object (member (codes "gets") (json.object no_members) no_members)) ≡ false
another_name = refl

-- {"get":[]}
a_list_of_arrays : is_request (json.object (member (codes "get") (json.array no_items) no_members)) ≡ false
a_list_of_arrays = refl

-- {"get":{"a":"x"}}
a_request : is_request (get_alone (member (codes "a") (string (codes "x")) no_members)) ≡ true
a_request = refl

-- ["x","y"]
items : value_of (json.array (item (string (codes "x")) (item (string (codes "y")) no_items)))
    ≡ array (pair (int_key (pos 0)) (text (codes "x")) (pair (int_key (pos 1)) (text (codes "y")) empty))
items = refl

zero_key : name_key (codes "0") ≡ int_key (pos 0)
unfolding digits
zero_key = refl

two_zeros : name_key (codes "00") ≡ text_key (codes "00")
unfolding digits
two_zeros = refl

minus_zero : name_key (codes "-0") ≡ text_key (codes "-0")
unfolding digits
minus_zero = refl

last_integer : name_key (codes "9223372036854775807") ≡ int_key (pos 9223372036854775807)
unfolding digits
last_integer = refl

behind_last_integer : name_key (codes "9223372036854775808") ≡ text_key (codes "9223372036854775808")
unfolding digits
behind_last_integer = refl

-- {"get":{"q":"\u0000"}}
no_character : outcome_of (Some (get_alone (member (codes "q") (string (0 ∷ [])) no_members))) ≡ not_admitted (codes "get.q")
unfolding digits is_utf8 chars encode
no_character = refl

-- {"get":{"q":["x","\u0000"]}}
no_character_in_a_list : stray_path (get_alone (member (codes "q") (json.array (item (string (codes "x")) (item (string (0 ∷ [])) no_items))) no_members)) ≡ Some (codes "get.q.1")
unfolding digits is_utf8 chars encode
no_character_in_a_list = refl

-- {"get":{"q\u0000":"\u0000"}}: the name goes before what it holds
no_character_in_a_name : stray_path (get_alone (member (codes "q" ++ 0 ∷ []) (string (0 ∷ [])) no_members)) ≡ Some (codes "get.q" ++ 0 ∷ [])
unfolding digits is_utf8 chars encode
no_character_in_a_name = refl

-- a form that is none goes before a text that is not admitted: {"get":{"a":"\u0000","b":1}}
a_form_goes_first : outcome_of (Some (get_alone (member (codes "a") (string (0 ∷ [])) (member (codes "b") (number (unsigned 1)) no_members)))) ≡ not_request
a_form_goes_first = refl

-- {"get":{"a":"x"}} as a whole
admitted : outcome_of (Some (get_alone (member (codes "a") (string (codes "x")) no_members))) ≡ stands_for (only_get (pair (text_key (codes "a")) (text (codes "x")) empty))
unfolding digits is_utf8 chars encode
admitted = refl
