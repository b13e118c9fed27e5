-- The request that a file of JSON stands for. `Data` is what `serde_json` reads: of equal names in one object the last one counts, and the
-- members of an object stand in byte order of their names.
use Rattle.std.specs.Prelude.{ℕ, suc, pos, Bool, true, false, ◌&&◌, nat_le, List, length, Option, Some}
use Rattle.text_base.specs.declared.limits.TheConstants.{TEXT_LIMIT}
use Rattle.plain_values.specs.Plain.{Plain, PlainKey, Pairs, int_key, empty, pair}
use Rattle.plain_values.specs.Plain as plain
use Rattle.plain_values.specs.Keys.{canonical_integer, canonical_key}
use Rattle.script_meaning.specs.Requests.{PlainRequest}
use Rattle.serde_json.specs.Data.{Data, null, boolean, number, string, array, object, Items, no_items, item, Members, no_members, member}
use Rattle.serde_json.specs.Find.{get}
use Rattle.request_reading.specs.Names.{get_name, post_name, cookie_name, request_name, server_name, is_array_name}

-- a name as a key: a canonical decimal integer in range is that integer
abbrev pub name_key : List ℕ → PlainKey
name_key name = canonical_key name (canonical_integer name)

abbrev mutual
  -- a string is a text, and a list or an object an array; null, truth values and numbers stand for nothing, which is null here
  pub value_of : Data → Plain
  value_of null = plain.null
  value_of (boolean b) = plain.null
  value_of (number n) = plain.null
  value_of (string s) = plain.text s
  value_of (array ds) = plain.array (places_of 0 ds)
  value_of (object ms) = plain.array (members_of ms)

  -- the items of a list under their places, from this place on
  pub places_of : ℕ → Items → Pairs
  places_of place no_items = empty
  places_of place (item d ds) = pair (int_key (pos place)) (value_of d) (places_of (suc place) ds)

  -- the members of an object under their names
  pub members_of : Members → Pairs
  members_of no_members = empty
  members_of (member name d ms) = pair (name_key name) (value_of d) (members_of ms)

-- the members of an object that is there; what is missing is empty
abbrev pub members_in : Option Data → Pairs
members_in (Some (object ms)) = members_of ms
members_in _ = empty

-- the request that a value stands for
abbrev pub asked_request : Data → PlainRequest
asked_request d = record {
  get_of = members_in (get get_name d);
  post_of = members_in (get post_name d);
  cookie_of = members_in (get cookie_name d);
  request_of = members_in (get request_name d);
  server_of = members_in (get server_name d);
}

-- no text of a script has more than 16,777,216 bytes
abbrev pub fits_text : List ℕ → Bool
fits_text text = nat_le (length text) TEXT_LIMIT

abbrev mutual
  -- a short string, or a list or an object of such members
  pub is_member : Data → Bool
  is_member null = false
  is_member (boolean b) = false
  is_member (number n) = false
  is_member (string s) = fits_text s
  is_member (array ds) = are_items ds
  is_member (object ms) = are_members ms

  pub are_items : Items → Bool
  are_items no_items = true
  are_items (item d ds) = is_member d && are_items ds

  pub are_members : Members → Bool
  are_members no_members = true
  are_members (member name d ms) = fits_text name && (is_member d && are_members ms)

-- a JSON object
abbrev pub is_object : Data → Bool
is_object (object ms) = true
is_object _ = false

-- objects of members, under the names of the five arrays alone
abbrev pub are_arrays : Members → Bool
are_arrays no_members = true
are_arrays (member name d ms) = is_array_name name && (is_object d && (is_member d && are_arrays ms))

-- the form of a request: an object of such objects
abbrev pub is_request : Data → Bool
is_request (object ms) = are_arrays ms
is_request _ = false
