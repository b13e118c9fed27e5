-- The keys that are told apart: the first 64 that stand in the program as literals. Members under other keys are taken together.
use Rattle.std.specs.Prelude.{ℕ, Bool, true, false, not, if◌then◌else◌, List, [], ◌∷◌, Option, Some, None, take, flat_map}
use Rattle.std.specs.List.{list_any}
use Rattle.plain_values.specs.Plain.{PlainKey, int_key, text_key}
use Rattle.plain_values.specs.Keys.{canonical_integer, canonical_key, same_key}
use Rattle.flow_code.specs.Points.{PlainKeyRef, int_ref, text_ref, read_ref, PlainSource, member_source, array_source, put_source, PlainPoint, set_point, PlainFlow, points_in}
use Rattle.loose_sets.specs.declared.TheConstants.{TOLD_KEYS}

-- the key that a literal stands for
unfoldable pub literal_key : PlainKeyRef → Option PlainKey
literal_key (int_ref z) = Some (int_key z)
literal_key (text_ref t) = Some (canonical_key t (canonical_integer t))
literal_key (read_ref x) = None

-- a list of one, or of none
abbrev pub listed : {A : Type 0} → Option A → List A
listed None = []
listed (Some x) = x ∷ []

-- the key of a literal, if a literal is written as the key
abbrev pub maybe_listed : Option PlainKeyRef → List PlainKey
maybe_listed None = []
maybe_listed (Some k) = listed (literal_key k)

-- the key of an array item, if a literal is written as its key
abbrev pub item_key : (Option PlainKeyRef × ℕ) → List PlainKey
item_key item = maybe_listed item.0

-- the literal keys of a source, from the left
unfoldable pub source_keys : PlainSource → List PlainKey
unfolding literal_key
source_keys (member_source x k) = listed (literal_key k)
source_keys (array_source items) = flat_map item_key items
source_keys (put_source x path v) = flat_map maybe_listed path
source_keys _ = []

-- the literal keys of what a point sets, from the left; other points have none
unfoldable pub point_keys : PlainPoint → List PlainKey
unfolding source_keys
point_keys (set_point x source next) = source_keys source
point_keys _ = []

-- whether the key is one of these
unfoldable pub is_among : PlainKey → List PlainKey → Bool
is_among k ks = list_any (same_key k) ks

-- the keys in their order, with this one left out wherever it stands
unfoldable pub without_key : PlainKey → List PlainKey → List PlainKey
without_key k [] = []
without_key k (j ∷ js) = if same_key k j then without_key k js else j ∷ without_key k js

-- each key once, where it first stands
unfoldable pub keys_once : List PlainKey → List PlainKey
unfolding without_key
keys_once [] = []
keys_once (k ∷ ks) = k ∷ without_key k (keys_once ks)

-- the keys that are told apart, in the order of points
unfoldable pub told_keys : PlainFlow → List PlainKey
unfolding points_in point_keys keys_once
told_keys flow = take TOLD_KEYS (keys_once (flat_map point_keys (points_in flow.functions_of)))

-- whether the key is an integer
abbrev pub is_integer_key : PlainKey → Bool
is_integer_key (int_key z) = true
is_integer_key (text_key t) = false

-- a written key, or the key that comes next where none is written, may be this one: a literal where it is this one, the key that comes
-- next where this one is an integer, and any other key always
unfoldable pub may_be : Option PlainKeyRef → PlainKey → Bool
unfolding literal_key
may_be None c = is_integer_key c
may_be (Some k) c = may_be_literal (literal_key k) c
  where
    may_be_literal : Option PlainKey → PlainKey → Bool
    may_be_literal None c = true
    may_be_literal (Some k) c = same_key k c

-- it may be none of the keys that are told apart
unfoldable pub may_be_other : Option PlainKeyRef → List PlainKey → Bool
unfolding literal_key is_among
may_be_other None told = true
may_be_other (Some k) told = other_literal (literal_key k) told
  where
    other_literal : Option PlainKey → List PlainKey → Bool
    other_literal None told = true
    other_literal (Some k) told = not (is_among k told)

-- it is a literal, and this key
unfoldable pub is_exactly : Option PlainKeyRef → PlainKey → Bool
unfolding literal_key
is_exactly None c = false
is_exactly (Some k) c = is_literal (literal_key k) c
  where
    is_literal : Option PlainKey → PlainKey → Bool
    is_literal None c = false
    is_literal (Some k) c = same_key k c
