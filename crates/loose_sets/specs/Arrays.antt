-- The forms of members, array literals and writes. The first argument lists the keys that are told apart.
use Rattle.std.specs.Prelude.{ℕ, Bool, not, List, [], ◌∷◌, ◌++◌, Option, Some, None, codes, flat_map, slice_get}
use Rattle.std.specs.Fmt.{signed_decimal}
use Rattle.plain_values.specs.Plain.{PlainKey}
use Rattle.flow_code.specs.Points.{PlainKeyRef, int_ref, text_ref, read_ref}
use Rattle.least_sets.specs.Forms.{Form, text_form, same_form, integer_form, yes_form}
use Rattle.loose_sets.specs.Keys.{may_be_other, is_exactly}
use Rattle.loose_sets.specs.declared.name.Half.{Half}
use Rattle.loose_sets.specs.declared.name.Half.TheVariants.{Text, Array}
use Rattle.loose_sets.specs.declared.name.Aspect.{Aspect}
use Rattle.loose_sets.specs.declared.name.Aspect.TheVariants.{Own, Member, Others, Keys}
use Rattle.loose_sets.specs.declared.name.SetName.{SetName}
use Rattle.loose_sets.specs.Uses.{At, used, all_used, where_so, of_told, may_be_at, member_name}

-- the forms of one set: each of them gives some of its texts
abbrev pub Forms : Type 0
Forms = List (Form SetName)

-- what is said of a value that is an array
unfoldable pub array_own : Half → Forms
array_own Text = []
array_own Array = yes_form ∷ []

-- null, where the key is not there
unfoldable pub null_own : Half → Forms
null_own Text = text_form [] ∷ []
null_own Array = []

-- a member by its key: the value itself may also be null, its own members and keys are those that stand deep in the array
unfoldable pub member_forms : List PlainKey → At → ℕ → ℕ → PlainKeyRef → Aspect → Forms
unfolding null_own
member_forms told at p x k (Own h) = same_form (member_name told at p h k x) ∷ null_own h
member_forms told at p x k (Member i h) = used at p (Others h) x ∷ []
member_forms told at p x k (Others h) = used at p (Others h) x ∷ []
member_forms told at p x k Keys = used at p Keys x ∷ []

-- the texts of a key: a literal, or the text form of a value and `0`; a key that comes next is an integer
unfoldable pub key_forms : At → ℕ → Option PlainKeyRef → Forms
key_forms at p (Some (int_ref z)) = text_form (signed_decimal z) ∷ []
key_forms at p (Some (text_ref t)) = text_form t ∷ []
key_forms at p (Some (read_ref x)) = used at p (Own Text) x ∷ text_form (codes "0") ∷ []
key_forms at p None = integer_form ∷ []

-- an item of an array literal: under the key of a number, elsewhere, and its keys
unfoldable pub item_under : List PlainKey → At → ℕ → ℕ → Half → (Option PlainKeyRef × ℕ) → Forms
unfolding where_so may_be_at
item_under told at p i h item = where_so (may_be_at told item.0 i) (used at p (Own h) item.1 ∷ [])

-- an item of an array literal as none of the keys told apart: its value where its key may be none of them, and all its members
unfoldable pub item_elsewhere : List PlainKey → At → ℕ → Half → (Option PlainKeyRef × ℕ) → Forms
unfolding where_so
item_elsewhere told at p h item = where_so (may_be_other item.0 told) (used at p (Own h) item.1 ∷ []) ++ all_used at p h item.1 ∷ []

-- an item of an array literal by its keys: those in its value, and its own
unfoldable pub item_keys : At → ℕ → (Option PlainKeyRef × ℕ) → Forms
unfolding key_forms
item_keys at p item = used at p Keys item.1 ∷ key_forms at p item.0

-- an array literal by an aspect of it, item by item
unfoldable pub array_forms : List PlainKey → At → ℕ → List (Option PlainKeyRef × ℕ) → Aspect → Forms
unfolding array_own item_under item_elsewhere item_keys
array_forms told at p items (Own h) = array_own h
array_forms told at p items (Member i h) = flat_map (item_under told at p i h) items
array_forms told at p items (Others h) = flat_map (item_elsewhere told at p h) items
array_forms told at p items Keys = flat_map (item_keys at p) items

-- a write under one key: the old member stays where the key may be another one, and the new one is there where it may be this one
unfoldable pub is_exactly_at : List PlainKey → Option PlainKeyRef → ℕ → Bool
unfolding of_told
is_exactly_at told k i = of_told (is_exactly k) (slice_get told i)

-- a write under one key, by the member of a number: the old one, unless the key is just its own, and the new value, where it may be
unfoldable pub put_under : List PlainKey → At → ℕ → ℕ → Option PlainKeyRef → ℕ → ℕ → Half → Forms
unfolding where_so may_be_at is_exactly_at
put_under told at p x k v i h =
    where_so (not (is_exactly_at told k i)) (used at p (Member i h) x ∷ []) ++ where_so (may_be_at told k i) (used at p (Own h) v ∷ [])

-- a write under one key, by the members that stand elsewhere or deep: the old ones, those of the new value, and maybe the new value
unfoldable pub put_elsewhere : List PlainKey → At → ℕ → ℕ → Option PlainKeyRef → ℕ → Half → Forms
unfolding where_so
put_elsewhere told at p x k v h = used at p (Others h) x ∷ all_used at p h v ∷ where_so (may_be_other k told) (used at p (Own h) v ∷ [])

-- deeper: the member under the first key is an array then, and the new value and the arrays on the way stand deep
unfoldable pub deep_under : List PlainKey → At → ℕ → ℕ → Option PlainKeyRef → ℕ → Half → Forms
unfolding where_so may_be_at array_own
deep_under told at p x k i h = used at p (Member i h) x ∷ where_so (may_be_at told k i) (array_own h)

-- a deeper write, by the members that stand elsewhere or deep: the old ones, the new value with its members, and arrays
unfoldable pub deep_elsewhere : At → ℕ → ℕ → ℕ → Half → Forms
unfolding array_own
deep_elsewhere at p x v h = used at p (Others h) x ∷ all_used at p h v ∷ used at p (Own h) v ∷ array_own h

-- a write by its keys: the old ones, those in the new value, and those of the path
unfoldable pub put_keys : At → ℕ → ℕ → List (Option PlainKeyRef) → ℕ → Forms
unfolding key_forms
put_keys at p x path v = used at p Keys x ∷ used at p Keys v ∷ flat_map (key_forms at p) path

-- a write at a path of keys, by an aspect of the array that it gives; a path without keys has no form here
unfoldable pub put_forms : List PlainKey → At → ℕ → ℕ → List (Option PlainKeyRef) → ℕ → Aspect → Forms
unfolding array_own put_under put_elsewhere deep_under deep_elsewhere put_keys
put_forms told at p x [] v b = []
put_forms told at p x (k ∷ ks) v (Own h) = array_own h
put_forms told at p x (k ∷ []) v (Member i h) = put_under told at p x k v i h
put_forms told at p x (k ∷ j ∷ ks) v (Member i h) = deep_under told at p x k i h
put_forms told at p x (k ∷ []) v (Others h) = put_elsewhere told at p x k v h
put_forms told at p x (k ∷ j ∷ ks) v (Others h) = deep_elsewhere at p x v h
put_forms told at p x (k ∷ ks) v Keys = put_keys at p x (k ∷ ks) v
