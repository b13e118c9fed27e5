-- The keys that are told apart behind some more literals.
use Rattle.std.specs.Prelude.{◌||◌, nat_le, if◌then◌else◌, List, [], ◌∷◌, ◌++◌, length}
use Rattle.plain_values.specs.Plain.{PlainKey}
use Rattle.loose_sets.specs.declared.TheConstants.{TOLD_KEYS}
use Rattle.loose_sets.specs.Keys.{is_among}

-- each is put behind the others, where it is a new one and there are fewer than may be told apart
unfoldable pub told_after : List PlainKey → List PlainKey → List PlainKey
unfolding is_among
told_after told [] = told
told_after told (k ∷ ks) = told_after (if nat_le TOLD_KEYS (length told) || is_among k told then told else told ++ k ∷ []) ks
