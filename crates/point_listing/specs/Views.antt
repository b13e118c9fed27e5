-- The keys that are told apart as plain keys.
use Rattle.std.specs.Prelude.{ℕ, List, Option, Some, None, map}
use Rattle.plain_values.specs.Plain.{PlainKey, int_key, text_key}
use Rattle.loose_sets.specs.Uses.{number_from}
use Rattle.point_listing.specs.declared.key.ToldKey.{ToldKey}
use Rattle.point_listing.specs.declared.key.ToldKey.TheVariants.{Int, Text}

-- the plain form of a key
abbrev pub key_seen : ToldKey → PlainKey
key_seen (Int z) = int_key z
key_seen (Text t) = text_key t

-- the plain form of keys in their order
abbrev pub keys_seen : List ToldKey → List PlainKey
keys_seen ks = map key_seen ks

-- where a literal stands among the keys; nowhere where it is none
abbrev pub place_in : List PlainKey → Option PlainKey → Option (Option ℕ)
place_in told None = None
place_in told (Some k) = Some (number_from 0 k told)
