-- The key that a value stands for (PHP manual, "Arrays: specifying with array()").
use Rattle.std.specs.Prelude.{ℕ, ℤ, pos, Bool, true, false, not, ◌&&◌, if◌then◌else◌, List, [], ◌∷◌, Option, Some, None, Result, Ok, Err, nat_eq}
use Rattle.std.specs.Cmp.Lexicographic.{pointwise}
use Rattle.std.specs.List.{list_any}
use Rattle.std.specs.Ordering.{int_eq}
use Rattle.std.specs.Fmt.{signed_decimal}
use Rattle.std.specs.Str.Parse.{signed_digits_value}
use Rattle.plain_values.specs.Plain.{Plain, PlainKey, int_key, text_key, null, flag, int, text, array}
use Rattle.plain_values.specs.Numeric.{is_in_range}
use Rattle.plain_values.specs.declared.fault.Fault.{Fault}
use Rattle.plain_values.specs.declared.fault.Fault.TheVariants.{BadIndex}

-- the integer in range whose decimal form the text is, if there is one
abbrev pub canonical_integer : List ℕ → Option ℤ
canonical_integer t = let z = signed_digits_value 10 t in if is_in_range z && pointwise nat_eq (signed_decimal z) t then Some z else None

-- the key of a text: the integer whose decimal form it is, if there is one, and else the text
abbrev pub canonical_key : List ℕ → Option ℤ → PlainKey
canonical_key t (Some z) = int_key z
canonical_key t None = text_key t

-- an integer itself, a canonical decimal text its integer, another text itself, true 1, false 0, null the empty text; an array is none
abbrev pub key_of : Plain → Result PlainKey Fault
key_of null = Ok (text_key [])
key_of (flag false) = Ok (int_key (pos 0))
key_of (flag true) = Ok (int_key (pos 1))
key_of (int z) = Ok (int_key z)
key_of (text t) = Ok (canonical_key t (canonical_integer t))
key_of (array ps) = Err BadIndex

-- whether two keys are one
abbrev pub same_key : PlainKey → PlainKey → Bool
same_key (int_key a) (int_key b) = int_eq a b
same_key (int_key a) (text_key t) = false
same_key (text_key s) (int_key b) = false
same_key (text_key s) (text_key t) = pointwise nat_eq s t

-- whether a key is none of some keys
abbrev pub is_absent : List PlainKey → PlainKey → Bool
is_absent ks k = not (list_any (λ j. same_key j k) ks)

-- whether no key stands twice
abbrev pub are_distinct : List PlainKey → Bool
are_distinct [] = true
are_distinct (k ∷ ks) = is_absent ks k && are_distinct ks
