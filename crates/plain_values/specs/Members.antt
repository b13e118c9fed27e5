-- Reading and writing members of a value (PHP manual, "Arrays"), and the limits of size.
use Rattle.std.specs.Prelude.{ℕ, nat_le, nat_lt, ℤ, pos, ◌+ℤ◌, if◌then◌else◌, List, [], ◌∷◌, length, Option, Some, None, Result, Ok, Err}
use Rattle.std.specs.Int.{int_max}
use Rattle.std.specs.Ordering.{int_eq}
use Rattle.text_base.specs.declared.limits.TheConstants.{DEPTH_LIMIT, TEXT_LIMIT}
use Rattle.plain_values.specs.Plain.{Plain, PlainKey, Pairs, int_key, text_key, null, flag, int, text, array, empty, pair, keys, deepest}
use Rattle.plain_values.specs.Keys.{same_key}
use Rattle.plain_values.specs.declared.fault.Fault.{Fault}
use Rattle.plain_values.specs.declared.fault.Fault.TheVariants.{BadIndex, Full, Long}

-- the value at a key of an array, and null where the key is not there
abbrev pub member : Pairs → PlainKey → Plain
member empty k = null
member (pair j v ps) k = if same_key j k then v else member ps k

-- null, a boolean and an integer have null at every key; a text has no members here
abbrev pub get : Plain → PlainKey → Result Plain Fault
get null k = Ok null
get (flag b) k = Ok null
get (int z) k = Ok null
get (text t) k = Err BadIndex
get (array ps) k = Ok (member ps k)

-- an array with a value put at a key: a key that is there keeps its place, another comes last
abbrev pub put_pair : Pairs → PlainKey → Plain → Pairs
put_pair empty k new = pair k new empty
put_pair (pair j v ps) k new = if same_key j k then pair j new ps else pair j v (put_pair ps k new)

-- no array is nested deeper than 1,000
abbrev pub within_depth : Pairs → Result Plain Fault
within_depth ps = if nat_lt (deepest ps) DEPTH_LIMIT then Ok (array ps) else Err Long

-- no text is longer than 16,777,216 bytes
abbrev pub within_length : List ℕ → Result Plain Fault
within_length t = if nat_le (length t) TEXT_LIMIT then Ok (text t) else Err Long

-- null becomes an array by the write; into another value that is no array nothing is written
abbrev pub put : Plain → PlainKey → Plain → Result Plain Fault
put null k new = within_depth (put_pair empty k new)
put (flag b) k new = Err BadIndex
put (int z) k new = Err BadIndex
put (text t) k new = Err BadIndex
put (array ps) k new = within_depth (put_pair ps k new)

-- the larger of an integer key and the largest one before it; a text is none
abbrev pub larger : PlainKey → Option ℤ → Option ℤ
larger (int_key z) None = Some z
larger (int_key z) (Some y) = Some (int_max z y)
larger (text_key t) best = best

-- the largest of an integer, if there is one, and the integer keys among these, if there are any
abbrev pub largest_from : Option ℤ → List PlainKey → Option ℤ
largest_from best [] = best
largest_from best (k ∷ ks) = largest_from (larger k best) ks

-- the largest integer key of an array, if it has one
abbrev pub largest_key : Pairs → Option ℤ
largest_key ps = largest_from None (keys ps)

-- the key behind a largest integer key; none comes after 9,223,372,036,854,775,807
abbrev pub key_after : Option ℤ → Option ℤ
key_after None = Some (pos 0)
key_after (Some z) = if int_eq z (pos 9223372036854775807) then None else Some (z +ℤ pos 1)

-- an array with a value put at this integer key; where there is no key to put it at, the array is full
abbrev pub push_at : Pairs → Option ℤ → Plain → Result Plain Fault
push_at ps None new = Err Full
push_at ps (Some z) new = within_depth (put_pair ps (int_key z) new)

-- an append takes the largest integer key plus 1, and 0 where there is none
abbrev pub push : Plain → Plain → Result Plain Fault
push null new = push_at empty (key_after (largest_key empty)) new
push (flag b) new = Err BadIndex
push (int z) new = Err BadIndex
push (text t) new = Err BadIndex
push (array ps) new = push_at ps (key_after (largest_key ps)) new
