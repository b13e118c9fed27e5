-- The members of an array, counted and one after the other (PHP manual, count and "foreach").
use Rattle.std.specs.Prelude.{ℕ, zero, suc, pos, length, Bool, true, false, Result, Ok, Err}
use Rattle.plain_values.specs.Plain.{Plain, PlainKey, Pairs, int_key, text_key, null, flag, int, text, array, empty, pair, keys}
use Rattle.plain_values.specs.Arithmetic.{in_64_bits, integer}
use Rattle.plain_values.specs.declared.fault.Fault.{Fault}
use Rattle.plain_values.specs.declared.fault.Fault.TheVariants.{WrongType}

-- a key as a value
abbrev pub value_of_key : PlainKey → Plain
value_of_key (int_key z) = int z
value_of_key (text_key t) = text t

-- `count(v)`, of an array alone; no array that a run has holds more members than an integer counts
abbrev pub count_of : Plain → Result Plain Fault
count_of null = Err WrongType
count_of (flag b) = Err WrongType
count_of (int z) = Err WrongType
count_of (text t) = Err WrongType
count_of (array ps) = integer (in_64_bits (pos (length (keys ps))))

-- the pairs that `foreach` walks over, which later writes do not change; none where the value is no array
abbrev pub walked : Plain → Pairs
walked null = empty
walked (flag b) = empty
walked (int z) = empty
walked (text t) = empty
walked (array ps) = ps

-- the pairs behind the first n
abbrev pub behind : ℕ → Pairs → Pairs
behind zero ps = ps
behind (suc n) empty = empty
behind (suc n) (pair k v ps) = behind n ps

-- `is_array(v)`
abbrev pub is_array : Plain → Bool
is_array null = false
is_array (flag b) = false
is_array (int z) = false
is_array (text t) = false
is_array (array ps) = true

-- `is_string(v)`
abbrev pub is_text : Plain → Bool
is_text null = false
is_text (flag b) = false
is_text (int z) = false
is_text (text t) = true
is_text (array ps) = false

-- null, as `isset` and `??` ask
abbrev pub is_null : Plain → Bool
is_null null = true
is_null (flag b) = false
is_null (int z) = false
is_null (text t) = false
is_null (array ps) = false
