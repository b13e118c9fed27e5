-- Reading and writing at the end of a path of subscripts (PHP manual, "Arrays", and "Assignment operators").
use Rattle.std.specs.Prelude.{◌≡◌, nat_le, ℤ, if◌then◌else◌, List, [], ◌∷◌, Option, Some, None, Result, Ok, Err}
use Rattle.text_base.specs.declared.limits.TheConstants.{DEPTH_LIMIT}
use Rattle.plain_values.specs.Plain.{Plain, PlainKey, Pairs, int_key, null, flag, int, text, array, empty, depth}
use Rattle.plain_values.specs.Keys.{key_of}
use Rattle.plain_values.specs.Members.{member, get, put, push, put_pair, key_after, largest_key}
use Rattle.plain_values.specs.Outcome.{go_on}
use Rattle.plain_values.specs.declared.fault.Fault.{Fault}
use Rattle.plain_values.specs.declared.fault.Fault.TheVariants.{BadIndex, Full, Long}

-- `v[subscript]`: the subscript is a key first
abbrev pub subscript_of : Plain → Plain → Result Plain Fault
subscript_of v subscript = go_on (key_of subscript) (get v)

-- one step of a path: a key, or None for `[]`, a member that comes next
abbrev pub Step : Type 0
Step = Option PlainKey

-- the step that a subscript is
abbrev pub step_of : Option Plain → Result Step Fault
step_of None = Ok None
step_of (Some subscript) = go_on (key_of subscript) (λ k. Ok (Some k))

-- the path that subscripts are; the first one that is no key faults
abbrev pub path_of : List (Option Plain) → Result (List Step) Fault
path_of [] = Ok []
path_of (s ∷ ss) = go_on (step_of s) (λ first. go_on (path_of ss) (λ rest. Ok (first ∷ rest)))

-- the member at a step; what comes next is not there yet
abbrev pub get_step : Plain → Step → Result Plain Fault
get_step v (Some k) = get v k
get_step null None = Ok null
get_step (flag b) None = Ok null
get_step (int z) None = Ok null
get_step (text t) None = Err BadIndex
get_step (array ps) None = Ok null

-- the value at the end of a path, from the outermost step in
abbrev pub read : List Step → Plain → Result Plain Fault
read [] v = Ok v
read (s ∷ ss) v = go_on (get_step v s) (read ss)

-- the array that a write goes into: null becomes one by the write, and into another value that is no array nothing is written
abbrev pub container : Plain → Result Pairs Fault
container null = Ok empty
container (flag b) = Err BadIndex
container (int z) = Err BadIndex
container (text t) = Err BadIndex
container (array ps) = Ok ps

-- the key that a step names, by the key that comes next
abbrev pub named_key : Step → Option ℤ → Option PlainKey
named_key (Some k) next = Some k
named_key None None = None
named_key None (Some z) = Some (int_key z)

-- a member changed and put back
abbrev pub put_back : Pairs → PlainKey → Result Plain Fault → Result Plain Fault
put_back ps k (Ok v) = Ok (array (put_pair ps k v))
put_back ps k (Err fault) = Err fault

-- a change of the member that a step names; where no key comes next the array is full
abbrev pub change_member : (Plain → Result Plain Fault) → Pairs → Option PlainKey → Result Plain Fault
change_member change ps None = Err Full
change_member change ps (Some k) = put_back ps k (change (member ps k))

-- a change of an array at a step: of the member at its key, or at the key that comes next; a fault in place of the array stays
abbrev pub change_in : (Plain → Result Plain Fault) → Step → Result Pairs Fault → Result Plain Fault
change_in change s (Err fault) = Err fault
change_in change s (Ok ps) = change_member change ps (named_key s (key_after (largest_key ps)))

-- a value put in at the end of a path, from the outermost step in
abbrev pub put_in : List Step → Plain → Plain → Result Plain Fault
put_in [] new old = Ok new
put_in (s ∷ ss) new old = change_in (put_in ss new) s (container old)

-- no array is nested deeper than 1,000
abbrev pub no_deeper : Result Plain Fault → Result Plain Fault
no_deeper (Ok v) = if nat_le (depth v) DEPTH_LIMIT then Ok v else Err Long
no_deeper (Err fault) = Err fault

-- a write at the end of a path: a value that is no array on the way faults first, from the outermost in, then an array that is full, then
-- one that would be too deep
abbrev pub write : List Step → Plain → Plain → Result Plain Fault
write path new old = no_deeper (put_in path new old)

-- an item of an array literal: at its key, or behind the others
abbrev pub add_item : Plain → Option Plain → Plain → Result Plain Fault
add_item made None new = push made new
add_item made (Some key) new = go_on (key_of key) (λ k. put made k new)

-- an array literal, item by item
abbrev pub add_items : List (Option Plain × Plain) → Plain → Result Plain Fault
add_items [] made = Ok made
add_items (item ∷ items) made = go_on (add_item made item.0 item.1) (add_items items)

-- an array literal: its items put into the empty array, from the left to the right
abbrev pub literal_of : List (Option Plain × Plain) → Result Plain Fault
literal_of items = add_items items (array empty)

-- a value out of which a member was let go: each write by the path gives the same as before
abbrev pub Releases : List Step → Plain → Plain → Type 0
Releases path old new = (v : Plain) → write path v new ≡ write path v old
