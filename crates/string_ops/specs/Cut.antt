-- The machines that cut a text at a start that is not negative.
use Rattle.std.specs.Prelude.{ℕ, ℤ, Option, Some, None, pos, negsuc, true, false, ◌==◌, ◌+◌, ◌-◌, Bool, List, [], ◌∷◌, ◌++◌, nat_le, if◌then◌else◌}
use Rattle.fst_core.specs.declared.out.Out.{Out}
use Rattle.fst_core.specs.declared.out.Out.TheVariants.{Same}
use Rattle.string_ops.specs.Listed.{Rows, Lasts}
use Rattle.string_ops.specs.Search.{is_within}

-- the number is below 0
abbrev pub is_negative : ℤ → Bool
is_negative (pos n) = false
is_negative (negsuc n) = true

-- there is no length
abbrev pub is_all : Option ℤ → Bool
is_all None = true
is_all (Some len) = false

-- the length is negative
abbrev pub is_early : Option ℤ → Bool
is_early None = false
is_early (Some (pos n)) = false
is_early (Some (negsuc n)) = true

-- the byte, or nothing
abbrev pub copy_if : Bool → List Out
copy_if copied = if copied then Same ∷ [] else []

-- one state on, and the byte is copied from a state on
abbrev pub count_turn : ℕ → ℕ → ℕ → ℕ × List Out
count_turn from s byte = (s + 1, copy_if (nat_le from s))

-- the states count the bytes up to `count`, which are copied from `from` on; in the last state the rest is copied, or it is not
abbrev pub front_rows : ℕ → ℕ → Bool → Rows
front_rows count from rest s byte =
    (if is_within 0 count s then count_turn from (s - 0) byte ∷ [] else []) ++ (if count == s then (count, copy_if rest) ∷ [] else [])

-- the text may end in each state from 0 to `count`, with nothing more put out
abbrev pub front_lasts : ℕ → Lasts
front_lasts count s = if is_within 0 (count + 1) s then [] ∷ [] else []

-- the state in the middle, and that with no byte left
abbrev pub middle_of : ℕ → ℕ
middle_of count = count + 1

-- the state with none of the last bytes left, behind the counting states 0 to `count` and the middle; in the k-th behind it k are left
abbrev pub left_of : ℕ → ℕ
left_of count = count + 2

-- one byte less is left
abbrev pub down_turn : ℕ → ℕ → ℕ → ℕ × List Out
down_turn base k byte = (base + k, [])

-- the states from 0 count the bytes of a text of at most `start + last` bytes, of which none is copied; from state `start` on the middle of
-- a longer text is copied, and then come its last bytes
abbrev pub inner_rows : ℕ → ℕ → Rows
inner_rows start last s byte =
    (if is_within 0 (start + last) s then count_turn (start + last) (s - 0) byte ∷ [] else [])
    ++ (if start == s then (middle_of (start + last), Same ∷ []) ∷ [] else [])
    ++ (if start == s then (left_of (start + last) + last, Same ∷ []) ∷ [] else [])
    ++ (if middle_of (start + last) == s then (middle_of (start + last), Same ∷ []) ∷ [] else [])
    ++ (if middle_of (start + last) == s then (left_of (start + last) + last, Same ∷ []) ∷ [] else [])
    ++ (if is_within (left_of (start + last) + 1) last s then down_turn (left_of (start + last)) (s - (left_of (start + last) + 1)) byte
    ∷ [] else [])

-- the text may end in the states up to `start + last`, where it is that short, and where none of its last bytes is left
abbrev pub inner_lasts : ℕ → ℕ → Lasts
inner_lasts start last s =
    (if is_within 0 (start + last + 1) s then [] ∷ [] else []) ++ (if left_of (start + last) == s then [] ∷ [] else [])
