-- The machine of `substr` from a place counted from the end, `last` bytes before it. A state stands for a phase and a number.
-- By each byte a state does the same.
use Rattle.std.specs.Prelude.{ℕ, suc, ◌==◌, ◌+◌, ◌-◌, ◌&&◌, Bool, true, false, not, nat_lt, nat_le, List, [], ◌∷◌, Option, None, Some, ℤ, pos, negsuc, if◌then◌else◌}
use Rattle.fst_core.specs.declared.out.Out.{Out}
use Rattle.fst_core.specs.declared.out.Out.TheVariants.{Same}
use Rattle.string_ops.specs.declared.cut_back.Step.{Step}
use Rattle.string_ops.specs.Listed.{Rows, Lasts}
use Rattle.string_ops.specs.Plans.{rows_below, lasts_below}

-- the state of a phase and a number: phases 0 and 1 have one state, phase 2 has `last`, phases 3 and 4 share the next `last`, and behind
-- them come those of phase 5
abbrev pub state_of : ℕ → ℕ → ℕ → ℕ
state_of last phase k =
    if phase == 0 then 0
    else (if phase == 1 then 1
    else (if phase == 2 then 2 + k
    else (if phase == 5 then 2 + last + last + k
    else 2 + last + k)))

-- where the last bytes of a text are so many, how many of the last k of them are kept
abbrev pub kept_of_last : ℕ → Option ℤ → ℕ → ℕ
kept_of_last last None k = k
kept_of_last last (Some (pos len)) k = len - (last - k)
kept_of_last last (Some (negsuc below)) k = k - suc below

-- the kept bytes are counted from where they begin
abbrev pub is_counted : Option ℤ → Bool
is_counted None = false
is_counted (Some (pos len)) = true
is_counted (Some (negsuc below)) = false

-- how many bytes at the end of the text are dropped
abbrev pub dropped_of : Option ℤ → ℕ
dropped_of None = 0
dropped_of (Some (pos len)) = 0
dropped_of (Some (negsuc below)) = suc below

-- the phase of a state
abbrev pub phase_of : ℕ → Option ℤ → ℕ → ℕ
phase_of last len s =
    if s == 0 then 0
    else (if s == 1 then 1
    else (if nat_lt s (2 + last) then 2
    else (if nat_lt s (2 + last + last) then (if is_counted len then 4 else 3)
    else 5)))

-- the number of a state in its phase
abbrev pub number_of : ℕ → ℕ → ℕ
number_of last s =
    if nat_lt s (2 + last) then s - 2
    else (if nat_lt s (2 + last + last) then s - (2 + last)
    else s - (2 + last + last))

-- how many states there are
abbrev pub states_of : ℕ → Option ℤ → ℕ
states_of last len = 2 + last + last + dropped_of len

-- the byte that is read, where some are kept
abbrev pub put_of : ℕ → List Out
put_of kept = if nat_lt 0 kept then Same ∷ [] else []

-- a step, if there is one: where it goes, and what is put out
abbrev pub step_in : Option Step → Option (ℕ × List Out)
step_in None = None
step_in (Some step) = Some (step.to, if step.copied then Same ∷ [] else [])

-- one byte less of the last bytes
abbrev pub last_choices : ℕ → Option ℤ → ℕ → ℕ → List (ℕ × List Out)
last_choices last len phase k =
    if nat_lt 0 k && nat_lt k last then (state_of last phase (k - 1), put_of (kept_of_last last len k)) ∷ [] else []

-- one byte less of those that are dropped
abbrev pub drop_choices : ℕ → ℕ → List (ℕ × List Out)
drop_choices last k = if nat_lt 0 k then (state_of last 5 (k - 1), []) ∷ [] else []

-- phase 0 has read nothing; 1 has passed over some bytes, and at least the last bytes follow; 2 is among the last bytes, of which just k
-- follow; in 3 and 4 the text is no longer than the last bytes, and at most k follow, in 3 all but those that are dropped are kept, in 4
-- they are counted; 5 drops at most k bytes
abbrev pub back_choices : ℕ → Option ℤ → ℕ → ℕ → List (ℕ × List Out)
back_choices last len phase k =
    if phase == 0 then (state_of last 1 0, [])
    ∷ (if is_counted len then (state_of last 4 (last - 1), put_of (kept_of_last last len last)) ∷ []
    else (state_of last 3 (last - 1), Same ∷ [])
    ∷ (if nat_lt 0 (dropped_of len) then (state_of last 5 (dropped_of len - 1), []) ∷ [] else []))
    else (if phase == 1 then (state_of last 1 0, []) ∷ (state_of last 2 (last - 1), put_of (kept_of_last last len last)) ∷ []
    else (if phase == 2 then last_choices last len 2 k
    else (if phase == 3 then (if nat_lt 0 k && nat_lt k last then (state_of last 3 (k - 1), Same ∷ [])
    ∷ (if nat_lt 0 (dropped_of len) && nat_le (dropped_of len) k then (state_of last 2 (dropped_of len - 1), []) ∷ [] else []) else [])
    else (if phase == 4 then last_choices last len 4 k
    else drop_choices last k))))

-- in which phases the text may end
abbrev pub back_ends : ℕ → Option ℤ → ℕ → ℕ → List (List Out)
back_ends last len phase k =
    if phase == 0 then [] ∷ []
    else (if phase == 1 then []
    else (if phase == 2 then (if k == 0 then [] ∷ [] else [])
    else (if phase == 3 then (if (dropped_of len == 0 && nat_lt k last) && not (is_counted len) then [] ∷ [] else [])
    else (if phase == 4 then (if nat_lt k last && is_counted len then [] ∷ [] else [])
    else [] ∷ []))))

-- the choices of a state, by its phase and its number
abbrev pub back_row : ℕ → Option ℤ → Rows
back_row last len s b = back_choices last len (phase_of last len s) (number_of last s)

-- how a state may end, by its phase and its number
abbrev pub back_last : ℕ → Option ℤ → Lasts
back_last last len s = back_ends last len (phase_of last len s) (number_of last s)

-- the choices of so many states, and none elsewhere
abbrev pub back_rows : ℕ → ℕ → Option ℤ → Rows
back_rows states last len = rows_below states (back_row last len)

-- the ends of so many states, and none elsewhere
abbrev pub back_lasts : ℕ → ℕ → Option ℤ → Lasts
back_lasts states last len = lasts_below states (back_last last len)
