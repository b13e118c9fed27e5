-- States by numbers, with the runs of bytes that lead from one to another.
use Rattle.std.specs.Prelude.{ℕ, Bool, true, false, nat_le, if◌then◌else◌, List, [], ◌∷◌, Option, Some, None, slice_get}
use Rattle.text_base.specs.declared.page_token.PageToken.{PageToken}
use Rattle.text_base.specs.declared.page_token.PageToken.TheVariants.{Bad}
use Rattle.policy_matching.specs.declared.rows.Run.{Run}
use Rattle.policy_matching.specs.declared.rows.Row.{Row}

-- the run that has the byte: the first that does not end before it
abbrev pub run_of : ℕ → List Run → Option Run
run_of b [] = None
run_of b (run ∷ runs) = if nat_le b run.last then Some run else run_of b runs

-- that of a state, if there is one
abbrev pub run_in : ℕ → Option Row → Option Run
run_in b None = None
run_in b (Some row) = run_of b row.runs.items

-- that of the state with a number
abbrev pub run_at : List Row → ℕ → ℕ → Option Run
run_at rows s b = run_in b (slice_get rows s)

-- the state that the run leads to; the same state, where there is none
abbrev pub led : ℕ → Option Run → ℕ
led s None = s
led s (Some run) = run.to

-- the state behind a byte
abbrev pub state_behind : List Row → ℕ → ℕ → ℕ
state_behind rows s b = led s (run_at rows s b)

-- what tells whether a text matches: a bad token, where it does not
abbrev pub told : Bool → List PageToken
told true = []
told false = Bad ∷ []

-- what is told of a text that ends in a state, if there is one
abbrev pub told_in : Option Row → List PageToken
told_in None = []
told_in (Some row) = told row.ends

-- what is told of a text that ends in the state with a number
abbrev pub told_at : List Row → ℕ → List PageToken
told_at rows s = told_in (slice_get rows s)
