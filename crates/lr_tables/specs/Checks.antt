-- The check of tables for soundness and completeness: each item is looked at once (Jourdan, Pottier and Leroy, Validating LR(1) parsers).
use Rattle.std.specs.Prelude.{ℕ, suc, ◌+◌, ◌-◌, ◌/◌, ◌%◌, ◌^◌, Bool, true, false, ◌&&◌, ◌||◌, List, [], ◌∷◌, Option, Some, None, slice_get, slice_index_or, nat_lt, nat_le, nat_eq, bit_or, if◌then◌else◌}
use Rattle.lr_tables.specs.declared.rule.Rule.{Rule}
use Rattle.lr_tables.specs.declared.step.Step.{Step}
use Rattle.lr_tables.specs.declared.step.Step.TheVariants.{Fail, Go, Reduce, Accept}
use Rattle.lr_tables.specs.Grammars.{Grammar, is_blocked}
use Rattle.lr_tables.specs.Machine.{Tables, access, entry}
use Rattle.lr_tables.specs.Certificates.{State, no_state, not_true, sides, side_at, behind, is_sub, closed_of}

-- the rule, if there is one, may stand before the token
abbrev pub may_stand : Grammar → Option Rule → ℕ → Bool
may_stand g None x = true
may_stand g (Some r) x = not_true (is_blocked g r x)

-- each step to a state is at the symbol that leads to it, and each reduction at a token before which the rule stands
abbrev pub is_accessed : Tables → ℕ → Step → Bool
is_accessed t x Fail = true
is_accessed t x (Go s) = nat_eq (access t s) x
is_accessed t x (Reduce p) = may_stand t.grammar (slice_get t.grammar.rules p) x
is_accessed t x Accept = true

-- the same of each step of a row, from this symbol on
abbrev pub row_accessed : Tables → ℕ → List Step → Bool
row_accessed t x [] = true
row_accessed t x (e ∷ es) = is_accessed t x e && row_accessed t (suc x) es

-- the same of each row
abbrev pub rows_accessed : Tables → List (List Step) → Bool
rows_accessed t [] = true
rows_accessed t (row ∷ rows) = row_accessed t 0 row && rows_accessed t rows

-- what soundness asks for
abbrev pub moves_ok : Tables → Bool
moves_ok t = nat_eq (access t 0) 0 && rows_accessed t t.rows

-- the power before which the rule of this number stands
abbrev pub before_at : List (ℕ × List ℕ × ℕ × ℕ) → ℕ → ℕ
before_at all p = (slice_index_or all p (0, [], 0, 0)).2

-- the fact of a nonterminal is at its place behind the terminals
abbrev pub fact : ℕ → List (ℕ × Bool × ℕ) → ℕ → ℕ × Bool × ℕ
fact terminals facts x = slice_index_or facts (x - terminals) (0, false, 0)

-- the terminals that a symbol may begin with, as bits: a terminal begins with itself
abbrev pub first_of : ℕ → List (ℕ × Bool × ℕ) → ℕ → ℕ
first_of terminals facts x = if nat_lt x terminals then 2 ^ x else (fact terminals facts x).0

-- whether a symbol may be empty: no terminal is
abbrev pub empty_of : ℕ → List (ℕ × Bool × ℕ) → ℕ → Bool
empty_of terminals facts x = if nat_lt x terminals then false else (fact terminals facts x).1

-- the weight of a symbol: a terminal has none
abbrev pub weight_of : ℕ → List (ℕ × Bool × ℕ) → ℕ → ℕ
weight_of terminals facts x = if nat_lt x terminals then 0 else (fact terminals facts x).2

-- what xs may begin with, where `ahead` may follow
abbrev pub heads : ℕ → List (ℕ × Bool × ℕ) → List ℕ → ℕ → ℕ
heads terminals facts [] ahead = ahead
heads terminals facts (x ∷ xs) ahead = bit_or (first_of terminals facts x) (if empty_of terminals facts x then heads terminals facts xs ahead else 0)

-- whether all of the symbols may be empty
abbrev pub all_empty : ℕ → List (ℕ × Bool × ℕ) → List ℕ → Bool
all_empty terminals facts [] = true
all_empty terminals facts (x ∷ xs) = empty_of terminals facts x && all_empty terminals facts xs

-- the weight of all of the symbols together
abbrev pub weights : ℕ → List (ℕ × Bool × ℕ) → List ℕ → ℕ
weights terminals facts [] = 0
weights terminals facts (x ∷ xs) = weight_of terminals facts x + weights terminals facts xs

-- so much for each of the symbols
abbrev pub below : ℕ → List ℕ → ℕ
below most [] = 0
below most (x ∷ xs) = most + below most xs

-- a rule's left side has the facts that its right side asks for
abbrev pub is_fact : ℕ → ℕ → List (ℕ × Bool × ℕ) → ℕ × List ℕ × ℕ × ℕ → Bool
is_fact most terminals facts r = nat_le terminals r.0
    && (is_sub (heads terminals facts r.1 0) (first_of terminals facts r.0)
    && ((if all_empty terminals facts r.1 then empty_of terminals facts r.0 else true)
    && nat_le (1 + weights terminals facts r.1 + most) (weight_of terminals facts r.0 + below most r.1)))

-- the same of each rule
abbrev pub are_facts : ℕ → ℕ → List (ℕ × Bool × ℕ) → List (ℕ × List ℕ × ℕ × ℕ) → Bool
are_facts most terminals facts [] = true
are_facts most terminals facts (r ∷ rs) = is_fact most terminals facts r && are_facts most terminals facts rs

-- the step reduces by this rule
abbrev pub is_reduce : ℕ → Step → Bool
is_reduce p Fail = false
is_reduce p (Go s) = false
is_reduce p (Reduce q) = nat_eq p q
is_reduce p Accept = false

-- the row reduces by the rule at each of the terminals before which it stands
abbrev pub all_reduce : List ℕ → ℕ → ℕ → ℕ → List Step → ℕ → Bool
all_reduce lefts before x p [] ahead = nat_eq ahead 0
all_reduce lefts before x p (e ∷ row) ahead = (if nat_eq (ahead % 2) 0 then true else (if nat_lt before (slice_index_or lefts x 0) then true else is_reduce p e)) && all_reduce lefts before (suc x) p row (ahead / 2)

-- the item is among these, with at least these look-aheads
abbrev pub covers : List (ℕ × ℕ × ℕ) → ℕ → ℕ → ℕ → Bool
covers [] p d ahead = false
covers (i ∷ items) p d ahead = (nat_eq i.0 p && (nat_eq i.1 d && is_sub ahead i.2)) || covers items p d ahead

module _ (lefts rights : List ℕ) (terminals : ℕ) (facts : List (ℕ × Bool × ℕ)) (rules : List (ℕ × List ℕ × ℕ × ℕ)) (states : List State) where
  -- the step leads to a state with the item one further, and what may follow the symbol is among what is closed
  abbrev pub goes_on : List (ℕ × ℕ × ℕ × ℕ) → ℕ → ℕ → ℕ → ℕ → List ℕ → Step → Bool
  goes_on closed p d ahead x xs Fail = false
  goes_on closed p d ahead x xs (Go s) = covers (slice_index_or states s no_state).kernel p (suc d) ahead
      && (nat_lt x terminals || is_sub (heads terminals facts xs ahead) (closed_of closed x))
  goes_on closed p d ahead x xs (Reduce q) = false
  goes_on closed p d ahead x xs Accept = false

  -- what is to be done of a rule where this is left of its right side: it is reduced, or the next symbol leads to a state with the item one
  -- further, and what may follow that symbol is among what is closed
  abbrev pub item_ok : List Step → List (ℕ × ℕ × ℕ × ℕ) → ℕ → ℕ → ℕ → List ℕ → Bool
  item_ok row closed p d ahead [] = all_reduce lefts (before_at rules p) 0 p row ahead
  item_ok row closed p d ahead (x ∷ xs) = goes_on closed p d ahead x xs (slice_index_or row x Fail)

  -- the same of each item of a kernel
  abbrev pub kernel_ok : List Step → List (ℕ × ℕ × ℕ × ℕ) → List (ℕ × ℕ × ℕ) → Bool
  kernel_ok row closed [] = true
  kernel_ok row closed (i ∷ items) = item_ok row closed i.0 i.1 i.2 (behind i.1 (side_at rules i.0)) && kernel_ok row closed items

  -- a rule that begins here, unless nothing may follow it or it does not stand behind what led here
  abbrev pub begun_ok : ℕ → List Step → List (ℕ × ℕ × ℕ × ℕ) → ℕ → List ℕ → ℕ → ℕ → Bool
  begun_ok prev row closed p xs at ahead = if nat_eq ahead 0 then true else (if nat_lt at (slice_index_or rights prev 0) then true else item_ok row closed p 0 ahead xs)

  -- the same of each rule, from this number on
  abbrev pub closed_ok : ℕ → List Step → List (ℕ × ℕ × ℕ × ℕ) → ℕ → List (ℕ × List ℕ × ℕ × ℕ) → Bool
  closed_ok prev row closed p [] = true
  closed_ok prev row closed p (r ∷ rs) = begun_ok prev row closed p r.1 r.3 (closed_of closed r.0) && closed_ok prev row closed (suc p) rs

  -- all items of a state are right
  abbrev pub state_ok : ℕ → List Step → State → Bool
  state_ok prev row state = kernel_ok row state.closed state.kernel && closed_ok prev row state.closed 0 rules

  -- the same of each state with its row
  abbrev pub states_ok : List ℕ → List (List Step) → List State → Bool
  states_ok accesses rows [] = true
  states_ok accesses [] (state ∷ states) = false
  states_ok accesses (row ∷ rows) (state ∷ states) = state_ok (slice_index_or accesses 0 0) row state && states_ok (behind 1 accesses) rows states

-- the step accepts
abbrev pub is_accept : Step → Bool
is_accept Fail = false
is_accept (Go s) = false
is_accept (Reduce p) = false
is_accept Accept = true

-- with the whole input read, the first state behind the start accepts
abbrev pub start_ok : Tables → Step → Bool
start_ok t Fail = false
start_ok t (Go s) = is_accept (entry t s 0)
start_ok t (Reduce p) = false
start_ok t Accept = false

-- what completeness asks for
abbrev pub tables_ok : Tables → ℕ → List (ℕ × Bool × ℕ) → List State → Bool
tables_ok t most facts states = moves_ok t
    && (are_facts most t.grammar.terminals facts (sides t.grammar.rules)
    && (start_ok t (entry t 0 t.grammar.start)
    && (is_sub 1 (closed_of (slice_index_or states 0 no_state).closed t.grammar.start)
    && states_ok t.grammar.lefts t.grammar.rights t.grammar.terminals facts (sides t.grammar.rules) states t.accesses t.rows states)))

-- the turns that so many tokens pay for
abbrev pub paid : ℕ → List ℕ → ℕ
paid most [] = 0
paid most (k ∷ ks) = suc most + paid most ks
