-- What a whole run of the machine reads.
use Rattle.std.specs.Prelude.{ℕ, ◌+◌, ◌*◌, ◌-◌, List, [], ◌∷◌, ◌++◌, length, Option, Some, None, zero, suc}
use Rattle.php_syntax.specs.declared.token.Sign.{Sign}
use Rattle.php_syntax.specs.declared.token.Sign.TheVariants as sign
use Rattle.script_grammar.specs.declared.operator.Level.{Level}
use Rattle.script_grammar.specs.declared.operator.Operator.{Operator}
use Rattle.script_grammar.specs.Operators.{binary_operator, level_rank}
use Rattle.script_grammar.specs.Terminals.{Terminal, sign_terminal}
use Rattle.expr_machine.specs.declared.frame.Focus.{Focus}
use Rattle.expr_machine.specs.declared.frame.Focus.TheVariants as focus
use Rattle.expr_machine.specs.declared.frame.Frame.{Frame}
use Rattle.expr_machine.specs.Actions.{Action}
use Rattle.expr_machine.specs.Machine.{Move, moves, finished, stuck, move}
use Rattle.expr_machine.specs.Values.{PlainValue, execute}

-- how loosely a sign goes on with what stands before it: 0 is a subscript, a step or an assignment, 1 to 7 an operator of that level, 8 is
-- `??`,
-- 9 is `?`, and 10 nothing at all
abbrev pub other_rank : Sign → ℕ
other_rank sign.OpenBracket = 0
other_rank sign.Increment = 0
other_rank sign.Decrement = 0
other_rank sign.Assign = 0
other_rank sign.JoinAssign = 0
other_rank sign.AddAssign = 0
other_rank sign.SubAssign = 0
other_rank sign.MulAssign = 0
other_rank sign.RemAssign = 0
other_rank sign.CoalesceAssign = 0
other_rank sign.Coalesce = 8
other_rank sign.Question = 9
other_rank _ = 10

-- how loosely a sign goes on, by the level of its operator, if it is a binary one
abbrev pub sign_rank : Option (Level × Operator) → Sign → ℕ
sign_rank (Some found) s = level_rank found.0
sign_rank None s = other_rank s

-- how loosely what is left to read goes on with an expression before it
abbrev pub rank_next : List Terminal → ℕ
rank_next (sign_terminal s ∷ r) = sign_rank (binary_operator s) s
rank_next _ = 10

-- a number that each move makes less
abbrev pub focus_weight : Focus → ℕ
focus_weight focus.Begin = 0
focus_weight (focus.Place x n gap) = 16
focus_weight focus.Subscripted = 15
focus_weight focus.Unary = 14
focus_weight (focus.Operand l) = 13 - level_rank l
focus_weight focus.Chain = 5
focus_weight focus.Coalesced = 4
focus_weight focus.Whole = 0

-- 64 for each terminal that is left, 2 for each thing begun, and the weight of the place
abbrev pub weight : Focus → List Frame → List Terminal → ℕ
weight f fs ts = 64 * length ts + 2 * length fs + focus_weight f

-- the actions before those of the rest, where there is a rest
abbrev pub after_actions : List Action → Option (List Action × List Terminal) → Option (List Action × List Terminal)
after_actions acts None = None
after_actions acts (Some rest) = Some (acts ++ rest.0, rest.1)

-- what a move leads to, where the rest of a run is given
abbrev pub run_from : (Focus → List Frame → List Terminal → Option (List Action × List Terminal)) → List Terminal → Move
    → Option (List Action × List Terminal)
run_from next ts (moves f fs r acts) = after_actions acts (next f fs r)
run_from next ts finished = Some ([], ts)
run_from next ts stuck = None

-- so many moves at most, up to a whole expression: its actions, and what stands behind it
unfoldable pub run : ℕ → Focus → List Frame → List Terminal → Option (List Action × List Terminal)
run zero f fs ts = None
run (suc n) f fs ts = run_from (run n) ts (move f fs ts)

-- from some place on
abbrev pub run_on : Focus → List Frame → List Terminal → Option (List Action × List Terminal)
run_on f fs ts = run (1 + weight f fs ts) f fs ts

-- the longest expression at the front: its actions, and what stands behind it
abbrev pub expr_at : List Terminal → Option (List Action × List Terminal)
expr_at ts = run_on focus.Begin [] ts

-- the values after the actions, with what stands behind the expression
abbrev pub with_values : Option (List PlainValue) → List Terminal → Option (List PlainValue × List Terminal)
with_values None r = None
with_values (Some vs) r = Some (vs, r)

-- what the actions of a run make of the values so far, if there is a run
abbrev pub executed : Option (List Action × List Terminal) → List PlainValue → Option (List PlainValue × List Terminal)
executed None vs = None
executed (Some found) vs = with_values (execute found.0 vs) found.1

-- what a run makes of the values so far, from some place on, and of a whole expression
abbrev pub reads_on : Focus → List Frame → List Terminal → List PlainValue → Option (List PlainValue × List Terminal)
reads_on f fs ts vs = executed (run_on f fs ts) vs

-- the longest expression at the front: the values with its own, and what stands behind it
abbrev pub reads_expr : List Terminal → List PlainValue → Option (List PlainValue × List Terminal)
reads_expr ts vs = reads_on focus.Begin [] ts vs

-- what a move leads to, with the values after its actions
abbrev pub reads_after : Option (List PlainValue) → Focus → List Frame → List Terminal → Option (List PlainValue × List Terminal)
reads_after None f fs r = None
reads_after (Some vs) f fs r = reads_on f fs r vs

-- what a move leads to, with the values before it
abbrev pub reads_next : List Terminal → List PlainValue → Move → Option (List PlainValue × List Terminal)
reads_next ts vs (moves f fs r acts) = reads_after (execute acts vs) f fs r
reads_next ts vs finished = Some (vs, ts)
reads_next ts vs stuck = None
