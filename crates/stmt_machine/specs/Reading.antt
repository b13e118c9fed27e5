-- What a whole run of the machine reads.
use Rattle.std.specs.Prelude.{ℕ, ◌+◌, ◌*◌, Bool, true, false, List, [], ◌∷◌, ◌++◌, length, Option, Some, None, zero, suc}
use Rattle.script_grammar.specs.declared.keyword.Keyword.TheVariants as word
use Rattle.script_grammar.specs.Terminals.{Terminal, word_terminal}
use Rattle.stmt_machine.specs.declared.frame.Focus.{Focus}
use Rattle.stmt_machine.specs.declared.frame.Focus.TheVariants as focus
use Rattle.stmt_machine.specs.declared.frame.Frame.{Frame}
use Rattle.stmt_machine.specs.Actions.{StmtAction}
use Rattle.stmt_machine.specs.Machine.{Move, moves, finished, stuck, move}
use Rattle.stmt_machine.specs.Made.{Made, nothing_made, execute_stmts, on_some}

-- whether an `else` or an `elseif` stands next
abbrev pub else_next : List Terminal → Bool
else_next (word_terminal word.Else ∷ r) = true
else_next (word_terminal word.ElseIf ∷ r) = true
else_next _ = false

-- a number that each move makes less
abbrev pub focus_weight : Focus → ℕ
focus_weight focus.Behind = 1
focus_weight (focus.Start l) = 3
focus_weight (focus.Listed l n) = 2
focus_weight focus.Parameters = 1
focus_weight _ = 0

-- 64 for each terminal that is left, 2 for each thing begun, and the weight of the place
abbrev pub weight : Focus → List Frame → List Terminal → ℕ
weight f fs ts = 64 * length ts + 2 * length fs + focus_weight f

-- the actions before those of the rest, where there is a rest
abbrev pub after_actions : List StmtAction → Option (List StmtAction) → Option (List StmtAction)
after_actions acts None = None
after_actions acts (Some rest) = Some (acts ++ rest)

-- what a move leads to, where the rest of a run is given
abbrev pub run_from : (Focus → List Frame → List Terminal → Option (List StmtAction)) → Move → Option (List StmtAction)
run_from next (moves f fs r acts) = after_actions acts (next f fs r)
run_from next finished = Some []
run_from next stuck = None

-- so many moves at most, up to the end of a file
unfoldable pub run : ℕ → Focus → List Frame → List Terminal → Option (List StmtAction)
run zero f fs ts = None
run (suc n) f fs ts = run_from (run n) (move f fs ts)

-- from some place on
abbrev pub run_on : Focus → List Frame → List Terminal → Option (List StmtAction)
run_on f fs ts = run (1 + weight f fs ts) f fs ts

-- the actions of a file
abbrev pub file_at : List Terminal → Option (List StmtAction)
file_at ts = run_on focus.Behind [] ts

-- what a run makes of what was made before, from some place on, and of a whole file
abbrev pub makes_on : Focus → List Frame → List Terminal → Made → Option Made
makes_on f fs ts m = on_some (run_on f fs ts) (λ acts. execute_stmts acts m)

-- what a run makes of a whole file
abbrev pub makes_file : List Terminal → Option Made
makes_file ts = makes_on focus.Behind [] ts nothing_made

-- what a move leads to, with what is made after its actions
abbrev pub makes_after : Option Made → Focus → List Frame → List Terminal → Option Made
makes_after None f fs r = None
makes_after (Some m) f fs r = makes_on f fs r m

-- what a move leads to, with what was made before it
abbrev pub makes_next : Made → Move → Option Made
makes_next m (moves f fs r acts) = makes_after (execute_stmts acts m) f fs r
makes_next m finished = Some m
makes_next m stuck = None
