-- What a move with its actions leads to, and how the code answers it.
use Rattle.std.specs.Prelude.{◌≡◌, Bool, true, false, List, ◌∷◌, Option, Some, None, Result, IfOk, if◌then◌else◌}
use Rattle.std.specs.Borrow.{Bor}
use Rattle.php_syntax.specs.declared.token.Token.{Token}
use Rattle.script_grammar.specs.Terminals.{Terminal}
use Rattle.expr_machine.specs.Actions.{Action}
use Rattle.expr_machine.specs.Machine.{behind}
use Rattle.expr_machine.specs.Reading.{executed}
use Rattle.expr_machine.specs.Values.{PlainValue}
use Rattle.expr_parser.specs.Heads.{terminals_of}
use Rattle.stmt_machine.specs.declared.frame.Focus.{Focus}
use Rattle.stmt_machine.specs.declared.frame.Focus.TheVariants as focus
use Rattle.stmt_machine.specs.declared.frame.Frame.{Frame}
use Rattle.stmt_machine.specs.Actions.{StmtAction, value_action}
use Rattle.stmt_machine.specs.Machine.{Move, moves, finished, stuck, semicolon_next}
use Rattle.stmt_machine.specs.Made.{Made, with_values, execute_stmts}
use Rattle.stmt_builder.specs.Views.{made_of}
use Rattle.stmt_parser.specs.declared.reader.Reader.{Reader}
use Rattle.stmt_parser.specs.declared.step.Step.{Step}
use Rattle.stmt_parser.specs.declared.step.Step.TheVariants as step

-- another place, with what is begun there, what is left to read, and what is made; or the end, with what is made; or no file
pub data Outcome : Type 0 where
  gone : Focus → List Frame → List Terminal → Made → Outcome
  ended : Made → Outcome
  failed : Outcome

-- on to another place with what was made, or no file where nothing was
abbrev pub gone_with : Option Made → Focus → List Frame → List Terminal → Outcome
gone_with None f fs r = failed
gone_with (Some m) f fs r = gone f fs r m

-- what a move leads to with its actions
unfoldable pub acted : Move → Made → Outcome
acted (moves f fs r acts) m = gone_with (execute_stmts acts m) f fs r
acted finished m = ended m
acted stuck m = failed

-- what the code answered, with what is begun and what is made afterwards
abbrev pub seen : Step → List Frame → Made → Outcome
seen (step.Go f r) fs m = gone f fs (terminals_of r.now) m
seen step.Finished fs m = ended m
seen (step.Stuck r) fs m = failed

-- where there is memory, the code does this move of the machine with its actions: from what was begun and made before to what it answers
-- and what is begun and made afterwards
abbrev pub Moves : {E : Type 0} → Move → Reader → Result Step E → Reader → Type 0
Moves move before result after = IfOk result (λ s. acted move (made_of before.maker) ≡ seen s after.frames (made_of after.maker))

-- on to another place, where an action was done
abbrev pub gone_if : Bool → Focus → List Frame → List Terminal → Made → Outcome
gone_if true f fs r m = gone f fs r m
gone_if false f fs r m = failed

-- the same behind a semicolon
abbrev pub jump_if : Bool → List Frame → List Terminal → Made → Outcome
jump_if done fs ts m = if semicolon_next ts then gone_if done focus.Behind fs (behind ts) m else failed

-- what follows what is made
abbrev pub on_made : Option Made → (Made → Outcome) → Outcome
on_made None next = failed
on_made (Some m) next = next m

-- a move with one more action before its own
abbrev pub with_action : StmtAction → Move → Move
with_action a (moves f fs r acts) = moves f fs r (a ∷ acts)
with_action a finished = stuck
with_action a stuck = stuck

-- a move that is not the end
abbrev pub GoesOn : Move → Type 0
GoesOn (moves f fs r acts) = Unit {0}
GoesOn finished = ⊥
GoesOn stuck = Unit {0}

-- a move behind an expression, whose value is made first
abbrev pub behind_value : Option (List Action × List Terminal) → (List Terminal → Move) → Move
behind_value None next = stuck
behind_value (Some found) next = with_action (value_action found.0) (next found.1)

-- what follows an expression that was read with its value
abbrev pub with_read : Option (List PlainValue × List Terminal) → Made → (List Terminal → Made → Outcome) → Outcome
with_read None m next = failed
with_read (Some found) m next = next found.1 (with_values found.0 m)

-- what follows an expression, whose value is put to those that were made
abbrev pub reads_as : Option (List Action × List Terminal) → Made → (List Terminal → Made → Outcome) → Outcome
reads_as found m next = with_read (executed found m.values) m next

-- what follows an expression that the code has read, with what it left to read, what is begun and what is made afterwards; or has not
abbrev pub read_on : Option (Bor (List Token)) → List Frame → Made → (List Frame → List Terminal → Made → Outcome) → Outcome
read_on None fs m next = failed
read_on (Some r) fs m next = next fs (terminals_of r.now) m

-- where there is memory, the code reads this expression, whatever follows: what was begun stays, and its value is put to what was made
abbrev pub Reads : {E : Type 0} → Option (List Action × List Terminal) → Reader → Result (Option (Bor (List Token))) E → Reader → Type 0
Reads found before result after = IfOk result (λ rest. (next : List Frame → List Terminal → Made → Outcome)
    → reads_as found (made_of before.maker) (next before.frames) ≡ read_on rest after.frames (made_of after.maker) next)
