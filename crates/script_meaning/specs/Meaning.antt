-- What a program means: what a run of it prints for a request within a number of units, and how the run ends.
use Rattle.std.specs.Prelude.{ℕ, zero, suc, List, [], Option, Some, None}
use Rattle.text_base.specs.declared.limits.TheConstants.{CALL_LIMIT}
use Rattle.php_syntax.specs.Trees.{PlainFunction}
use Rattle.plain_values.specs.Plain.{Plain, null}
use Rattle.builtin_meaning.specs.declared.builtin.Builtin.{Builtin}
use Rattle.builtin_meaning.specs.Names.{builtin_named}
use Rattle.builtin_meaning.specs.Values.{builtin_value}
use Rattle.script_meaning.specs.Requests.{PlainRequest}
use Rattle.script_meaning.specs.Runs.{State, Run, Going, Over, ◌then_do◌, End, Ended, Deep, with_unit, unit_at, result_of}
use Rattle.script_meaning.specs.Programs.{PlainProgram, function_named, arguments_of}
use Rattle.script_meaning.specs.Expressions.{Environment}
use Rattle.script_meaning.specs.Statements.{Flow, goes_on, breaks, continues, returns, statements}

-- the value of a call whose body was left so: null where it was left at its end
unfoldable pub value_returned : Flow → Plain
value_returned goes_on = null
value_returned breaks = null
value_returned continues = null
value_returned (returns v) = v

-- a call of a function of the script takes a unit after its arguments, and is then entered; a program calls no function that is not there
unfoldable pub call_one : Option PlainFunction → (PlainFunction → State → Run Plain) → State → Run Plain
unfolding unit_at
call_one None enter s = Going null s
call_one (Some f) enter s = with_unit s (enter f)

-- a function of PHP gives its value at once, and takes no unit; any other name is one of the script's functions
unfoldable pub builtin_or : Option Builtin → List Plain → (State → Run Plain) → State → Run Plain
unfolding result_of
builtin_or (Some f) args own s = result_of (builtin_value f args) s
builtin_or None args own s = own s

-- the body of a function, over variables of its own; its caller has its variables again behind it
unfoldable pub run_body : Environment → PlainFunction → List Plain → State → Run Plain
unfolding value_returned
run_body w f args s = statements w f.body_of (record s { variables = arguments_of f.params_of args }) then_do λ flow after. Going
    (value_returned flow) (record after { variables = s.variables })

-- a call, where so many more calls may be open
unfoldable pub call_within : PlainRequest → List PlainFunction → ℕ → List ℕ → List Plain → State → Run Plain
unfolding call_one run_body builtin_or
call_within r fs zero name args s = builtin_or (builtin_named name) args (call_one (function_named fs name) (λ f s. Over Deep s.printed)) s
call_within r fs (suc room) name args s =
    builtin_or (builtin_named name) args
    (call_one (function_named fs name) (λ f s. run_body (record { request = r; call = call_within r fs room }) f args s)) s

-- what a run printed, and how it ended
pub record Outcome : Type 0 where
  pub printed : List ℕ
  pub end : End

-- statements outside functions that were left, at their end or by `return`, end the run as `exit` does; a run that was over keeps its end
unfoldable pub outcome_of : Run Flow → Outcome
outcome_of (Going flow s) = record { printed = s.printed; end = Ended }
outcome_of (Over how printed) = record { printed = printed; end = how }

-- the outcome of a program for a request within n units; units, and that only so many calls are open at once, are this project's own
unfoldable pub meaning : PlainProgram → PlainRequest → ℕ → Outcome
unfolding call_within outcome_of
meaning program r n =
    outcome_of (statements (record { request = r; call = call_within r program.functions_of CALL_LIMIT }) program.main_of
    (record { left = n; variables = []; printed = [] }))
