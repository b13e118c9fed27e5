-- The action behind the value of a statement.
use Rattle.stmt_machine.specs.Actions.{StmtAction, run_action, echo_action, return_action}
use Rattle.std.specs.Prelude.{true}
use Rattle.stmt_parser.specs.declared.begins.Last.{Last}
use Rattle.stmt_parser.specs.declared.begins.Last.TheVariants as last

-- the action of an expression as a statement, of a print and of a `return`
abbrev pub last_action : Last → StmtAction
last_action last.Run = run_action
last_action last.Print = echo_action 1
last_action last.Return = return_action true
