-- The signs behind an expression.
use Rattle.std.specs.Prelude.{Bool, List, Option, Some, None, if◌then◌else◌}
use Rattle.script_grammar.specs.Terminals.{Terminal}
use Rattle.expr_machine.specs.Actions.{Action}
use Rattle.expr_machine.specs.Machine.{behind}
use Rattle.stmt_machine.specs.Machine.{semicolon_next, paren_end_next, ended_by}
use Rattle.stmt_machine.specs.Made.{on_some}
use Rattle.stmt_parser.specs.declared.reads.End.{End}
use Rattle.stmt_parser.specs.declared.reads.End.TheVariants as end

-- what stands behind a sign, if its test says that it stands next
abbrev pub behind_test : (List Terminal → Bool) → List Terminal → Option (List Terminal)
behind_test test ts = if test ts then Some (behind ts) else None

-- what stands behind these signs, if they stand next
abbrev pub behind_end : End → List Terminal → Option (List Terminal)
behind_end end.Semicolon ts = behind_test semicolon_next ts
behind_end end.Bracket ts = behind_test paren_end_next ts
behind_end end.BracketSemicolon ts = on_some (behind_test paren_end_next ts) (behind_test semicolon_next)

-- an expression that these signs have to follow, and what stands behind them
abbrev pub ended_with : End → Option (List Action × List Terminal) → Option (List Action × List Terminal)
ended_with end.Semicolon found = ended_by semicolon_next found
ended_with end.Bracket found = ended_by paren_end_next found
ended_with end.BracketSemicolon found = ended_by semicolon_next (ended_by paren_end_next found)
