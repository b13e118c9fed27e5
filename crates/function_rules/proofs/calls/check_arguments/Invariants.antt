use Rattle.std.proofs.Common.{◌≡◌, List, drop}
use Rattle.std.specs.List.{find}
use Rattle.php_syntax.specs.Trees.{PlainFunction}
use Rattle.tree_walks.specs.Seen.{calls_seen}
use Rattle.function_rules.specs.Causes.{is_misused}
use Rattle.function_rules.specs.Table.{IsTable}
use Rattle.function_rules.proofs.calls.check_arguments.Given as goal

-- the first call that passes is among those that are left
abbrev pub invariant-loop-call : goal.invariant-loop-call
invariant-loop-call l = (functions : List PlainFunction) → IsTable l.table.rows functions → find (is_misused functions) (calls_seen (drop l.call-index l.calls)) ≡ find (is_misused functions) (calls_seen l.calls)
