use Rattle.std.proofs.Common.{◌≡◌, ◌++◌, List}
use Rattle.std.specs.Vec.Iter.{into_iter_items}
use Rattle.php_syntax.specs.Trees.{PlainFunction, functions_of_list}
use Rattle.program_rules.specs.Programs.{taken}
use Rattle.function_rules.specs.Table.{IsTable}
use Rattle.function_rules.proofs.stubs.take_stubs.Given as goal

abbrev pub invariant-loop-function : goal.invariant-loop-function
invariant-loop-function l =
    (l.fn.functions.items ≡ l.yielded ++ into_iter_items l.function-iterator)
    × ((own : List PlainFunction) → IsTable l.table.rows own → functions_of_list l.stubs.items ≡ taken own (functions_of_list l.yielded))
