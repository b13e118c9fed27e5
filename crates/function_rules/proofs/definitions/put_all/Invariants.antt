use Rattle.std.proofs.Common.{◌++◌, List, drop}
use Rattle.php_syntax.specs.Trees.{PlainFunction, functions_of_list}
use Rattle.function_rules.specs.Table.{HasPut}
use Rattle.function_rules.proofs.definitions.put_all.Given as goal

abbrev pub invariant-loop-function : goal.invariant-loop-function
invariant-loop-function l = (rest all : List PlainFunction) → HasPut l.initial.table.rows (functions_of_list l.functions ++ rest) all → HasPut l.table.rows (functions_of_list (drop l.function-index l.functions) ++ rest) all
