use Rattle.std.proofs.Common.{◌≡◌, ◌++◌, List, drop}
use Rattle.php_syntax.specs.Trees.{functions_of_list}
use Rattle.spellable.specs.Marks.{Mark, all_written}
use Rattle.php_writer.specs.Written.{functions_marks}
use Rattle.php_writer.proofs.files.functions.Given as goal

-- what is left to write stands behind what is written
abbrev pub invariant-loop-each : goal.invariant-loop-each
invariant-loop-each l = (behind : List Mark) → l.out.bytes ++ all_written (functions_marks (functions_of_list (drop l.each-index l.functions)) behind) ≡ l.initial.out.bytes ++ all_written (functions_marks (functions_of_list l.functions) behind)
