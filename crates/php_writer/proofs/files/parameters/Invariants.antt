use Rattle.std.proofs.Common.{◌≡◌, ◌++◌, List, drop}
use Rattle.php_syntax.specs.Trees.{params_of_list}
use Rattle.spellable.specs.Marks.{Mark, all_written}
use Rattle.php_writer.specs.Written.{more_params_marks}
use Rattle.php_writer.proofs.files.parameters.Given as goal

-- what is left to write stands behind what is written
abbrev pub invariant-loop-another : goal.invariant-loop-another
invariant-loop-another l = (behind : List Mark) → l.out.bytes ++ all_written (more_params_marks (params_of_list (drop l.another-index l.rest)) behind) ≡ l.initial.out.bytes ++ all_written (more_params_marks (params_of_list l.rest) behind)
