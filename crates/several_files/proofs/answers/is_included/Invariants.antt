use Rattle.std.proofs.Common.{◌≡◌, length, map}
use Rattle.std.specs.List.{list_any}
use Rattle.several_files.specs.Lines as spec
use Rattle.several_files.specs.Views.{answer_as}
use Rattle.several_files.proofs.answers.is_included.Given as goal

-- what is left decides
abbrev pub invariant-loop-answer : goal.invariant-loop-answer
invariant-loop-answer l = list_any (spec.is_part_of l.name) (map answer_as l.rest) ≡ list_any (spec.is_part_of l.name) (map answer_as l.answers)

abbrev pub decreases-loop-answer : goal.decreases-loop-answer
decreases-loop-answer l = length l.rest
