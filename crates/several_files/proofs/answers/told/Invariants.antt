use Rattle.std.proofs.Common.{◌≡◌, ◌++◌, length, map}
use Rattle.several_files.specs.Lines as spec
use Rattle.several_files.specs.Views.{answer_as}
use Rattle.several_files.proofs.answers.told.Given as goal

-- what is told, and what is left to tell
abbrev pub invariant-loop-rest : goal.invariant-loop-rest
invariant-loop-rest l = map (λ answer. answer_as answer.now) l.told.items ++ spec.told_among (map answer_as l.answers) (map answer_as l.rest) ≡ spec.told (map answer_as l.answers)

abbrev pub decreases-loop-rest : goal.decreases-loop-rest
decreases-loop-rest l = length l.rest
