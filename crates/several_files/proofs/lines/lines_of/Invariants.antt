use Rattle.std.proofs.Common.{◌≡◌, ◌++◌, length, map}
use Rattle.several_files.specs.Lines as spec
use Rattle.several_files.specs.Views.{answer_as}
use Rattle.several_files.proofs.lines.lines_of.Given as goal

-- what is put, and what is left to put
abbrev pub invariant-loop-rest : goal.invariant-loop-rest
invariant-loop-rest l = l.text ++ spec.lines_of (map (λ answer. answer_as answer.now) l.rest) ≡ spec.lines_of (map (λ answer. answer_as answer.now) l.answers)

abbrev pub decreases-loop-rest : goal.decreases-loop-rest
decreases-loop-rest l = length l.rest
