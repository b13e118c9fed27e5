use Rattle.std.proofs.Common.{◌≡◌, ◌≤◌, ◌+◌, length, map}
use Rattle.several_files.specs.Lines as spec
use Rattle.several_files.specs.Views.{answer_as}
use Rattle.several_files.proofs.lines.count_of.Given as goal

-- what is counted, and what is left to count
abbrev pub invariant-loop-rest : goal.invariant-loop-rest
invariant-loop-rest l = (l.count + spec.count_of l.outcome (map (λ answer. answer_as answer.now) l.rest) ≡ spec.count_of l.outcome (map (λ answer. answer_as answer.now) l.answers))
    × (l.count + length l.rest ≤ length l.answers)

abbrev pub decreases-loop-rest : goal.decreases-loop-rest
decreases-loop-rest l = length l.rest
