use Rattle.std.proofs.Common.{◌≡◌, ◌++◌, length}
use Rattle.several_files.specs.Lines as spec
use Rattle.several_files.proofs.lines.first_line.Given as goal

-- what is taken, and what is left to take
abbrev pub invariant-loop-first : goal.invariant-loop-first
invariant-loop-first l = l.line ++ spec.first_line l.rest ≡ spec.first_line l.text

abbrev pub decreases-loop-first : goal.decreases-loop-first
decreases-loop-first l = length l.rest
