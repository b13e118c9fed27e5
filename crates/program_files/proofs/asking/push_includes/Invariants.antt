use Rattle.std.proofs.Common.{◌≡◌, ◌++◌, List, ℕ, map, length}
use Rattle.program_files.proofs.asking.push_includes.Given as goal

abbrev pub invariant-loop-written : goal.invariant-loop-written
invariant-loop-written l = map (λ (w : List ℕ). (l.file, w)) l.found.items ++ l.includes ≡ map (λ (w : List ℕ). (l.file, w)) l.initial.found.items ++ l.initial.includes

abbrev pub decreases-loop-written : goal.decreases-loop-written
decreases-loop-written l = length l.found.items
