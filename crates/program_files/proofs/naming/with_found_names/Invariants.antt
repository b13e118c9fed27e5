use Rattle.std.proofs.Common.{◌≡◌, length}
use Rattle.program_rules.specs.Bodies.{file_with_bodies}
use Rattle.program_files.specs.Steps.{placed_include}
use Rattle.program_files.proofs.Visits.{visited_files}
use Rattle.program_files.proofs.naming.with_found_names.Given as goal

abbrev pub invariant-loop-place : goal.invariant-loop-place
invariant-loop-place l =
    (visited_files (λ file tree. file_with_bodies (placed_include l.fn.files.names.keys l.main file) tree) l.place l.fn.files.names.keys l.trees.items
    ≡ visited_files (λ file tree. file_with_bodies (placed_include l.fn.files.names.keys l.main file) tree) 0 l.fn.files.names.keys l.initial.trees.items)
    × (length l.trees.items ≡ length l.initial.trees.items)
