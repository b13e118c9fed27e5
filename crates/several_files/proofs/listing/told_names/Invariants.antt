use Rattle.std.proofs.Common.{◌≡◌, ◌++◌, length, map}
use Rattle.several_files.specs.Lines as lines
use Rattle.several_files.specs.Views.{answer_as}
use Rattle.several_files.proofs.listing.told_names.Given as goal

-- what is put, and what is left to put
abbrev pub invariant-loop-rest : goal.invariant-loop-rest
invariant-loop-rest l =
    map (λ name. name.now) l.names.items ++ map (λ answer. answer.file.name) (map (λ answer. answer_as answer.now) l.rest)
    ≡ map (λ answer. answer.file.name) (lines.told (map answer_as l.answers))

abbrev pub decreases-loop-rest : goal.decreases-loop-rest
decreases-loop-rest l = length l.rest
