use Rattle.std.proofs.Common.{◌≡◌, length, map}
use Rattle.io_edge.specs.Names.{goes_on}
use Rattle.io_edge.proofs.names.goes_on.Given as goal

-- what is left decides
abbrev pub invariant-loop-folders : goal.invariant-loop-folders
invariant-loop-folders l =
    goes_on (map (λ part. part.now) l.folders) (map (λ part. part.now) l.rest)
    ≡ goes_on (map (λ part. part.now) l.root) (map (λ part. part.now) l.name)

abbrev pub decreases-loop-folders : goal.decreases-loop-folders
decreases-loop-folders l = length l.folders
