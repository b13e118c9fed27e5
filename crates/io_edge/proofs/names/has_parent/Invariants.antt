use Rattle.std.proofs.Common.{◌≡◌, length, map}
use Rattle.std.specs.List.{list_any}
use Rattle.io_edge.specs.Names.{is_parent}
use Rattle.io_edge.proofs.names.has_parent.Given as goal

-- there is one in what is left, or nowhere
abbrev pub invariant-loop-rest : goal.invariant-loop-rest
invariant-loop-rest l =
    list_any is_parent (map (λ part. part.now) l.rest) ≡ list_any is_parent (map (λ part. part.now) l.parts)

abbrev pub decreases-loop-rest : goal.decreases-loop-rest
decreases-loop-rest l = length l.rest
