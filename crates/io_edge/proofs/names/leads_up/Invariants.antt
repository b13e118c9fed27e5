use Rattle.std.proofs.Common.{◌≡◌, length, map}
use Rattle.std.specs.List.{list_all}
use Rattle.io_edge.specs.Names.{is_parent}
use Rattle.io_edge.proofs.names.leads_up.Given as goal

-- all of what is left are, or not all parts
abbrev pub invariant-loop-rest : goal.invariant-loop-rest
invariant-loop-rest l =
    list_all is_parent (map (λ part. part.now) l.rest) ≡ list_all is_parent (map (λ part. part.now) l.parts)

abbrev pub decreases-loop-rest : goal.decreases-loop-rest
decreases-loop-rest l = length l.rest
