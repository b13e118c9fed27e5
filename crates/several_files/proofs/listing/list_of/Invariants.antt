use Rattle.std.proofs.Common.{◌≡◌, ◌++◌, length, map}
use Rattle.several_files.specs.Listing as spec
use Rattle.several_files.proofs.listing.list_of.Given as goal

-- what is put, and what is left to put; what is left decides
abbrev pub invariant-loop-rest : goal.invariant-loop-rest
invariant-loop-rest l = (l.list ++ spec.list_of (map (λ name. name.now) l.rest) ≡ spec.list_of (map (λ name. name.now) l.names))
    × (spec.are_listable (map (λ name. name.now) l.rest) ≡ spec.are_listable (map (λ name. name.now) l.names))

abbrev pub decreases-loop-rest : goal.decreases-loop-rest
decreases-loop-rest l = length l.rest
