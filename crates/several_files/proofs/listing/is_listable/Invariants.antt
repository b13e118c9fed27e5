use Rattle.std.proofs.Common.{◌≡◌, length}
use Rattle.several_files.specs.Listing as spec
use Rattle.several_files.proofs.listing.is_listable.Given as goal

-- what is left decides
abbrev pub invariant-loop-first : goal.invariant-loop-first
invariant-loop-first l = spec.is_listable l.rest ≡ spec.is_listable l.name

abbrev pub decreases-loop-first : goal.decreases-loop-first
decreases-loop-first l = length l.rest
