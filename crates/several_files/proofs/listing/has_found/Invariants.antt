use Rattle.std.proofs.Common.{◌≡◌, length, map}
use Rattle.several_files.specs.Listing as spec
use Rattle.several_files.specs.Views.{file_as}
use Rattle.several_files.proofs.listing.has_found.Given as goal

-- what is left decides
abbrev pub invariant-loop-file : goal.invariant-loop-file
invariant-loop-file l = spec.has_found (map file_as l.rest) ≡ spec.has_found (map file_as l.files)

abbrev pub decreases-loop-file : goal.decreases-loop-file
decreases-loop-file l = length l.rest
