use Rattle.std.proofs.Common.{◌≡◌, ◌++◌, length, map, string_bytes}
use Rattle.several_files.specs.Listing as spec
use Rattle.several_files.proofs.listing.add_options.Given as goal

-- what is put, and what is left to put
abbrev pub invariant-loop-option : goal.invariant-loop-option
invariant-loop-option l = map string_bytes l.words.items ++ spec.without_json (map string_bytes l.rest) ≡ map string_bytes l.initial.words.items ++ spec.without_json (map string_bytes l.options)

abbrev pub decreases-loop-option : goal.decreases-loop-option
decreases-loop-option l = length l.rest
