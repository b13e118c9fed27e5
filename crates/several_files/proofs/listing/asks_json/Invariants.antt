use Rattle.std.proofs.Common.{◌≡◌, length, map, string_bytes}
use Rattle.std.specs.List.{list_any}
use Rattle.several_files.specs.Listing as spec
use Rattle.several_files.proofs.listing.asks_json.Given as goal

-- what is left decides
abbrev pub invariant-loop-option : goal.invariant-loop-option
invariant-loop-option l = list_any spec.is_json (map string_bytes l.rest) ≡ list_any spec.is_json (map string_bytes l.options)

abbrev pub decreases-loop-option : goal.decreases-loop-option
decreases-loop-option l = length l.rest
