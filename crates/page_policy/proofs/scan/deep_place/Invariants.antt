use Rattle.std.proofs.Common.{◌≡◌, ◌+◌, length}
use Rattle.page_policy.specs.Refusals.{too_deep, deep_at}
use Rattle.page_policy.proofs.scan.deep_place.Given as goal

-- what is left decides
abbrev pub invariant-loop-byte : goal.invariant-loop-byte
invariant-loop-byte l = (too_deep l.scan.escaped l.scan.inside l.scan.depth l.at l.rest ≡ deep_at l.file) × (l.at + length l.rest ≡ length l.file)

abbrev pub decreases-loop-byte : goal.decreases-loop-byte
decreases-loop-byte l = length l.rest
