use Rattle.std.proofs.Common.{◌≡◌, ◌+◌, length}
use Rattle.site_check.specs.Listed as spec
use Rattle.site_check.proofs.listing.line_length.Given as goal

-- the bytes so far and those of what is left
abbrev pub invariant-loop-first : goal.invariant-loop-first
invariant-loop-first l = (l.length + spec.line_length l.rest ≡ spec.line_length l.text) × (l.length + length l.rest ≡ length l.text)

abbrev pub decreases-loop-first : goal.decreases-loop-first
decreases-loop-first l = length l.rest
