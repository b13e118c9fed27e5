use Rattle.std.proofs.Common.{◌≡◌, length, reverse}
use Rattle.plain_values.specs.Numeric as spec
use Rattle.plain_values.proofs.numeric.skip_blanks_behind.Given as goal

abbrev pub invariant-loop-last : goal.invariant-loop-last
invariant-loop-last l = spec.skip_blanks (reverse l.rest) ≡ spec.skip_blanks (reverse l.text)

abbrev pub decreases-loop-last : goal.decreases-loop-last
decreases-loop-last l = length l.rest
