use Rattle.std.proofs.Common.{◌≡◌, length}
use Rattle.call_options.specs.Words as spec
use Rattle.call_options.proofs.saying.is_named.Given as goal

-- what is left decides
abbrev pub invariant-loop-names : goal.invariant-loop-names
invariant-loop-names l = spec.is_named l.names l.rest ≡ spec.is_named l.name l.bytes

abbrev pub decreases-loop-names : goal.decreases-loop-names
decreases-loop-names l = length l.names
