use Rattle.std.proofs.Common.{◌≡◌, length, map, string_bytes}
use Rattle.call_options.specs.Words as spec
use Rattle.call_options.proofs.saying.say.Given as goal

-- what is left decides
abbrev pub invariant-loop-word : goal.invariant-loop-word
invariant-loop-word l = spec.say (map string_bytes l.rest) l.name ≡ spec.say (map string_bytes l.words) l.name

abbrev pub decreases-loop-word : goal.decreases-loop-word
decreases-loop-word l = length l.rest
