use Rattle.std.proofs.Common.{◌≡◌, take}
use Rattle.given_texts.proofs.joining.copied.Given as goal

abbrev pub invariant-loop-production : goal.invariant-loop-production
invariant-loop-production l = l.copied.items ≡ take l.production-index l.productions
