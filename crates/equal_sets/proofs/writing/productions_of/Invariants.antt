use Rattle.std.proofs.Common.{take}
use Rattle.equal_sets.specs.Written.{AreProductionsOf}
use Rattle.equal_sets.proofs.writing.productions_of.Given as goal

abbrev pub invariant-loop-production : goal.invariant-loop-production
invariant-loop-production l = AreProductionsOf l.sets (take l.production-index l.productions) l.made.items
