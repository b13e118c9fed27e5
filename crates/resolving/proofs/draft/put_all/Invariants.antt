use Rattle.std.proofs.Common.{take}
use Rattle.resolving.specs.Draft.{PutsAll}
use Rattle.resolving.proofs.draft.put_all.Given as goal

abbrev pub invariant-loop-production : goal.invariant-loop-production
invariant-loop-production l = PutsAll l.initial.draft l.draft (take l.production-index l.productions)
