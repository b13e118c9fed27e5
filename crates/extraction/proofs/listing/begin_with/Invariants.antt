use Rattle.std.proofs.Common.{take}
use Rattle.extraction.specs.Steps.{Begins}
use Rattle.extraction.proofs.listing.begin_with.Given as goal

abbrev pub invariant-loop-name : goal.invariant-loop-name
invariant-loop-name l = Begins l.initial.work l.work (take l.name-index l.starts)
