use Rattle.std.proofs.Common.{◌-◌}
use Rattle.extraction.specs.Listed.{IsListed}
use Rattle.extraction.proofs.listing.list_all.Given as goal

abbrev pub invariant-loop-name : goal.invariant-loop-name
invariant-loop-name g l = IsListed (g.L.Lister.asks l.lister) (g.L.Lister.lists l.lister) l.initial.work l.work l.taken

abbrev pub decreases-loop-name : goal.decreases-loop-name
decreases-loop-name g l = 9223372036854775808 - l.taken
