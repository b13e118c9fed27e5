use Rattle.std.proofs.Common.{take}
use Rattle.flow_graph.specs.Handed.{AreOwners}
use Rattle.flow_graph.proofs.groups.owners_of.Given as goal

-- the items so far
abbrev pub invariant-loop-item : goal.invariant-loop-item
invariant-loop-item l = AreOwners (take l.item-index l.all) l.keys.keys l.owners.items
