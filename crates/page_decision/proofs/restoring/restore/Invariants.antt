use Rattle.std.proofs.Common.{◌≡◌, ◌++◌, drop, length, map}
use Rattle.page_decision.specs.Restoring.{restored, use_of}
use Rattle.page_decision.proofs.restoring.restore.Given as goal

abbrev pub invariant-loop-node : goal.invariant-loop-node
invariant-loop-node l = record {
  made : map use_of l.made.nodes.items ++ map (restored l.productions) (drop l.node-index l.nodes) ≡ map (restored l.productions) l.nodes;
  all : length l.made.nodes.items ≡ l.node-index;
}
