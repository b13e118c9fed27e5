use Rattle.std.proofs.Common.{◌≡◌, drop}
use Rattle.strong_components.specs.Search.{waits}
use Rattle.strong_components.proofs.opening.push_edges.Given as goal

abbrev pub invariant-loop-to : goal.invariant-loop-to
invariant-loop-to l = waits l.from (drop l.to-index l.targets) l.waiting ≡ waits l.from l.targets l.initial.waiting
