use Rattle.std.proofs.Common.{take}
use Rattle.flow_code.specs.Points.{PlainFlow}
use Rattle.ssa_form.specs.Views.{version_seen, versions_seen}
use Rattle.ssa_form.specs.Replacing.{ArePut, IsSeen}
use Rattle.ssa_form.proofs.places.only_one.Given as goal

abbrev pub invariant-loop-link : goal.invariant-loop-link
invariant-loop-link l = (flow : PlainFlow) → ArePut flow l.asks.keys l.places → IsSeen flow l.asks.keys (versions_seen (take l.link-index l.row)) (version_seen l.own) l.seen
