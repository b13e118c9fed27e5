use Rattle.std.proofs.Common.{take}
use Rattle.flow_code.specs.Points.{PlainFlow}
use Rattle.ssa_form.specs.Views.{versions_seen}
use Rattle.ssa_form.specs.Replacing.{ArePut, ReplacesAll}
use Rattle.ssa_form.proofs.remaking.settle_all.Given as goal

abbrev pub invariant-loop-link : goal.invariant-loop-link
invariant-loop-link l = (flow : PlainFlow) → ArePut flow l.placed.asks.now.keys l.placed.places.now
    → ReplacesAll flow l.placed.asks.now.keys (versions_seen (take l.link-index l.links)) (versions_seen l.row.items)
