use Rattle.flow_code.specs.Points.{PlainFlow}
use Rattle.ssa_form.specs.Views.{version_seen}
use Rattle.ssa_form.specs.Replacing.{Replaces, ArePut}
use Rattle.ssa_form.proofs.places.settled.Given as goal

abbrev pub invariant-loop : goal.invariant-loop
invariant-loop l = (flow : PlainFlow) → ArePut flow l.asks.keys l.places → Replaces flow l.asks.keys (version_seen l.initial.found) (version_seen l.found)
