use Rattle.flow_code.specs.Points.{PlainFlow}
use Rattle.ssa_form.specs.Replacing.{ArePut, AreAsked, AreHeld}
use Rattle.ssa_form.proofs.remaking.put_versions.Given as goal

abbrev pub invariant-loop-place : goal.invariant-loop-place
invariant-loop-place l = (flow : PlainFlow) → ArePut flow l.placed.asks.now.keys l.placed.places.now → AreAsked l.placed.asks.now.keys l.old
    → AreHeld flow l.placed.asks.now.keys l.old l.versions l.asks.keys l.place
