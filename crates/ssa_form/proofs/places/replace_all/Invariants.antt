use Rattle.std.proofs.Common.{◌≡◌, length}
use Rattle.flow_code.specs.Points.{PlainFlow}
use Rattle.ssa_form.specs.JoinRows.{rows_in}
use Rattle.ssa_form.specs.Replacing.{ArePut, AreLinked}
use Rattle.ssa_form.proofs.places.replace_all.Given as goal

abbrev pub invariant-loop-step : goal.invariant-loop-step
invariant-loop-step l =
    (length l.places.items ≡ length l.initial.places.items)
    × ((flow : PlainFlow) → AreLinked flow l.asks.keys (rows_in l.rows) → ArePut flow l.asks.keys l.initial.places.items → ArePut flow l.asks.keys l.places.items)
