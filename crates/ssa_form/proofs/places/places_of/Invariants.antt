use Rattle.std.proofs.Common.{◌≡◌, length}
use Rattle.flow_code.specs.Points.{PlainFlow}
use Rattle.ssa_form.specs.JoinRows.{rows_in}
use Rattle.ssa_form.specs.Replacing.{ArePut, AreLinked}
use Rattle.ssa_form.proofs.places.places_of.Given as goal

abbrev pub invariant-loop : goal.invariant-loop
invariant-loop l = (length l.places.items ≡ length l.asks.keys) × ((flow : PlainFlow) → AreLinked flow l.asks.keys (rows_in l.rows) → ArePut flow l.asks.keys l.places.items)
