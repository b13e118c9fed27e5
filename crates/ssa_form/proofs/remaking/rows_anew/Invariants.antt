use Rattle.std.proofs.Common.{◌≤◌, ◌-◌, ℕ, length}
use Rattle.std.specs.Prelude.{Contains}
use Rattle.numbered_sets.specs.Numbers.{Keeps}
use Rattle.flow_code.specs.Points.{PlainFlow}
use Rattle.ssa_form.specs.JoinRows.{rows_in, AreEnds}
use Rattle.ssa_form.specs.Replacing.{ArePut, AreLinked, AreMadeAnew}
use Rattle.ssa_form.proofs.remaking.rows_anew.Given as goal

abbrev pub invariant-loop-placed : goal.invariant-loop-placed
invariant-loop-placed l =
    Keeps l.initial.asks.keys l.asks.keys × (length l.rows.ends.items ≤ length l.asks.keys) × AreEnds (length l.rows.versions.items) 0 l.rows.ends.items
    × ((flow : PlainFlow) → ArePut flow l.placed.asks.now.keys l.placed.places.now → AreLinked flow l.placed.asks.now.keys (rows_in l.placed.rows.now)
    → ((p x : ℕ) → Contains l.initial.asks.keys (p, x) → Contains l.placed.asks.now.keys (p, x))
    → AreMadeAnew flow l.placed.asks.now.keys (rows_in l.placed.rows.now) l.asks.keys (rows_in l.rows))

abbrev pub decreases-loop-placed : goal.decreases-loop-placed
decreases-loop-placed l = 9223372036854775808 - length l.rows.ends.items
