use Rattle.std.proofs.Common.{◌≡◌, ◌≤◌, ◌-◌, ℕ, length, Some, map, slice_get, Contains}
use Rattle.numbered_sets.specs.Numbers.{Keeps}
use Rattle.flow_code.specs.View.{plain_flow_function}
use Rattle.ssa_form.specs.Behind.{behind_rows}
use Rattle.ssa_form.specs.JoinRows.{rows_in, AreEnds}
use Rattle.ssa_form.specs.Joins.{AreFirst, AreRows}
use Rattle.ssa_form.proofs.joins.rows_of.Given as goal

abbrev pub invariant-loop-found_out : goal.invariant-loop-found_out
invariant-loop-found_out l =
    Keeps l.initial.asks.keys l.asks.keys × (length l.rows.ends.items ≤ length l.asks.keys) × AreEnds (length l.rows.versions.items) 0 l.rows.ends.items
    × (AreFirst l.found_out.heads.now → ((h x : ℕ) → Contains l.initial.asks.keys (h, x) → slice_get l.found_out.heads.now h ≡ Some h)
    → AreRows (map plain_flow_function l.found_out.functions.now) l.found_out.heads.now (behind_rows l.found_out) l.found_out.arrivals.now.all.items l.initial.asks.keys l.asks.keys (rows_in l.rows))

abbrev pub decreases-loop-found_out : goal.decreases-loop-found_out
decreases-loop-found_out l = 9223372036854775808 - length l.rows.ends.items
