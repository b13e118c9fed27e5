use Rattle.std.proofs.Common.{◌≡◌, ◌≤◌, ℕ, suc, length, Some, slice_get}
use Rattle.std.specs.Prelude.{vec_len}
use Rattle.flow_graph.specs.Steps.{steps_seen}
use Rattle.flow_graph.specs.Heads.{AreHeads, RowsGoOn}
use Rattle.flow_graph.proofs.heads.heads_of.Given as goal

abbrev pub invariant-loop-point : goal.invariant-loop-point
invariant-loop-point l =
    (length l.heads.items ≡ l.point) × AreHeads (steps_seen l.steps) l.arrivals.all.items l.heads.items
    × (l.head ≤ l.point) × ((p : ℕ) → suc p ≡ l.point → slice_get l.heads.items p ≡ Some l.head)
    × (length l.steps ≤ vec_len l.arrivals.at → RowsGoOn (steps_seen l.steps) l.arrivals.all.items l.heads.items)
