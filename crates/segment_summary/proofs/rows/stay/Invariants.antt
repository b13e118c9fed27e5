use Rattle.std.proofs.Common.{◌≡◌, map, Some}
use Rattle.std.specs.List.{range_with_len}
use Rattle.segment_summary.proofs.rows.stay.Given as goal

abbrev pub invariant-loop-state : goal.invariant-loop-state
invariant-loop-state l = l.moves.items ≡ map Some (range_with_len 0 l.state)
