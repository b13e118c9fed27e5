use Rattle.std.proofs.Common.{◌≡◌, map}
use Rattle.std.specs.List.{range_with_len}
use Rattle.segment_summary.specs.Parts.{automaton_of}
use Rattle.tag_sums.specs.Labels.{child}
use Rattle.segment_summary.proofs.rows.child_row.Given as goal

abbrev pub invariant-loop-state : goal.invariant-loop-state
invariant-loop-state l = l.moves.items ≡ map (λ q. (automaton_of l.segments).step q (child l.element.0)) (range_with_len 0 l.state)
