use Rattle.std.proofs.Common.{◌≡◌, map}
use Rattle.std.specs.List.{range_with_len}
use Rattle.segment_summary.specs.Parts.{automaton_of}
use Rattle.tag_sums.specs.Labels.{other}
use Rattle.segment_summary.specs.View.{mark_of}
use Rattle.segment_summary.proofs.rows.mark_row.Given as goal

abbrev pub invariant-loop-state : goal.invariant-loop-state
invariant-loop-state l = l.moves.items ≡ map (λ q. (automaton_of l.segments).step q (other (mark_of l.mark))) (range_with_len 0 l.state)
