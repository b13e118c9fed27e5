use Rattle.std.proofs.Common.{◌≡◌, map}
use Rattle.std.specs.List.{range_with_len}
use Rattle.segment_summary.specs.Parts.{automaton_of}
use Rattle.segment_summary.proofs.rows.closing_states.Given as goal

abbrev pub invariant-loop-state : goal.invariant-loop-state
invariant-loop-state l = l.bits.items ≡ map ((automaton_of l.segments).closes l.element.0) (range_with_len 0 l.state)
