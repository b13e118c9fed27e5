use Rattle.std.proofs.Common.{◌∙◌, ap, ◌++◌, ◌∷◌, []}
use Rattle.segment_summary.specs.Parts.{automaton_of}
use Rattle.segment_summary.proofs.RowLemmas.{table_more}
use Rattle.segment_summary.proofs.rows.closing_states.Goals as goal

pub loop-state-preserved : goal.loop-state-preserved
loop-state-preserved c = table_more ((automaton_of c.args.segments.now).closes c.args.element.0) _ _ _ c.loop-state.invariant (c.in_ok-push.ensures.items ∙ ap (λ x. c.loop-state.bits.items ++ x ∷ []) c.closes.ensures)
