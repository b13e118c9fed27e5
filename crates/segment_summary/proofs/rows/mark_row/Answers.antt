use Rattle.std.proofs.Common.{◌∙◌, ap, ◌++◌, ◌∷◌, []}
use Rattle.segment_summary.specs.Parts.{automaton_of}
use Rattle.tag_sums.specs.Labels.{other}
use Rattle.segment_summary.specs.View.{mark_of}
use Rattle.segment_summary.proofs.RowLemmas.{table_more}
use Rattle.segment_summary.proofs.rows.mark_row.Goals as goal

pub loop-state-preserved : goal.loop-state-preserved
loop-state-preserved c = table_more (λ q. (automaton_of c.args.segments.now).step q (other (mark_of c.args.mark))) _ _ _ c.loop-state.invariant (c.in_ok-push.ensures.items ∙ ap (λ x. c.loop-state.moves.items ++ x ∷ []) c.mark_step.ensures)
