use Rattle.std.proofs.Common.{◌∙◌, ap, ◌++◌, ◌∷◌, []}
use Rattle.segment_summary.specs.Parts.{automaton_of}
use Rattle.tag_sums.specs.Labels.{child}
use Rattle.segment_summary.proofs.RowLemmas.{table_more}
use Rattle.segment_summary.proofs.rows.child_row.Goals as goal

pub loop-state-preserved : goal.loop-state-preserved
loop-state-preserved c = table_more (λ q. (automaton_of c.args.segments.now).step q (child c.args.element.0)) _ _ _ c.loop-state.invariant (c.in_ok-push.ensures.items ∙ ap (λ x. c.loop-state.moves.items ++ x ∷ []) c.child_step.ensures)
