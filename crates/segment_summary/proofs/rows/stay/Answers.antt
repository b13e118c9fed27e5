use Rattle.std.proofs.Common.{Some}
use Rattle.segment_summary.proofs.RowLemmas.{table_more}
use Rattle.segment_summary.proofs.rows.stay.Goals as goal

pub loop-state-preserved : goal.loop-state-preserved
loop-state-preserved c = table_more Some _ _ _ c.loop-state.invariant c.in_ok-push.ensures.items
