use Rattle.std.proofs.Common.{arith}
use Rattle.given_texts.proofs.ListLemmas.{next_row}
use Rattle.given_texts.proofs.given_listing.row_productions.Goals as goal

pub loop-row-preserved : goal.loop-row-preserved
loop-row-preserved c = record {
  each = next_row c.args.rows.now c.loop-row.row-index _ c.loop-row.productions.items c.push.new.self.items c.production_of.result c.loop-row-test.true c.loop-row.invariant.each c.production_of.ensures c.in_ok-push.ensures.items;
  len = omega (arith, c.loop-row.invariant.len, c.in_ok-push.ensures.len);
}
