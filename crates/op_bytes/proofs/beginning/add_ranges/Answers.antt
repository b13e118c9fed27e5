use Rattle.std.proofs.Common.{length, refl}
use Rattle.std.proofs.lemmas.Option.{slice_get_read}
use Rattle.op_bytes.proofs.GainLemmas.{ranges_none, ranges_more, ranges_all}
use Rattle.op_bytes.proofs.beginning.add_ranges.Goals as goal

pub loop-p-init : goal.loop-p-init
loop-p-init c = ranges_none c.args.sets.now.items c.args.productions.now

pub loop-p-preserved : goal.loop-p-preserved
loop-p-preserved c =
    let at = slice_get_read c.args.productions.now (length c.args.productions.now) c.loop-p.p-index c.p-item.result refl c.loop-p-test.true c.p-item.is in
    ranges_more c.args.sets.now.items c.loop-p.sets.items c.add_production.new.sets.items c.args.productions.now c.loop-p.p-index c.p-item.result at c.loop-p.invariant c.add_production.ensures

pub returns : goal.returns
returns c = ranges_all c.args.sets.now.items c.loop-p.sets.items c.args.productions.now c.loop-p.p-index c.loop-p-test.false c.loop-p.invariant
