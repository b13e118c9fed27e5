use Rattle.std.proofs.Common.{sym}
use Rattle.system_writing.specs.Steps.{WritesWaiting}
use Rattle.system_writing.proofs.PutLemmas.{next_text}
use Rattle.system_writing.proofs.waiting.add_waiting.Goals as goal

pub loop-text-init : goal.loop-text-init
loop-text-init c = WritesWaiting.none c.args.lines.now

pub loop-text-preserved : goal.loop-text-preserved
loop-text-preserved c =
    next_text c.args.marks.now c.args.lines.now c.loop-text.lines c.add_where.new.lines c.args.texts.now c.loop-text.text-index _ c.text-item.result c.loop-text-test.true c.loop-text.invariant (sym c.text-item.is) c.in_ok-add_where.ensures
