use Rattle.system_writing.proofs.PutLemmas.{begin, further, at_last}
use Rattle.system_writing.proofs.ends.put_bytes.Goals as goal

pub loop-last-init : goal.loop-last-init
loop-last-init c = begin c.args.lines.now c.args.bytes.now c.args.behind

pub loop-last-preserved : goal.loop-last-preserved
loop-last-preserved c =
    further c.args.lines.now c.loop-last.lines c.put_byte.new.lines c.args.bytes.now c.loop-last.rest.now c.in-Some.before.now c.in-Some.last.now c.args.behind c.loop-last.symbol _
    c.loop-last.invariant c.in-Some.ensures.cases.0 c.in_ok-symbol.ensures

pub returns : goal.returns
returns c = at_last c.args.lines.now c.loop-last.lines c.args.bytes.now c.loop-last.rest.now c.args.behind c.loop-last.symbol c.loop-last.invariant c.in_default.ensures.cases
