use Rattle.page_rules.proofs.Splits.{strip_short}
use Rattle.page_rules.proofs.scan.strip.Goals as goal

pub returns-in-None : goal.returns-in-None
returns-in-None c = strip_short c.args.word.now c.loop-byte.rest.now c.loop-byte.byte-index _ c.loop-byte-test.true c.in-None.ensures.cases c.loop-byte.invariant
