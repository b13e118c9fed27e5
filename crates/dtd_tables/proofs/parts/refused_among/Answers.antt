use Rattle.dtd_tables.proofs.PartLemmas.{none_more, none_in_all, first_is}
use Rattle.dtd_tables.proofs.parts.refused_among.Goals as goal

pub returns-then-branch : goal.returns-then-branch
returns-then-branch c =
    first_is c.args.names.now c.args.written.now c.loop-one.one-index c.one-item.result c.loop-one-test.true c.one-item.is c.requires c.loop-one.invariant (c.in_ok-is_refused.ensures.refused c.if-branch.true)

pub loop-one-preserved : goal.loop-one-preserved
loop-one-preserved c =
    none_more c.args.names.now c.args.written.now c.loop-one.one-index c.one-item.result c.loop-one-test.true c.one-item.is c.loop-one.invariant (c.in_ok-is_refused.ensures.other c.if-branch.false)

pub returns : goal.returns
returns c = none_in_all c.args.names.now c.args.written.now c.loop-one.one-index c.loop-one-test.false c.requires c.loop-one.invariant
