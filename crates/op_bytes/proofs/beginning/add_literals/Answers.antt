use Rattle.std.proofs.Common.{length, refl}
use Rattle.std.proofs.lemmas.Option.{slice_get_read}
use Rattle.op_bytes.proofs.GainLemmas.{literals_none, literals_more, literals_all}
use Rattle.op_bytes.proofs.beginning.add_literals.Goals as goal

pub loop-rule-init : goal.loop-rule-init
loop-rule-init c = literals_none c.args.sets.now.items c.args.rules.now

pub loop-rule-preserved : goal.loop-rule-preserved
loop-rule-preserved c =
    let at = slice_get_read c.args.rules.now (length c.args.rules.now) c.loop-rule.rule-index c.rule-item.result refl c.loop-rule-test.true c.rule-item.is in
    literals_more c.args.sets.now.items c.loop-rule.sets.items c.add_rule.new.sets.items c.args.rules.now c.loop-rule.rule-index c.rule-item.result at c.loop-rule.invariant c.add_rule.ensures

pub returns : goal.returns
returns c = literals_all c.args.sets.now.items c.loop-rule.sets.items c.args.rules.now c.loop-rule.rule-index c.loop-rule-test.false c.loop-rule.invariant
