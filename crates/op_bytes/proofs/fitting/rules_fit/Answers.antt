use Rattle.std.proofs.Common.{length, refl}
use Rattle.std.proofs.lemmas.Option.{slice_get_read}
use Rattle.op_bytes.proofs.UseLemmas.{fitting_more_rules, fitting_all_rules}
use Rattle.op_bytes.proofs.fitting.rules_fit.Goals as goal

pub loop-rule-preserved : goal.loop-rule-preserved
loop-rule-preserved c =
    let at = slice_get_read c.args.rules.now (length c.args.rules.now) c.loop-rule.rule-index c.rule-item.result refl c.loop-rule-test.true c.rule-item.is in
    fitting_more_rules c.args.rules.now c.loop-rule.rule-index c.rule-item.result at c.loop-rule.invariant c.op_fits.ensures

pub returns : goal.returns
returns c = fitting_all_rules c.args.rules.now c.loop-rule.rule-index c.loop-rule-test.false c.loop-rule.invariant
