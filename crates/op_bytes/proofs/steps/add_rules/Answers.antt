use Rattle.std.proofs.Common.{◌∙◌, length, refl}
use Rattle.std.proofs.lemmas.Option.{slice_get_read}
use Rattle.op_bytes.proofs.EdgeLemmas.{first_no_rule, rules_more, first_all_rules}
use Rattle.op_bytes.proofs.steps.add_rules.Goals as goal

pub loop-rule-init : goal.loop-rule-init
loop-rule-init c = record { len = refl; adds = first_no_rule c.args.edges.now.items c.args.rules.now }

pub loop-rule-preserved : goal.loop-rule-preserved
loop-rule-preserved c =
    let at = slice_get_read c.args.rules.now (length c.args.rules.now) c.loop-rule.rule-index c.rule-item.result refl c.loop-rule-test.true c.rule-item.is in
    record {
      len = c.in_ok-add_edge.ensures.len ∙ c.loop-rule.invariant.len;
      adds = rules_more c.args.edges.now.items c.loop-rule.edges.items c.add_edge.new.edges.items c.args.rules.now c.loop-rule.rule-index c.rule-item.result at c.loop-rule.invariant.adds c.in_ok-add_edge.ensures.adds;
    }

pub returns-clause-adds : goal.returns-clause-adds
returns-clause-adds c = first_all_rules c.args.edges.now.items c.loop-rule.edges.items c.args.rules.now c.loop-rule.rule-index c.loop-rule-test.false c.loop-rule.invariant.adds
