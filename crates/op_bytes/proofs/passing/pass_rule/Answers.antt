use Rattle.std.proofs.Common.{length, sym}
use Rattle.std.proofs.lemmas.Result.{on_ok_weaker}
use Rattle.op_bytes.proofs.ListLemmas.{contained}
use Rattle.op_bytes.proofs.UseLemmas.{rule_below_so}
use Rattle.op_bytes.proofs.GrowLemmas.{rule_none, rule_some}
use Rattle.op_bytes.proofs.passing.pass_rule.Goals as goal

pub grow-requires : goal.grow-requires
grow-requires c = (rule_below_so (length c.args.sets.now.items) c.args.rules.now c.in-Some.rule.now c.requires (contained c.args.rules.now c.args.place c.in-Some.rule.now (sym c.in-Some.ensures))).0

pub returns-in_default : goal.returns-in_default
returns-in_default c = rule_none c.args.sets.now.items c.args.order.now.items c.args.rules.now c.args.place c.args.own.now (sym c.in_default.ensures)

pub returns : goal.returns
returns c =
    on_ok_weaker c.grow.result (rule_some c.args.sets.now.items c.grow.new.sets.items c.args.order.now.items c.grow.new.order.items c.args.rules.now c.args.place c.args.own.now c.turned-made.result c.in-Some.rule.now (sym c.in-Some.ensures) c.turned-made.ensures) c.grow.ensures
