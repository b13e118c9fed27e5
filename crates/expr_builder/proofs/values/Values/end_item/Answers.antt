use Rattle.std.proofs.Common.{ap}
use Rattle.expr_machine.specs.Machine as machine
use Rattle.expr_machine.specs.Machine.{Move, moves}
use Rattle.expr_machine.specs.Actions.{unkeyed_action}
use Rattle.expr_builder.specs.Views.{plain_values}
use Rattle.expr_machine.specs.Values.{execute}
use Rattle.expr_builder.proofs.TemplateLemmas as tl
use Rattle.expr_builder.proofs.values.Values.end_item.Goals as goal

pub returns-then-keyed : goal.returns-then-keyed
returns-then-keyed c = λ r. ap (λ k. execute (machine.item_actions k r) (plain_values c.args.self.now)) c.if-keyed.true

pub returns : goal.returns
returns c = tl.passed_first c.unkeyed.result unkeyed_action (machine.item_actions c.args.keyed) _ _ (λ r. ap (λ k. machine.item_actions k r) c.if-keyed.false) c.unkeyed.ensures
