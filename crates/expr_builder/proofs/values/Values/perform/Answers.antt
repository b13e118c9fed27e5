use Rattle.std.proofs.Common.{[], ◌∷◌, ap, ◌∙◌}
use Rattle.expr_machine.specs.Machine.{item_actions}
use Rattle.expr_machine.specs.Values.{execute}
use Rattle.expr_builder.specs.Outcomes.{plain_action, plain_actions}
use Rattle.expr_builder.specs.Views.{plain_values}
use Rattle.expr_builder.proofs.TemplateLemmas as tl
use Rattle.expr_builder.proofs.values.Values.perform.Goals as goal

pub returns-in-Nothing : goal.returns-in-Nothing
returns-in-Nothing c = ap (λ acts. execute (plain_actions acts) (plain_values c.args.self.now)) c.in-Nothing.is ∙ tl.run_end (plain_values c.args.self.now)

pub returns-in-One : goal.returns-in-One
returns-in-One c =
    tl.passed_actions c.apply.result (plain_actions c.args.actions) (plain_action c.in-One.action ∷ []) _ _ (ap plain_actions c.in-One.is)
    (tl.passed_last c.apply.result (plain_action c.in-One.action) _ _ c.apply.ensures)

pub returns-in-Item : goal.returns-in-Item
returns-in-Item c =
    tl.passed_actions c.end_item.result (plain_actions c.args.actions) (item_actions c.in-Item.keyed []) _ _ (ap plain_actions c.in-Item.is)
    (tl.passed_end c.end_item.result (item_actions c.in-Item.keyed) _ _ c.end_item.ensures)
