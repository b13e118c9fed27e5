use Rattle.std.proofs.Common.{ap, sym, ◌∙◌}
use Rattle.std.specs.Prelude.{Some}
use Rattle.expr_builder.specs.Views.{plain_values}
use Rattle.expr_machine.specs.Values.{apply_call}
use Rattle.expr_builder.proofs.CountedLemmas as cl
use Rattle.expr_builder.proofs.values.Values.call.Goals as goal

pub returns-in-None : goal.returns-in-None
returns-in-None c = cl.call_by _ _ _ ∙ ap (apply_call c.args.name.now) (rw c.in-None.is at c.in_ok-take_exprs.ensures)

pub returns-in_ok-push-in-Some : goal.returns-in_ok-push-in-Some
returns-in_ok-push-in-Some c = cl.call_by _ _ _ ∙ cl.called c.args.name.now _ _ _ _ _ (rw c.in-Some.is at c.in_ok-take_exprs.ensures) (c.call_value.ensures c.args.name.now c.in_ok-name.ensures) ∙ ap (λ s. Some (plain_values s)) (sym c.in_ok-push-in-Some.ensures)
