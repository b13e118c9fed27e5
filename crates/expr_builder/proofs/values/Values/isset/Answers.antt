use Rattle.std.proofs.Common.{ap, sym, ◌∙◌}
use Rattle.std.specs.Prelude.{Some}
use Rattle.expr_builder.specs.Views.{plain_values}
use Rattle.expr_machine.specs.Values.{apply_isset}
use Rattle.expr_builder.proofs.CountedLemmas as cl
use Rattle.expr_builder.proofs.values.Values.isset.Goals as goal

pub returns-in-None : goal.returns-in-None
returns-in-None c = cl.isset_by _ _ ∙ ap apply_isset (rw c.in-None.is at c.in_ok-take_exprs.ensures)

pub returns-then-not-row : goal.returns-then-not-row
returns-then-not-row c = cl.isset_by _ _ ∙ cl.isset_refused _ _ _ _ (rw c.in-Some.is at c.in_ok-take_exprs.ensures) (cl.not_true _ c.if-not-row.true)

pub returns-in_ok-push-in-Some : goal.returns-in_ok-push-in-Some
returns-in_ok-push-in-Some c = cl.isset_by _ _ ∙ cl.isset_made _ _ _ _ _ (rw c.in-Some.is at c.in_ok-take_exprs.ensures) (cl.not_false _ c.if-not-row.false) c.isset_value.ensures ∙ ap (λ s. Some (plain_values s)) (sym c.in_ok-push-in-Some.ensures)
