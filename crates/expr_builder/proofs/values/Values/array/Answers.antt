use Rattle.std.proofs.Common.{ap, sym, ◌∙◌}
use Rattle.std.specs.Prelude.{Some}
use Rattle.expr_builder.specs.Views.{plain_values}
use Rattle.expr_machine.specs.Values.{apply_array}
use Rattle.expr_builder.proofs.CountedLemmas as cl
use Rattle.expr_builder.proofs.values.Values.array.Goals as goal

pub returns-in-None : goal.returns-in-None
returns-in-None c = cl.array_by _ _ ∙ ap apply_array (rw c.in-None.is at c.in_ok-take_items.ensures)

pub returns-in_ok-push-in-Some : goal.returns-in_ok-push-in-Some
returns-in_ok-push-in-Some c = cl.array_by _ _ ∙ cl.array_made _ _ _ _ (rw c.in-Some.is at c.in_ok-take_items.ensures) c.array_value.ensures ∙ ap (λ s. Some (plain_values s)) (sym c.in_ok-push-in-Some.ensures)
