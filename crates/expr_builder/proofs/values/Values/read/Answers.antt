use Rattle.std.proofs.Common.{ap, sym, ◌∙◌}
use Rattle.std.specs.Prelude.{Some}
use Rattle.expr_builder.specs.Views.{plain_values}
use Rattle.expr_machine.specs.Values.{apply_read, known_value}
use Rattle.expr_builder.proofs.CountedLemmas as cl
use Rattle.script_grammar.specs.Rules as rule
use Rattle.expr_builder.proofs.values.Values.read.Goals as goal

pub returns-in-None : goal.returns-in-None
returns-in-None c = cl.read_by _ _ _ ∙ ap (apply_read c.args.name) (rw c.in-None.is at c.in_ok-take_row.ensures)

pub returns-then-not-is_known : goal.returns-then-not-is_known
returns-then-not-is_known c = cl.read_by _ _ _ ∙ cl.read_refused c.args.name _ _ _ (rw c.in-Some.is at c.in_ok-take_row.ensures) (ap rule.is_known (sym c.as_slice.ensures) ∙ sym c.is_known.ensures ∙ c.if-not-is_known.true)

pub returns-in_ok-push-in-Some : goal.returns-in_ok-push-in-Some
returns-in_ok-push-in-Some c = cl.read_by _ _ _ ∙ cl.read_made c.args.name _ _ _ _ _ (rw c.in-Some.is at c.in_ok-take_row.ensures) (ap rule.is_known (sym c.as_slice.ensures) ∙ sym c.is_known.ensures ∙ c.if-not-is_known.false) (ap (λ e. known_value e 1) c.variable_tree.ensures) c.in_ok-read_value-in-Some.ensures ∙ ap (λ s. Some (plain_values s)) (sym c.in_ok-push-in-Some.ensures)
