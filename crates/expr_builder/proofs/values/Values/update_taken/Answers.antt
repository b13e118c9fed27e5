use Rattle.std.proofs.Common.{ap, sym, ◌∙◌}
use Rattle.std.specs.Prelude.{Some}
use Rattle.expr_builder.specs.Views.{plain_value, plain_values}
use Rattle.expr_machine.specs.Values.{apply_update}
use Rattle.expr_builder.proofs.CountedLemmas as cl
use Rattle.script_grammar.specs.Rules as rule
use Rattle.expr_builder.proofs.values.Values.update_taken.Goals as goal

pub returns-in-None : goal.returns-in-None
returns-in-None c = ap (apply_update c.args.sign c.args.name (plain_value c.args.value)) (rw c.in-None.is at c.in_ok-take_path.ensures)

pub returns-then-not-is_writable : goal.returns-then-not-is_writable
returns-then-not-is_writable c = cl.update_refused c.args.sign c.args.name _ _ _ _ _ _ (rw c.in-Some.is at c.in_ok-take_path.ensures) (ap rule.is_writable (sym c.as_slice.ensures) ∙ sym c.is_writable.ensures ∙ c.if-not-is_writable.true)

pub returns-then-not-path : goal.returns-then-not-path
returns-then-not-path c = cl.update_open c.args.sign c.args.name _ _ _ _ _ _ (rw c.in-Some.is at c.in_ok-take_path.ensures) c.if-not-path.true

pub returns-in_ok-push-in-Some : goal.returns-in_ok-push-in-Some
returns-in_ok-push-in-Some c = cl.update_made c.args.sign c.args.name _ _ _ _ _ _ _ (rw c.in-Some.is at c.in_ok-take_path.ensures) (ap rule.is_writable (sym c.as_slice.ensures) ∙ sym c.is_writable.ensures ∙ c.if-not-is_writable.false) c.if-not-path.false c.in_ok-update_value-in-Some.ensures ∙ ap (λ s. Some (plain_values s)) (sym c.in_ok-push-in-Some.ensures)
