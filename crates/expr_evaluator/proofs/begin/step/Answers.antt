use Rattle.std.proofs.Common.{ap, sym, ◌∙◌, refl}
use Rattle.script_meaning.specs.Expressions.{stepped}
use Rattle.expr_evaluator.proofs.WriteMoves.{stepped_does, step_faults, does_fault}
use Rattle.expr_evaluator.proofs.begin.step.Goals as goal

pub returns-then-before : goal.returns-then-before
returns-then-before c = stepped_does _ _ _ _ _ _ _ (ap (stepped c.args.up) (sym c.in_ok-old.ensures) ∙ c.in-Ok.ensures.ok) refl (rw (sym c.in_ok-kept-in-Ok.ensures) c.in_ok-set-in-Ok.ensures) (rw c.if-before.true refl)

pub returns-in-Ok : goal.returns-in-Ok
returns-in-Ok c = stepped_does _ _ _ _ _ _ _ (ap (stepped c.args.up) (sym c.in_ok-old.ensures) ∙ c.in-Ok.ensures.ok) refl (rw (sym c.in_ok-kept-in-Ok.ensures) c.in_ok-set-in-Ok.ensures) (rw c.if-before.false c.in_ok-old.ensures)

pub returns : goal.returns
returns c = does_fault _ _ _ _ _ c.in_ok-next-in-Err.ensures.0 (step_faults _ _ _ _ _ _ (ap (stepped c.args.up) (sym c.in_ok-old.ensures) ∙ c.in-Err.ensures.err) refl)
