use Rattle.std.proofs.Common.{ap, sym, ◌∙◌, refl}
use Rattle.plain_values.specs.Plain.{null}
use Rattle.php_values.specs.declared.array.Value.{Value}
use Rattle.php_values.specs.View.{plain_of}
use Rattle.script_meaning.specs.Runs.{Variables, set_in, value_in}
use Rattle.script_meaning.specs.Expressions.{assigned}
use Rattle.expr_evaluator.specs.Frames.{plain_maybes}
use Rattle.expr_evaluator.proofs.TreeLemmas.{other_fault}
use Rattle.expr_evaluator.proofs.WriteMoves.{assigned_does, assign_faults, does_fault}
use Rattle.expr_evaluator.proofs.VariableLemmas.{set_again}
use Rattle.expr_evaluator.proofs.targets.assign.Goals as goal

pub returns-in-Ok : goal.returns-in-Ok
returns-in-Ok c =
    assigned_does _ _ _ _ _ _ _ (ap (λ (u : Value). assigned (plain_maybes c.args.subscripts.now) (plain_of u) (value_in c.args.m.now.variables c.args.name.now)) (sym c.in_ok-new.ensures) ∙ ap (assigned (plain_maybes c.args.subscripts.now) (plain_of c.in_ok-new.new)) (sym c.in_ok-old.ensures.value) ∙ c.in-Ok.ensures.ok) refl (c.in_ok-set-in-Ok.ensures ∙ ap (λ (u : Variables). set_in u c.args.name.now (plain_of c.in-Ok.whole)) c.in_ok-old.ensures.variables ∙ set_again c.args.m.now.variables c.args.name.now null (plain_of c.in-Ok.whole)) refl

pub returns : goal.returns
returns c =
    does_fault _ _ _ _ _ c.in_ok-next-in-Err.ensures.0 (assign_faults _ _ _ _ _ _ (ap (λ (u : Value). assigned (plain_maybes c.args.subscripts.now) (plain_of u) (value_in c.args.m.now.variables c.args.name.now)) (sym c.in_ok-new.ensures) ∙ ap (assigned (plain_maybes c.args.subscripts.now) (plain_of c.in_ok-new.new)) (sym c.in_ok-old.ensures.value) ∙ other_fault c.in-Err.ensures.err c.in_ok-next-in-Err.ensures.1) refl)
