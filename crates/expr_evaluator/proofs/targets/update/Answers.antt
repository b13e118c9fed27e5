use Rattle.std.proofs.Common.{ap, sym, ◌∙◌, refl}
use Rattle.plain_values.specs.Plain.{null}
use Rattle.php_values.specs.View.{plain_of, plain_path}
use Rattle.script_meaning.specs.Runs.{Variables, set_in}
use Rattle.expr_evaluator.specs.Moves.{written}
use Rattle.expr_evaluator.proofs.TreeLemmas.{other_fault}
use Rattle.expr_evaluator.proofs.WriteMoves.{updated_does, update_fails, write_from}
use Rattle.expr_evaluator.proofs.VariableLemmas.{set_again}
use Rattle.expr_evaluator.proofs.targets.update.Goals as goal

pub returns-in_ok-set-in-Ok : goal.returns-in_ok-set-in-Ok
returns-in_ok-set-in-Ok c =
    updated_does _ _ _ _ _ _ _ _ _ _ c.in-Ok.ensures.ok.0 (ap (written (plain_path c.args.path.now) (plain_of c.in-Ok.new)) (sym c.in_ok-whole.ensures.value) ∙ c.in-Ok.ensures.ok.1) refl (c.in_ok-set-in-Ok.ensures ∙ ap (λ (u : Variables). set_in u c.args.name.now (plain_of c.in-Ok.whole)) c.in_ok-whole.ensures.variables ∙ set_again c.args.m.now.variables c.args.name.now null (plain_of c.in-Ok.whole)) refl

pub returns-in_ok-next-in-Err : goal.returns-in_ok-next-in-Err
returns-in_ok-next-in-Err c = update_fails _ _ _ _ _ _ _ _ _ c.in_ok-next-in-Err.ensures.0 refl (write_from _ _ _ _ _ _ _ (other_fault c.in-Err.ensures.err c.in_ok-next-in-Err.ensures.1) c.in_ok-whole.ensures.value)
