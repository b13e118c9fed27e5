use Rattle.std.proofs.Common.{ap, sym, ◌∙◌}
use Rattle.php_values.specs.declared.array.Value.{Value}
use Rattle.php_values.specs.View.{plain_of, plain_path}
use Rattle.expr_evaluator.specs.Moves.{written}
use Rattle.expr_evaluator.proofs.WriteMoves.{written_released, rewritten_err}
use Rattle.expr_evaluator.proofs.targets.rewritten.Goals as goal

pub returns-in-Ok-clause-ok : goal.returns-in-Ok-clause-ok
returns-in-Ok-clause-ok c =
    (c.in_ok-new.ensures.ok, sym (written_released (plain_path c.args.path.now) (plain_of c.args.whole) (plain_of c.release.new.self) (plain_of c.in_ok-new.new) c.release.ensures) ∙ ap (λ (u : Value). written (plain_path c.args.path.now) (plain_of u) (plain_of c.release.new.self)) (sym c.in_ok-kept.ensures) ∙ c.in-Ok.ensures.ok)

pub returns-in-Err-clause-err : goal.returns-in-Err-clause-err
returns-in-Err-clause-err c =
    rewritten_err _ _ (plain_path c.args.path.now) (plain_of c.args.whole) _ _ c.in_ok-new.ensures.ok (sym (written_released (plain_path c.args.path.now) (plain_of c.args.whole) (plain_of c.release.new.self) (plain_of c.in_ok-new.new) c.release.ensures) ∙ ap (λ (u : Value). written (plain_path c.args.path.now) (plain_of u) (plain_of c.release.new.self)) (sym c.in_ok-kept.ensures)) c.in-Err.ensures.err
