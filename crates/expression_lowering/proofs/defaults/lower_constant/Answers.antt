use Rattle.std.proofs.Common.{ℕ, subst, sym}
use Rattle.php_syntax.specs.Trees.{plain_expr}
use Rattle.plain_values.specs.Plain.{Plain}
use Rattle.flow_code.specs.Code.{Code}
use Rattle.flow_code.specs.Expressions.{literal}
use Rattle.flow_lowering.specs.View.{progress}
use Rattle.flow_lowering.specs.Emits.{Emits}
use Rattle.expression_lowering.proofs.CallLemmas.{plain_default}
use Rattle.expression_lowering.proofs.defaults.lower_constant.Goals as goal

pub returns-in_ok-slot-in-None : goal.returns-in_ok-slot-in-None
returns-in_ok-slot-in-None c =
    subst (λ (k : Code ℕ). Emits (progress c.args.points.now) (progress c.lower_value.new.points) k c.in_ok-slot-in-None.slot.0) (sym (plain_default (plain_expr c.args.expr.now) c.in-None.ensures))
    (subst (λ (v : Plain). Emits (progress c.args.points.now) (progress c.lower_value.new.points) (literal v) c.in_ok-slot-in-None.slot.0) c.in_ok-value-in-None.ensures c.in_ok-slot-in-None.ensures)
