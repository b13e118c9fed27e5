use Rattle.std.proofs.Common.{ap, sym, ◌∙◌}
use Rattle.php_values.specs.View.{plain_of}
use Rattle.expr_evaluator.specs.VariablesView.{plain_variables}
use Rattle.expr_evaluator.proofs.VariableLemmas.{at_place}
use Rattle.expr_evaluator.proofs.variables.value_of.Goals as goal

pub returns-in_ok-value-in-Some : goal.returns-in_ok-value-in-Some
returns-in_ok-value-in-Some c =
    ap plain_of c.in_ok-value-in-Some.ensures ∙ sym ((at_place c.args.name.now c.args.parameters.now (plain_variables c.args.others.now.entries) _ c.in-Some.ensures.place).1 c.index-parameters-place.result)

pub returns-in_ok-value-in-None : goal.returns-in_ok-value-in-None
returns-in_ok-value-in-None c = c.in_ok-value-in-None.ensures ∙ sym ((at_place c.args.name.now c.args.parameters.now (plain_variables c.args.others.now.entries) _ c.in-None.ensures.place).0)
