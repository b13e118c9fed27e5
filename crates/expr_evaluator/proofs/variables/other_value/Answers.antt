use Rattle.std.proofs.Common.{ap, ◌∙◌}
use Rattle.php_values.specs.View.{plain_of, found_plain}
use Rattle.expr_evaluator.proofs.VariableLemmas.{value_found}
use Rattle.expr_evaluator.proofs.variables.other_value.Goals as goal

pub returns-in-None : goal.returns-in-None
returns-in-None c = ap found_plain c.in-None.ensures.value ∙ value_found c.args.name c.args.others.now.entries

pub returns-in_ok-value-in-Some : goal.returns-in_ok-value-in-Some
returns-in_ok-value-in-Some c = ap plain_of c.in_ok-value-in-Some.ensures ∙ ap found_plain c.in-Some.ensures.value ∙ value_found c.args.name c.args.others.now.entries
