use Rattle.std.proofs.Common.{ap, sym, ◌∙◌}
use Rattle.php_values.specs.View.{found_plain}
use Rattle.expr_evaluator.specs.VariablesView.{plain_variables}
use Rattle.expr_evaluator.proofs.VariableLemmas.{value_found, set_inserted}
use Rattle.expr_evaluator.proofs.variables.put_other.Goals as goal

pub returns-in-None-clause-value : goal.returns-in-None-clause-value
returns-in-None-clause-value c = ap found_plain (sym c.in-None.is ∙ c.in_ok-insert.ensures.old) ∙ value_found c.args.name c.args.others.now.entries

pub returns-in-None-clause-entries : goal.returns-in-None-clause-entries
returns-in-None-clause-entries c = ap plain_variables c.in_ok-insert.ensures.entries ∙ set_inserted c.args.name c.args.value c.args.others.now.entries

pub returns-in-Some-clause-value : goal.returns-in-Some-clause-value
returns-in-Some-clause-value c = ap found_plain (sym c.in-Some.is ∙ c.in_ok-insert.ensures.old) ∙ value_found c.args.name c.args.others.now.entries

pub returns-in-Some-clause-entries : goal.returns-in-Some-clause-entries
returns-in-Some-clause-entries c = ap plain_variables c.in_ok-insert.ensures.entries ∙ set_inserted c.args.name c.args.value c.args.others.now.entries
