use Rattle.std.proofs.Common.{ap, sym, ◌∙◌}
use Rattle.expr_machine.specs.Actions.{leaf_action, part_actions}
use Rattle.expr_builder.specs.Views.{plain_values}
use Rattle.php_syntax.specs.Tokens.{plain_part_of}
use Rattle.expr_machine.specs.Values.{execute, apply}
use Rattle.expr_builder.proofs.TemplateLemmas as tl
use Rattle.php_syntax.specs.Trees.{text_expr}
use Rattle.php_syntax.proofs.Views.{plain_expr-Text}
use Rattle.expr_builder.proofs.values.Values.template_part.Goals as goal

pub returns-in_ok-leaf-in-Plain : goal.returns-in_ok-leaf-in-Plain
returns-in_ok-leaf-in-Plain c = λ r. ap (λ p. execute (part_actions (plain_part_of p) r) (plain_values c.args.self.now)) c.in-Plain.is ∙ tl.run_one (leaf_action (text_expr c.in-Plain.text)) r _ _ (ap (λ e. apply (leaf_action e) (plain_values c.args.self.now)) (sym (plain_expr-Text c.in_ok-copied-in-Plain.copied ∙ ap text_expr c.in_ok-copied-in-Plain.ensures)) ∙ c.in_ok-leaf-in-Plain.ensures)
