use Rattle.std.proofs.Common.{◌∷◌, ap, sym, ◌∙◌}
use Rattle.std.specs.Prelude.{map}
use Rattle.expr_machine.specs.Actions.{variable_action, keys_actions}
use Rattle.expr_builder.specs.Views.{plain_values}
use Rattle.php_syntax.specs.Tokens.{plain_key}
use Rattle.expr_machine.specs.Values.{execute, apply}
use Rattle.expr_builder.proofs.TemplateLemmas as tl
use Rattle.expr_builder.proofs.values.Values.template_read.Goals as goal

pub returns-then-not-fine : goal.returns-then-not-fine
returns-then-not-fine c = λ r. ap (λ x. execute (variable_action x ∷ keys_actions (map plain_key c.args.keys.now) r) (plain_values c.args.self.now)) (sym c.in_ok-copied.ensures) ∙ tl.run_none (variable_action c.in_ok-copied.copied) (keys_actions (map plain_key c.args.keys.now) r) _ (tl.one_false c.in_ok-fine.fine (variable_action c.in_ok-copied.copied) _ _ c.if-not-fine.true c.in_ok-fine.ensures)

pub returns : goal.returns
returns c = tl.passed_before c.template_keys.result (variable_action c.args.name.now) (keys_actions (map plain_key c.args.keys.now)) _ _ _ (ap (λ x. apply (variable_action x) (plain_values c.args.self.now)) (sym c.in_ok-copied.ensures) ∙ tl.one_true c.in_ok-fine.fine (variable_action c.in_ok-copied.copied) _ _ c.if-not-fine.false c.in_ok-fine.ensures) c.template_keys.ensures
