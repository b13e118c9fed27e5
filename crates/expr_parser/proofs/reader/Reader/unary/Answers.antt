use Rattle.std.proofs.Common.{[], ◌∷◌, ap, sym, ◌∙◌}
use Rattle.expr_machine.specs.declared.frame.Focus.TheVariants as focus
use Rattle.expr_machine.specs.Machine.{moves}
use Rattle.expr_machine.specs.Actions.{prefix_action}
use Rattle.expr_parser.specs.Heads.{terminals_of}
use Rattle.expr_parser.proofs.FrameLemmas as fl
use Rattle.expr_parser.proofs.reader.Reader.unary.Goals as goal

pub returns-in-Prefix : goal.returns-in-Prefix
returns-in-Prefix c = fl.unary_prefix _ c.in-Prefix.prefix _ (sym c.waiting.ensures ∙ c.in-Prefix.is) ∙ ap (λ fs. moves focus.Unary fs (terminals_of c.args.rest.now) (prefix_action c.in-Prefix.prefix ∷ [])) (sym c.drop_top.ensures)

pub returns-in_default : goal.returns-in_default
returns-in_default c = fl.unary_other _ _ (λ p e. c.in_default.not-Prefix p (c.waiting.ensures ∙ e))
