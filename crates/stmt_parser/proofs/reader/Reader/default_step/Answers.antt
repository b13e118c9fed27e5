use Rattle.std.proofs.Common.{[], ◌∷◌, ap, sym, ◌∙◌}
use Rattle.php_syntax.specs.Trees.{some_expr, plain_expr}
use Rattle.expr_parser.specs.Heads.{terminals_of}
use Rattle.stmt_builder.specs.Views.{made_of}
use Rattle.stmt_machine.specs.Actions.{parameter_action}
use Rattle.stmt_machine.specs.Machine.{moves}
use Rattle.stmt_parser.specs.Nexts.{default_next}
use Rattle.stmt_parser.specs.Outcomes.{acted}
use Rattle.stmt_parser.proofs.ActedLemmas.{acted_stuck, acted_does}
use Rattle.stmt_parser.proofs.LiteralLemmas.{some_height}
use Rattle.php_syntax.specs.Height.{height}
use Rattle.stmt_machine.specs.declared.frame.Focus.TheVariants as focus
use Rattle.stmt_parser.proofs.reader.Reader.default_step.Goals as goal

pub returns-in_default : goal.returns-in_default
returns-in_default c = ap (λ x. acted (default_next c.args.name.now c.args.self.now.frames x) (made_of c.args.self.now.maker)) c.in_default.ensures ∙ acted_stuck (made_of c.args.self.now.maker)

pub parameter-requires : goal.parameter-requires
parameter-requires c = (c.in_ok-made.ensures.1 ∙ sym (ap height c.in_ok-made.ensures.0) ∙ sym (some_height (plain_expr c.in_ok-made.made.0)), c.in_ok-made.ensures.2)

pub returns : goal.returns
returns c = ap (λ x. acted (default_next c.args.name.now c.args.self.now.frames x) (made_of c.args.self.now.maker)) c.in-Some.ensures ∙ ap (λ e. acted (moves focus.BehindParameter c.args.self.now.frames (terminals_of c.in-Some.behind.now) (parameter_action c.args.name.now (some_expr e) ∷ [])) (made_of c.args.self.now.maker)) (sym c.in_ok-made.ensures.0) ∙ acted_does c.in_ok-done.done (parameter_action c.args.name.now (some_expr (plain_expr c.in_ok-made.made.0))) focus.BehindParameter c.args.self.now.frames (terminals_of c.in-Some.behind.now) (made_of c.args.self.now.maker) (made_of c.parameter.new.self) c.in_ok-done.ensures ∙ c.gone.ensures c.args.self.now.frames (made_of c.parameter.new.self)
