use Rattle.std.proofs.Common.{[], ◌∷◌, ap, ◌∙◌, sym}
use Rattle.script_grammar.specs.Terminals.{name_terminal}
use Rattle.expr_parser.specs.Heads.{terminals_of}
use Rattle.stmt_builder.specs.Views.{made_of}
use Rattle.stmt_machine.specs.Actions.{function_action}
use Rattle.stmt_machine.specs.Machine.{function_move}
use Rattle.stmt_parser.specs.Outcomes.{acted, gone}
use Rattle.stmt_parser.proofs.ActedLemmas.{acted_stuck, acted_always}
use Rattle.stmt_parser.proofs.OtherLemmas.{function_nameless, function_closed}
use Rattle.stmt_machine.specs.declared.frame.Focus.TheVariants as focus
use Rattle.stmt_parser.proofs.reader.Reader.function_step.Goals as goal

pub returns-in_default : goal.returns-in_default
returns-in_default c = ap (λ x. acted x (made_of c.args.self.now.maker)) (function_nameless (terminals_of c.args.rest.now) c.in_default.ensures) ∙ acted_stuck (made_of c.args.self.now.maker)

pub returns-in_default-behind_sign : goal.returns-in_default-behind_sign
returns-in_default-behind_sign c = ap (λ ts. acted (function_move ts) (made_of c.args.self.now.maker)) c.in-Some.ensures ∙ ap (λ x. acted x (made_of c.args.self.now.maker)) (function_closed c.in-Some.name.now (terminals_of c.in-Some.behind.now) c.in_default-behind_sign.ensures) ∙ acted_stuck (made_of c.args.self.now.maker)

pub returns : goal.returns
returns c = ap (λ ts. acted (function_move ts) (made_of c.args.self.now.maker)) c.in-Some.ensures ∙ ap (λ ts. acted (function_move (name_terminal c.in-Some.name.now ∷ ts)) (made_of c.args.self.now.maker)) c.in-Some-behind_sign.ensures ∙ acted_always (function_action c.in-Some.name.now) focus.Parameters [] (terminals_of c.in-Some-behind_sign.inner.now) (made_of c.args.self.now.maker) (made_of c.begin_function.new.self) c.in_ok-begin_function.ensures ∙ ap (λ fs. gone focus.Parameters fs (terminals_of c.in-Some-behind_sign.inner.now) (made_of c.begin_function.new.self)) (sym c.requires)
