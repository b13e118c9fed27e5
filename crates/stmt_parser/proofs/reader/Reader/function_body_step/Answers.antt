use Rattle.std.proofs.Common.{◌∷◌, ap, sym, ◌∙◌}
use Rattle.expr_parser.specs.Heads.{terminals_of}
use Rattle.stmt_builder.specs.Views.{made_of}
use Rattle.stmt_machine.specs.Actions.{function_body_action}
use Rattle.stmt_machine.specs.Machine.{function_body_move}
use Rattle.stmt_parser.specs.Outcomes.{acted}
use Rattle.stmt_parser.proofs.ActedLemmas.{acted_stuck, acted_always, acted_none}
use Rattle.stmt_parser.proofs.OtherLemmas.{function_body_none}
use Rattle.stmt_machine.specs.declared.frame.Focus.TheVariants as focus
use Rattle.stmt_machine.specs.declared.frame.Frame.TheVariants as frame
use Rattle.stmt_parser.proofs.ReadLemmas.{on_ok}
use Rattle.stmt_parser.proofs.reader.Reader.function_body_step.Goals as goal

pub returns-in_default : goal.returns-in_default
returns-in_default c = ap (λ x. acted x (made_of c.args.self.now.maker)) (function_body_none c.args.self.now.frames (terminals_of c.args.rest.now) c.in_default.ensures) ∙ acted_stuck (made_of c.args.self.now.maker)

pub returns : goal.returns
returns c = on_ok _ c.enter.result (ap (λ ts. acted (function_body_move c.args.self.now.frames ts) (made_of c.args.self.now.maker)) c.in-Some.ensures ∙ acted_always function_body_action focus.Behind (frame.Function ∷ c.args.self.now.frames) (terminals_of c.in-Some.behind.now) (made_of c.args.self.now.maker) (made_of c.begin_body.new.self) c.in_ok-begin_body.ensures ∙ sym (acted_none focus.Behind (frame.Function ∷ c.args.self.now.frames) (terminals_of c.in-Some.behind.now) (made_of c.begin_body.new.self))) c.enter.ensures
