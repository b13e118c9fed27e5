use Rattle.std.proofs.Common.{ap, ◌∙◌}
use Rattle.expr_parser.specs.Heads.{terminals_of}
use Rattle.stmt_builder.specs.Views.{made_of}
use Rattle.stmt_machine.specs.Actions.{function_end_action}
use Rattle.stmt_machine.specs.Machine.{function_end_move}
use Rattle.stmt_parser.specs.Outcomes.{acted}
use Rattle.stmt_parser.proofs.ActedLemmas.{acted_does}
use Rattle.stmt_parser.proofs.OtherLemmas.{function_end_none}
use Rattle.stmt_machine.specs.declared.frame.Focus.TheVariants as focus
use Rattle.stmt_parser.proofs.ReadLemmas.{on_ok}
use Rattle.stmt_parser.proofs.reader.Reader.function_end_step.Goals as goal

pub returns-in_default : goal.returns-in_default
returns-in_default c = on_ok _ c.enter.result (ap (λ x. acted x (made_of c.args.self.now.maker)) (function_end_none c.args.self.now.frames (terminals_of c.args.rest.now) c.in_default.ensures)) c.enter.ensures

pub returns : goal.returns
returns c = ap (λ ts. acted (function_end_move c.args.self.now.frames ts) (made_of c.args.self.now.maker)) c.in-Some.ensures ∙ acted_does c.in_ok-done.done function_end_action focus.Behind c.args.self.now.frames (terminals_of c.in-Some.behind.now) (made_of c.args.self.now.maker) (made_of c.end_function.new.self) c.in_ok-done.ensures ∙ c.gone.ensures c.args.self.now.frames (made_of c.end_function.new.self)
