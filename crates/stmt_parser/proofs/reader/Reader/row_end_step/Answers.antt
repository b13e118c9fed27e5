use Rattle.std.proofs.Common.{ap, ◌∙◌}
use Rattle.expr_parser.specs.Heads.{terminals_of}
use Rattle.stmt_builder.specs.Views.{made_of}
use Rattle.stmt_machine.specs.Actions.{echo_action}
use Rattle.stmt_machine.specs.Machine.{row_end_move}
use Rattle.stmt_parser.specs.Outcomes.{acted}
use Rattle.stmt_parser.proofs.ActedLemmas.{acted_none, acted_does}
use Rattle.stmt_parser.proofs.ReadLemmas.{on_ok}
use Rattle.stmt_machine.specs.declared.frame.Focus.TheVariants as focus
use Rattle.stmt_parser.proofs.reader.Reader.row_end_step.Goals as goal

pub returns-in_ok-done-in-Echo : goal.returns-in_ok-done-in-Echo
returns-in_ok-done-in-Echo c = ap (λ l. acted (row_end_move l c.args.count c.args.self.now.frames (terminals_of c.args.rest.now)) (made_of c.args.self.now.maker)) c.in-Echo.is ∙ acted_does c.in_ok-done-in-Echo.done (echo_action c.args.count) focus.Behind c.args.self.now.frames (terminals_of c.args.rest.now) (made_of c.args.self.now.maker) (made_of c.echo.new.self) c.in_ok-done-in-Echo.ensures ∙ c.gone.ensures c.args.self.now.frames (made_of c.echo.new.self)

pub returns-in-Begin : goal.returns-in-Begin
returns-in-Begin c = ap (λ l. acted (row_end_move l c.args.count c.args.self.now.frames (terminals_of c.args.rest.now)) (made_of c.args.self.now.maker)) c.in-Begin.is ∙ acted_none (focus.Condition c.args.count) c.args.self.now.frames (terminals_of c.args.rest.now) (made_of c.args.self.now.maker)

pub returns-in-Next : goal.returns-in-Next
returns-in-Next c = on_ok _ c.body_step.result (ap (λ l. acted (row_end_move l c.args.count c.args.self.now.frames (terminals_of c.args.rest.now)) (made_of c.args.self.now.maker)) c.in-Next.is) c.body_step.ensures
