use Rattle.std.proofs.Common.{ap, sym, ◌∙◌}
use Rattle.expr_parser.specs.Heads.{terminals_of}
use Rattle.stmt_builder.specs.Views.{made_of}
use Rattle.stmt_machine.specs.Actions.{run_action}
use Rattle.stmt_machine.specs.Machine.{statement_at, value_move, sign_move}
use Rattle.stmt_parser.specs.Outcomes.{acted}
use Rattle.stmt_parser.proofs.ActedLemmas.{acted_none}
use Rattle.stmt_parser.proofs.OtherLemmas.{sign_other}
use Rattle.stmt_parser.proofs.ReadLemmas.{on_ok}
use Rattle.stmt_machine.specs.declared.frame.Focus.TheVariants as focus
use Rattle.stmt_parser.proofs.reader.Reader.sign_step.Goals as goal

pub returns-in-Semicolon : goal.returns-in-Semicolon
returns-in-Semicolon c = ap (λ s. acted (sign_move s c.args.self.now.frames (terminals_of c.args.behind.now)) (made_of c.args.self.now.maker)) c.in-Semicolon.is ∙ acted_none focus.Behind c.args.self.now.frames (terminals_of c.args.behind.now) (made_of c.args.self.now.maker)

pub returns-in-OpenBrace : goal.returns-in-OpenBrace
returns-in-OpenBrace c = on_ok _ c.enter.result (ap (λ s. acted (sign_move s c.args.self.now.frames (terminals_of c.args.behind.now)) (made_of c.args.self.now.maker)) c.in-OpenBrace.is) c.enter.ensures

pub returns-in_default : goal.returns-in_default
returns-in_default c = on_ok _ c.value_step.result (ap (λ x. acted x (made_of c.args.self.now.maker)) (sign_other c.args.sign c.args.self.now.frames (terminals_of c.args.behind.now) c.in_default.not-Semicolon c.in_default.not-OpenBrace) ∙ ap (λ ts. acted (value_move run_action c.args.self.now.frames (statement_at ts)) (made_of c.args.self.now.maker)) (sym c.requires)) c.value_step.ensures
