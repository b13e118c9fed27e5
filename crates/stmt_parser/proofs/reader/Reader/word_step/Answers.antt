use Rattle.std.proofs.Common.{ap, sym, ◌∙◌}
use Rattle.expr_parser.specs.Heads.{terminals_of}
use Rattle.stmt_builder.specs.Views.{made_of}
use Rattle.stmt_machine.specs.Actions.{run_action}
use Rattle.stmt_machine.specs.Machine.{statement_at, value_move, word_move}
use Rattle.stmt_parser.specs.Outcomes.{acted}
use Rattle.stmt_parser.proofs.OtherLemmas.{word_other}
use Rattle.stmt_parser.proofs.ReadLemmas.{on_ok}
use Rattle.stmt_parser.proofs.reader.Reader.word_step.Goals as goal

pub returns-in-Echo : goal.returns-in-Echo
returns-in-Echo c = on_ok _ c.listed_step.result (ap (λ k. acted (word_move k c.args.self.now.frames (terminals_of c.args.behind.now)) (made_of c.args.self.now.maker)) c.in-Echo.is) c.listed_step.ensures

pub returns-in-Print : goal.returns-in-Print
returns-in-Print c = on_ok _ c.value_step.result (ap (λ k. acted (word_move k c.args.self.now.frames (terminals_of c.args.behind.now)) (made_of c.args.self.now.maker)) c.in-Print.is) c.value_step.ensures

pub returns-in-If : goal.returns-in-If
returns-in-If c = on_ok _ c.if_step.result (ap (λ k. acted (word_move k c.args.self.now.frames (terminals_of c.args.behind.now)) (made_of c.args.self.now.maker)) c.in-If.is) c.if_step.ensures

pub returns-in-While : goal.returns-in-While
returns-in-While c = on_ok _ c.while_step.result (ap (λ k. acted (word_move k c.args.self.now.frames (terminals_of c.args.behind.now)) (made_of c.args.self.now.maker)) c.in-While.is) c.while_step.ensures

pub returns-in-Do : goal.returns-in-Do
returns-in-Do c = on_ok _ c.open_body.result (ap (λ k. acted (word_move k c.args.self.now.frames (terminals_of c.args.behind.now)) (made_of c.args.self.now.maker)) c.in-Do.is) c.open_body.ensures

pub returns-in-For : goal.returns-in-For
returns-in-For c = ap (λ k. acted (word_move k c.args.self.now.frames (terminals_of c.args.behind.now)) (made_of c.args.self.now.maker)) c.in-For.is ∙ c.for_step.ensures c.args.self.now.frames (made_of c.args.self.now.maker)

pub returns-in-Foreach : goal.returns-in-Foreach
returns-in-Foreach c = on_ok _ c.foreach_step.result (ap (λ k. acted (word_move k c.args.self.now.frames (terminals_of c.args.behind.now)) (made_of c.args.self.now.maker)) c.in-Foreach.is) c.foreach_step.ensures

pub returns-in-Break : goal.returns-in-Break
returns-in-Break c = on_ok _ c.break_step.result (ap (λ k. acted (word_move k c.args.self.now.frames (terminals_of c.args.behind.now)) (made_of c.args.self.now.maker)) c.in-Break.is) c.break_step.ensures

pub returns-in-Continue : goal.returns-in-Continue
returns-in-Continue c = on_ok _ c.continue_step.result (ap (λ k. acted (word_move k c.args.self.now.frames (terminals_of c.args.behind.now)) (made_of c.args.self.now.maker)) c.in-Continue.is) c.continue_step.ensures

pub returns-in-Return : goal.returns-in-Return
returns-in-Return c = on_ok _ c.return_step.result (ap (λ k. acted (word_move k c.args.self.now.frames (terminals_of c.args.behind.now)) (made_of c.args.self.now.maker)) c.in-Return.is) c.return_step.ensures

pub returns-in-Include : goal.returns-in-Include
returns-in-Include c = on_ok _ c.include_step.result (ap (λ k. acted (word_move k c.args.self.now.frames (terminals_of c.args.behind.now)) (made_of c.args.self.now.maker)) c.in-Include.is) c.include_step.ensures

pub returns-in-Require : goal.returns-in-Require
returns-in-Require c = on_ok _ c.include_step-in-Require.result (ap (λ k. acted (word_move k c.args.self.now.frames (terminals_of c.args.behind.now)) (made_of c.args.self.now.maker)) c.in-Require.is) c.include_step-in-Require.ensures

pub returns-in-Exit : goal.returns-in-Exit
returns-in-Exit c = on_ok _ c.exit_step.result (ap (λ k. acted (word_move k c.args.self.now.frames (terminals_of c.args.behind.now)) (made_of c.args.self.now.maker)) c.in-Exit.is) c.exit_step.ensures

pub returns-in_default : goal.returns-in_default
returns-in_default c = on_ok _ c.value_step-in_default.result (ap (λ x. acted x (made_of c.args.self.now.maker)) (word_other c.args.word c.args.self.now.frames (terminals_of c.args.behind.now) c.in_default.not-Echo c.in_default.not-Print c.in_default.not-If c.in_default.not-While c.in_default.not-Do c.in_default.not-For c.in_default.not-Foreach c.in_default.not-Break c.in_default.not-Continue c.in_default.not-Return c.in_default.not-Include c.in_default.not-Require c.in_default.not-Exit) ∙ ap (λ ts. acted (value_move run_action c.args.self.now.frames (statement_at ts)) (made_of c.args.self.now.maker)) (sym c.requires)) c.value_step-in_default.ensures
