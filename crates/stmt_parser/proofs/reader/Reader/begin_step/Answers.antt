use Rattle.std.proofs.Common.{ap, ◌∙◌}
use Rattle.expr_parser.specs.Heads.{terminals_of}
use Rattle.stmt_builder.specs.Views.{made_of}
use Rattle.stmt_machine.specs.Actions.{inline_action}
use Rattle.stmt_machine.specs.Machine.{begin_move}
use Rattle.stmt_parser.specs.Outcomes.{acted}
use Rattle.stmt_parser.proofs.ActedLemmas.{acted_does}
use Rattle.stmt_parser.proofs.OtherLemmas.{begin_other}
use Rattle.stmt_parser.proofs.ReadLemmas.{on_ok}
use Rattle.stmt_machine.specs.declared.frame.Focus.TheVariants as focus
use Rattle.stmt_parser.proofs.reader.Reader.begin_step.Goals as goal

pub returns-in-Some : goal.returns-in-Some
returns-in-Some c = on_ok _ c.sign_step.result (ap (λ ts. acted (begin_move c.args.self.now.frames ts) (made_of c.args.self.now.maker)) c.in-Some.ensures) c.sign_step.ensures

pub returns-in-Some-word_at : goal.returns-in-Some-word_at
returns-in-Some-word_at c = on_ok _ c.word_step.result (ap (λ ts. acted (begin_move c.args.self.now.frames ts) (made_of c.args.self.now.maker)) c.in-Some-word_at.ensures) c.word_step.ensures

pub returns : goal.returns
returns c = ap (λ ts. acted (begin_move c.args.self.now.frames ts) (made_of c.args.self.now.maker)) c.in-Some-inline_at.ensures ∙ acted_does c.in_ok-done.done (inline_action c.in-Some-inline_at.text.now) focus.Behind c.args.self.now.frames (terminals_of c.in-Some-inline_at.behind.now) (made_of c.args.self.now.maker) (made_of c.inline.new.self) c.in_ok-done.ensures ∙ c.gone.ensures c.args.self.now.frames (made_of c.inline.new.self)

pub returns-in_default-inline_at : goal.returns-in_default-inline_at
returns-in_default-inline_at c = on_ok _ c.value_step.result (ap (λ x. acted x (made_of c.args.self.now.maker)) (begin_other c.args.self.now.frames (terminals_of c.args.rest.now) c.in_default.ensures c.in_default-word_at.ensures c.in_default-inline_at.ensures)) c.value_step.ensures
