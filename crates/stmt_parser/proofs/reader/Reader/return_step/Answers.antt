use Rattle.std.proofs.Common.{ap, ◌∙◌, false}
use Rattle.expr_parser.specs.Heads.{terminals_of}
use Rattle.stmt_builder.specs.Views.{made_of}
use Rattle.stmt_machine.specs.Actions.{return_action}
use Rattle.stmt_machine.specs.Machine.{return_move}
use Rattle.stmt_parser.specs.Outcomes.{acted}
use Rattle.stmt_parser.proofs.ActedLemmas.{acted_does}
use Rattle.stmt_parser.proofs.ReadLemmas.{on_ok}
use Rattle.stmt_parser.proofs.TestLemmas.{return_value}
use Rattle.stmt_machine.specs.declared.frame.Focus.TheVariants as focus
use Rattle.stmt_parser.proofs.reader.Reader.return_step.Goals as goal

pub returns-in_default : goal.returns-in_default
returns-in_default c = on_ok _ c.value_step.result (ap (λ x. acted x (made_of c.args.self.now.maker)) (return_value c.args.self.now.frames (terminals_of c.args.rest.now) c.in_default.ensures)) c.value_step.ensures

pub returns : goal.returns
returns c = ap (λ ts. acted (return_move c.args.self.now.frames ts) (made_of c.args.self.now.maker)) c.in-Some.ensures ∙ acted_does c.in_ok-done.done (return_action false) focus.Behind c.args.self.now.frames (terminals_of c.in-Some.behind.now) (made_of c.args.self.now.maker) (made_of c.give_back.new.self) c.in_ok-done.ensures ∙ c.gone.ensures c.args.self.now.frames (made_of c.give_back.new.self)
