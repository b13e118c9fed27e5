use Rattle.std.proofs.Common.{ap, ◌∙◌, false}
use Rattle.expr_parser.specs.Heads.{terminals_of}
use Rattle.stmt_builder.specs.Views.{made_of}
use Rattle.stmt_machine.specs.Actions.{exit_action}
use Rattle.stmt_machine.specs.Machine.{exit_move}
use Rattle.stmt_parser.specs.Outcomes.{acted}
use Rattle.stmt_parser.proofs.ActedLemmas.{acted_jump}
use Rattle.stmt_parser.proofs.OtherLemmas.{exit_plain}
use Rattle.stmt_parser.proofs.ReadLemmas.{on_ok}
use Rattle.stmt_parser.proofs.reader.Reader.exit_step.Goals as goal

pub returns-in-Some : goal.returns-in-Some
returns-in-Some c = on_ok _ c.exit_parens_step.result (ap (λ ts. acted (exit_move c.args.self.now.frames ts) (made_of c.args.self.now.maker)) c.in-Some.ensures) c.exit_parens_step.ensures

pub returns-in_ok-done-in-None : goal.returns-in_ok-done-in-None
returns-in_ok-done-in-None c = ap (λ x. acted x (made_of c.args.self.now.maker)) (exit_plain c.args.self.now.frames (terminals_of c.args.rest.now) c.in-None.ensures) ∙ acted_jump c.in_ok-done-in-None.done (exit_action false) c.args.self.now.frames (terminals_of c.args.rest.now) (made_of c.args.self.now.maker) (made_of c.quit.new.self) c.in_ok-done-in-None.ensures ∙ c.jump.ensures c.args.self.now.frames (made_of c.quit.new.self)
