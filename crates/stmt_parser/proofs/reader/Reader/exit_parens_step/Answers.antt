use Rattle.std.proofs.Common.{ap, ◌∙◌, false}
use Rattle.expr_parser.specs.Heads.{terminals_of}
use Rattle.stmt_builder.specs.Views.{made_of}
use Rattle.stmt_machine.specs.Actions.{exit_action}
use Rattle.stmt_machine.specs.Machine.{exit_parens_move}
use Rattle.stmt_parser.specs.Outcomes.{acted}
use Rattle.stmt_parser.proofs.ActedLemmas.{acted_jump}
use Rattle.stmt_parser.proofs.TestLemmas.{exit_argument}
use Rattle.stmt_parser.proofs.ReadLemmas.{on_ok}
use Rattle.stmt_parser.proofs.reader.Reader.exit_parens_step.Goals as goal

pub returns-in_default : goal.returns-in_default
returns-in_default c = on_ok _ c.argument_step.result (ap (λ x. acted x (made_of c.args.self.now.maker)) (exit_argument c.args.self.now.frames (terminals_of c.args.rest.now) c.in_default.ensures)) c.argument_step.ensures

pub returns : goal.returns
returns c = ap (λ ts. acted (exit_parens_move c.args.self.now.frames ts) (made_of c.args.self.now.maker)) c.in-Some.ensures ∙ acted_jump c.in_ok-done.done (exit_action false) c.args.self.now.frames (terminals_of c.in-Some.behind.now) (made_of c.args.self.now.maker) (made_of c.quit.new.self) c.in_ok-done.ensures ∙ c.jump.ensures c.args.self.now.frames (made_of c.quit.new.self)
