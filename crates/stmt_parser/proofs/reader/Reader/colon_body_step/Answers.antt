use Rattle.std.proofs.Common.{ap, ◌∙◌}
use Rattle.expr_parser.specs.Heads.{terminals_of}
use Rattle.stmt_builder.specs.Views.{made_of}
use Rattle.stmt_machine.specs.Actions.{loop_action}
use Rattle.stmt_parser.specs.Outcomes.{acted}
use Rattle.stmt_parser.proofs.ActedLemmas.{acted_jump}
use Rattle.stmt_parser.proofs.ReadLemmas.{on_ok}
use Rattle.stmt_parser.proofs.reader.Reader.colon_body_step.Goals as goal

pub returns-in_default : goal.returns-in_default
returns-in_default c = on_ok _ c.enter.result (ap (λ x. acted x (made_of c.args.self.now.maker)) (c.in_default.ensures c.args.self.now.frames)) c.enter.ensures

pub returns : goal.returns
returns c = ap (λ x. acted x (made_of c.args.self.now.maker)) (c.in-Some.ensures c.args.self.now.frames) ∙ acted_jump c.in_ok-done.done (loop_action c.args.of) c.args.self.now.frames (terminals_of c.in-Some.behind.now) (made_of c.args.self.now.maker) (made_of c.end_loop.new.self) c.in_ok-done.ensures ∙ c.jump.ensures c.args.self.now.frames (made_of c.end_loop.new.self)
