use Rattle.std.proofs.Common.{ap, ◌∙◌, false}
use Rattle.expr_parser.specs.Heads.{terminals_of}
use Rattle.stmt_builder.specs.Views.{made_of}
use Rattle.stmt_machine.specs.Actions.{if_action}
use Rattle.stmt_parser.specs.Nexts.{colon_arm_end_next}
use Rattle.stmt_parser.specs.Outcomes.{acted}
use Rattle.stmt_parser.proofs.ActedLemmas.{acted_jump}
use Rattle.stmt_parser.proofs.OtherLemmas.{colon_arm_none}
use Rattle.stmt_parser.proofs.ReadLemmas.{on_ok}
use Rattle.stmt_parser.proofs.reader.Reader.colon_arm_end.Goals as goal

pub returns-in_default : goal.returns-in_default
returns-in_default c = on_ok _ c.enter.result (ap (λ x. acted x (made_of c.args.self.now.maker)) (colon_arm_none c.args.count c.args.self.now.frames (terminals_of c.args.rest.now) c.in_default.ensures)) c.enter.ensures

pub returns : goal.returns
returns c = ap (λ ts. acted (colon_arm_end_next c.args.count c.args.self.now.frames ts) (made_of c.args.self.now.maker)) c.in-Some.ensures ∙ acted_jump c.in_ok-done.done (if_action c.args.count false) c.args.self.now.frames (terminals_of c.in-Some.behind.now) (made_of c.args.self.now.maker) (made_of c.end_if.new.self) c.in_ok-done.ensures ∙ c.jump.ensures c.args.self.now.frames (made_of c.end_if.new.self)
