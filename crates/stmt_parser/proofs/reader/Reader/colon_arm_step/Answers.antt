use Rattle.std.proofs.Common.{ap}
use Rattle.expr_parser.specs.Heads.{terminals_of}
use Rattle.stmt_builder.specs.Views.{made_of}
use Rattle.stmt_machine.specs.Machine.{colon_arm_move}
use Rattle.stmt_parser.specs.Outcomes.{acted}
use Rattle.stmt_parser.proofs.OtherLemmas.{colon_arm_other}
use Rattle.stmt_parser.proofs.ReadLemmas.{on_ok}
use Rattle.stmt_parser.proofs.reader.Reader.colon_arm_step.Goals as goal

pub returns-in-Some : goal.returns-in-Some
returns-in-Some c = on_ok _ c.colon_elseif_step.result (ap (λ ts. acted (colon_arm_move c.args.count c.args.self.now.frames ts) (made_of c.args.self.now.maker)) c.in-Some.ensures) c.colon_elseif_step.ensures

pub returns-in-Some-behind_word : goal.returns-in-Some-behind_word
returns-in-Some-behind_word c = on_ok _ c.colon_else_step.result (ap (λ ts. acted (colon_arm_move c.args.count c.args.self.now.frames ts) (made_of c.args.self.now.maker)) c.in-Some-behind_word.ensures) c.colon_else_step.ensures

pub returns-in-None-behind_word : goal.returns-in-None-behind_word
returns-in-None-behind_word c = on_ok _ c.colon_arm_end.result (ap (λ x. acted x (made_of c.args.self.now.maker)) (colon_arm_other c.args.count c.args.self.now.frames (terminals_of c.args.rest.now) c.in-None.ensures c.in-None-behind_word.ensures)) c.colon_arm_end.ensures
