use Rattle.std.proofs.Common.{ap}
use Rattle.expr_parser.specs.Heads.{terminals_of}
use Rattle.stmt_builder.specs.Views.{made_of}
use Rattle.stmt_machine.specs.Machine.{move}
use Rattle.stmt_parser.specs.Outcomes.{acted}
use Rattle.stmt_parser.proofs.ReadLemmas.{on_ok}
use Rattle.stmt_parser.proofs.reader.Reader.step.Goals as goal

pub returns-in-Begin : goal.returns-in-Begin
unfolding move
returns-in-Begin c = on_ok _ c.begin_step.result (ap (λ f. acted (move f c.args.self.now.frames (terminals_of c.args.rest.now)) (made_of c.args.self.now.maker)) c.in-Begin.is) c.begin_step.ensures

pub returns-in-Behind : goal.returns-in-Behind
unfolding move
returns-in-Behind c = on_ok _ c.behind_step.result (ap (λ f. acted (move f c.args.self.now.frames (terminals_of c.args.rest.now)) (made_of c.args.self.now.maker)) c.in-Behind.is) c.behind_step.ensures

pub returns-in-Start : goal.returns-in-Start
unfolding move
returns-in-Start c = on_ok _ c.start_step.result (ap (λ f. acted (move f c.args.self.now.frames (terminals_of c.args.rest.now)) (made_of c.args.self.now.maker)) c.in-Start.is) c.start_step.ensures

pub returns-in-Listed : goal.returns-in-Listed
unfolding move
returns-in-Listed c = on_ok _ c.row_step.result (ap (λ f. acted (move f c.args.self.now.frames (terminals_of c.args.rest.now)) (made_of c.args.self.now.maker)) c.in-Listed.is) c.row_step.ensures

pub returns-in-Condition : goal.returns-in-Condition
unfolding move
returns-in-Condition c = on_ok _ c.condition_step.result (ap (λ f. acted (move f c.args.self.now.frames (terminals_of c.args.rest.now)) (made_of c.args.self.now.maker)) c.in-Condition.is) c.condition_step.ensures

pub returns-in-Parameters : goal.returns-in-Parameters
unfolding move
returns-in-Parameters c = on_ok _ c.parameters_step.result (ap (λ f. acted (move f c.args.self.now.frames (terminals_of c.args.rest.now)) (made_of c.args.self.now.maker)) c.in-Parameters.is) c.parameters_step.ensures

pub returns-in-Parameter : goal.returns-in-Parameter
unfolding move
returns-in-Parameter c = on_ok _ c.parameter_step.result (ap (λ f. acted (move f c.args.self.now.frames (terminals_of c.args.rest.now)) (made_of c.args.self.now.maker)) c.in-Parameter.is) c.parameter_step.ensures

pub returns-in-BehindParameter : goal.returns-in-BehindParameter
unfolding move
returns-in-BehindParameter c = on_ok _ c.parameter_end_step.result (ap (λ f. acted (move f c.args.self.now.frames (terminals_of c.args.rest.now)) (made_of c.args.self.now.maker)) c.in-BehindParameter.is) c.parameter_end_step.ensures
