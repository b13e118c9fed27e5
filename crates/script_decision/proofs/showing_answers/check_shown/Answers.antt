use Rattle.dtd_model.specs.TableOf.{table_of}
use Rattle.program_rules.specs.View.{program_of}
use Rattle.script_decision.proofs.showing_answers.check_shown.Goals as goal

pub returns-in-Ok-show-clause-answer : goal.returns-in-Ok-show-clause-answer
returns-in-Ok-show-clause-answer c = c.in-Ok-show.ensures.answer c.args.goal (table_of c.args.dtd.now) (program_of c.args.program.now) c.args.pairs c.in-Ok.ensures.answer

pub returns-in-Ok-show-clause-sound : goal.returns-in-Ok-show-clause-sound
returns-in-Ok-show-clause-sound c = c.in-Ok-show.ensures.runs c.args.goal (table_of c.args.dtd.now) (program_of c.args.program.now) c.in-Ok.ensures.sound
