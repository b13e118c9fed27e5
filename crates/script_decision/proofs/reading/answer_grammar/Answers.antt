use Rattle.dtd_model.specs.TableOf.{table_of}
use Rattle.program_rules.specs.View.{program_of, lawful_program}
use Rattle.echoing_machine.specs.Echoes.{EchoStep, EchoEnd}
use Rattle.script_decision.proofs.SaysLemmas.{result_says}
use Rattle.script_decision.proofs.reading.answer_grammar.Goals as goal

pub returns-clause-sound : goal.returns-clause-sound
returns-clause-sound g c =
    let reader = c.args.reader in
    let program = c.args.program.now in
    let r = g.R.ByteReader in
    result_says c.good_loose_pages_make_good_runs.ensures (r.first reader) (EchoStep (r.next reader) (r.puts reader) (r.lasts reader)) (EchoEnd (r.next reader) (r.puts reader) (r.lasts reader))
    c.args.goal (table_of c.args.dtd.now) (program_of program) (lawful_program program) c.args.pairs c.requires.texts c.answer_by.result c.answer_by.ensures
