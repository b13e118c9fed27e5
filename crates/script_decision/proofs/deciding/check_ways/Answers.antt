use Rattle.dtd_model.specs.TableOf.{table_of}
use Rattle.program_rules.specs.View.{program_of}
use Rattle.script_decision.proofs.ReaderLemmas.{reads, result_of_reader}
use Rattle.script_decision.proofs.deciding.check_ways.Goals as goal

pub check_by-requires : goal.check_by-requires
check_by-requires c =
    reads c.pages_are_read.ensures c.whole_forms_have_texts.ensures (table_of c.args.pages.now.dtd.now) c.args.pages.now.dtd.now.lawful c.args.pages.now.ways.now c.requires

pub returns-clause-answer : goal.returns-clause-answer
returns-clause-answer c =
    result_of_reader c.args.goal (table_of c.args.pages.now.dtd.now) (program_of c.args.program.now) c.args.pairs c.args.pages.now.ways.now c.requires c.check_by.result c.check_by.ensures.answer

pub returns-clause-sound : goal.returns-clause-sound
returns-clause-sound c = c.check_by.ensures.sound
