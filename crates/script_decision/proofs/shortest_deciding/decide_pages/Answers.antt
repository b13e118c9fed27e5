use Rattle.std.proofs.lemmas.Result.{IfOk-weaker}
use Rattle.dtd_model.specs.TableOf.{table_of}
use Rattle.program_rules.specs.View.{program_of, lawful_program}
use Rattle.script_decision.proofs.ShortestLemmas.{many_items, result_says}
use Rattle.script_decision.proofs.shortest_deciding.decide_pages.Goals as goal

pub returns-in-Ok-clause-answer : goal.returns-in-Ok-clause-answer
returns-in-Ok-clause-answer c =
    IfOk-weaker c.show.result _ _
    (λ a f. f c.args.goal (table_of c.args.pages.now.dtd.now) (program_of c.args.program.now) c.args.pages.now.ways.now c.args.grammar.now c.args.pairs c.requires.ways c.requires.grammar c.in-Ok.ensures.answer)
    c.show.ensures

pub returns-in-Ok-clause-sound : goal.returns-in-Ok-clause-sound
returns-in-Ok-clause-sound c =
    let table = table_of c.args.pages.now.dtd.now in
    let program = program_of c.args.program.now in
    result_says c.good_loose_pages_make_good_runs.ensures c.args.goal table program (lawful_program c.args.program.now) c.requires.texts c.args.pairs c.show.result
    (IfOk-weaker c.show.result _ _ (λ a f. f c.args.goal table program c.args.pages.now.ways.now c.args.grammar.now c.args.pairs c.requires.ways c.requires.grammar c.in-Ok.ensures.answer) c.show.ensures)

pub returns-in-Err-Large-clause-answer : goal.returns-in-Err-Large-clause-answer
returns-in-Err-Large-clause-answer c =
    rw c.in-Err-Large.field-0-is (many_items (table_of c.args.pages.now.dtd.now) (program_of c.args.program.now) c.args.pages.now.ways.now c.requires.ways c.args.grammar.now c.in-Err-Large.items c.requires.grammar
    (rw c.in-Err-Large.field-0-is at c.in-Err-Large.ensures.cause))
