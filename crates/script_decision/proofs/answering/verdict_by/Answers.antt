use Rattle.std.proofs.lemmas.Result.{IfOk-weaker}
use Rattle.dtd_model.specs.TableOf.{table_of}
use Rattle.program_rules.specs.View.{program_of}
use Rattle.script_decision.proofs.PageLemmas.{verdict_on_program, cause_on_program, searched_on_program}
use Rattle.script_decision.proofs.answering.verdict_by.Goals as goal

pub returns-clause-verdict : goal.returns-clause-verdict
returns-clause-verdict g c =
    let m = c.args.machine.now in
    let made = c.args.grammar.now in
    IfOk-weaker c.decide_grammar.result _ _
    (λ v is. verdict_on_program (program_of c.args.program.now) (g.M.Machine.first m) (g.M.Machine.steps m) (g.M.Machine.ends m) made c.requires.grammar (table_of c.args.dtd.now) c.args.goal c.args.pairs v is)
    c.decide_grammar.ensures.verdict

pub returns-clause-cause : goal.returns-clause-cause
returns-clause-cause g c =
    let m = c.args.machine.now in
    let made = c.args.grammar.now in
    cause_on_program (program_of c.args.program.now) (g.M.Machine.first m) (g.M.Machine.steps m) made (table_of c.args.dtd.now) c.decide_grammar.result c.requires.grammar
    c.decide_grammar.ensures.searched c.decide_grammar.ensures.cause

pub returns-clause-searched : goal.returns-clause-searched
returns-clause-searched g c e =
    searched_on_program (program_of c.args.program.now) c.args.grammar.now (table_of c.args.dtd.now) c.requires.grammar (c.decide_grammar.ensures.searched e)
