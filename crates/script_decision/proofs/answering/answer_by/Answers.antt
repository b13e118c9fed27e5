use Rattle.std.proofs.Common.{sym, subst}
use Rattle.dtd_model.specs.TableOf.{table_of}
use Rattle.program_rules.specs.View.{program_of}
use Rattle.script_decision.specs.declared.answer.Answer.{Answer}
use Rattle.script_decision.specs.Answers.{IsAnswerBy}
use Rattle.script_decision.proofs.PageLemmas.{answer_by_verdict}
use Rattle.script_decision.proofs.answering.answer_by.Goals as goal

pub returns-in-Ok : goal.returns-in-Ok
returns-in-Ok g c =
    let m = c.args.machine.now in
    let program = program_of c.args.program.now in
    let table = table_of c.args.dtd.now in
    subst (λ (a : Answer). IsAnswerBy (g.M.Machine.first m) (g.M.Machine.steps m) (g.M.Machine.ends m) c.args.goal table program c.args.pairs a) (sym c.verdict_answer.ensures)
    (answer_by_verdict program (g.M.Machine.first m) (g.M.Machine.steps m) (g.M.Machine.ends m) table c.args.goal c.args.pairs c.in-Ok.verdict c.in-Ok.ensures.verdict c.in-Ok.ensures.searched)

pub returns-in-Err-Large : goal.returns-in-Err-Large
returns-in-Err-Large g c = rw c.in-Err-Large.field-0-is at c.in-Err-Large.ensures.cause
