-- A checked program that is run prints a good page.
use Rattle.std.proofs.Common.{◌≡◌, ℕ, List, Option, refl, sym, subst}
use Rattle.page_decision.specs.declared.goal.Goal.{Goal}
use Rattle.page_decision.specs.Goals.{IsGood}
use Rattle.script_meaning.specs.Programs.{PlainProgram}
use Rattle.script_meaning.specs.Requests.{Admitted}
use Rattle.document_types.specs.DocumentTypes.{NamedType}
use Rattle.script_decision.specs.Answers.{RunsAreGood}
use Rattle.phpsa_texts.specs.declared.exit.Exit.TheVariants.{Done}
use Rattle.phpsa_texts.specs.declared.answers.AnswerForm.{AnswerForm}
use Rattle.phpsa_tasks.specs.declared.choice.PageChoice.{PageChoice}
use Rattle.phpsa_tasks.specs.Tasks.{ScriptFile, script_check, script_run, AsksFor}
use Rattle.phpsa_tasks.specs.Call.{Call, Gains}
use Rattle.phpsa_tasks.specs.Subjects.{ProgramBy, ProgramFor, Holds}
use Rattle.phpsa_tasks.specs.Replies.{outcome_for, Replies, Halts}
use Rattle.phpsa_tasks.specs.Endings.{Ends, replied, refused, halted, by_out, by_err, no_memory}
use Rattle.phpsa_tasks.specs.Written.{Writes, writes_reply, writes_halt}
use Rattle.phpsa_tasks.specs.Joined.{IsChecked, HasRun, CheckedRunsPrintGoodPages}
use Rattle.phpsa_tasks.proofs.Held.{own_request}
use Rattle.phpsa_tasks.proofs.Soundness.{refused_done, halted_done}
use Rattle.phpsa_tasks.proofs.Answers.{OneTask, the_reply, the_halt}

-- the request of a run that came to its end is admitted
admitted : OneTask → (call : Call) (file : ScriptFile) (request : Option (List ℕ)) (steps : ℕ) (x : ProgramFor) → Ends call Done → AsksFor call.words (script_run file request steps)
    → Holds call.files.content (script_run file request steps) x → Admitted x.request
admitted one call file request steps x (replied e) asked (h, r) =
    let y : Replies call.files (script_run file request steps) Done e.text = the_reply one call Done e.text e.owed (script_run file request steps) asked in
    subst Admitted (sym (own_request call.files.content request x.request y.subject.request r y.found.1)) y.found.2
admitted one call file request steps x (refused e) asked h = absurd (refused_done call e.text e.owed)
admitted one call file request steps x (halted e) asked h =
    let y : Halts call.files (script_run file request steps) Done e.printed e.text = the_halt one call Done e.printed e.text e.owed (script_run file request steps) asked in
    absurd (halted_done (script_run file request steps) y.subject e.printed e.text y.says)
admitted one call file request steps x (by_out is e) asked h = absurd cc
admitted one call file request steps x (by_err is e) asked h = absurd cc
admitted one call file request steps x (no_memory is e) asked h = absurd cc

good : OneTask → (checked ran : Call) (file other : ScriptFile) (d : NamedType) (goal : Goal) (limit : ℕ) (form : AnswerForm) (choice : PageChoice) (request : Option (List ℕ)) (steps : ℕ)
    (x : ProgramBy) (y : ProgramFor) → x.program ≡ y.program → IsChecked checked file d goal limit form choice x → HasRun ran other request steps y
    → IsGood goal x.table (outcome_for y steps).printed
good one checked ran file other d goal limit form choice request steps x y same c r =
    let runs : RunsAreGood goal x.table x.program = c.keeps.sound refl (script_check file d goal limit form choice) x c.asked c.held in
    let own : RunsAreGood goal x.table y.program = subst (λ (p : PlainProgram). RunsAreGood goal x.table p) same runs in
    own y.request steps (admitted one ran other request steps y r.keeps.ends r.asked r.held) (r.keeps.sound refl (script_run other request steps) y r.asked r.held)

-- what a run that came to its end has written is what it printed
run_gains : (call : Call) (file : ScriptFile) (request : Option (List ℕ)) (steps : ℕ) (y : ProgramFor) → Writes call Done (script_run file request steps) y
    → Gains call.out (outcome_for y steps).printed
run_gains call file request steps y (writes_reply text (ended, is, text_is) out err) = subst (Gains call.out) text_is out
run_gains call file request steps y (writes_halt printed text is out err) = absurd (halted_done (script_run file request steps) y printed text is)

pub joined : OneTask → CheckedRunsPrintGoodPages
joined one = λ checked ran file other d goal limit form choice request steps x y same c r. record {
  gains = run_gains ran other request steps y (r.keeps.written tt (script_run other request steps) y r.asked r.held);
  good = good one checked ran file other d goal limit form choice request steps x y same c r;
}
