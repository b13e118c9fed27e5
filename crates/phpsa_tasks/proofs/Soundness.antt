-- A reply of status 0 says of what is found what the headline says of what is held.
use Rattle.std.proofs.Common.{◌≡◌, ℕ, List, Bool, true, false, Contains, sym, subst}
use Rattle.plain_values.specs.declared.fault.Fault.{Fault}
use Rattle.plain_values.specs.declared.fault.Fault.TheVariants as fault
use Rattle.script_meaning.specs.Requests.{PlainRequest}
use Rattle.script_meaning.specs.Runs as runs
use Rattle.script_meaning.specs.Meaning.{meaning}
use Rattle.script_meaning.specs.Programs.{PlainProgram}
use Rattle.dtd_model.specs.Table.{Table}
use Rattle.page_model.specs.Valid.{Valid}
use Rattle.page_decision.specs.declared.goal.Goal.{Goal}
use Rattle.script_decision.specs.Answers.{RunsAreGood}
use Rattle.script_decision.specs.declared.shown.ShownAnswer.{ShownAnswer}
use Rattle.script_decision.specs.Shown.{ShownSaysOfRuns}
use Rattle.script_decision.specs.ShortestAnswers.{SaysOfRuns as ShortestSays}
use Rattle.script_decision.specs.declared.shortest_answer.ShortestAnswer.{ShortestAnswer}
use Rattle.page_policy.specs.Patterns.{Pattern}
use Rattle.script_decision.specs.PolicyAnswers.{RunsFit, SaysOfRuns}
use Rattle.script_decision.specs.declared.policy_answer.PolicyAnswer.{PolicyAnswer}
use Rattle.script_decision.specs.declared.policy_answer.PolicyAnswer.TheVariants as matched
use Rattle.phpsa_tasks.specs.PolicyAnswers.{match_status}
use Rattle.program_files.specs.Source.{SourceCall}
use Rattle.program_loader.specs.Told.{IsLoaded}
use Rattle.site_check.specs.Listed.{names_in}
use Rattle.document_types.specs.DocumentTypes.{strict_type}
use Rattle.phpsa_texts.specs.declared.exit.Exit.{Exit}
use Rattle.phpsa_texts.specs.declared.exit.Exit.TheVariants.{Done}
use Rattle.phpsa_texts.specs.Statuses.{judgment_status, fault_status}
use Rattle.phpsa_tasks.specs.Tasks.{Task, script_check, page_check, script_making, made_check, script_run, grammar_making, list_check, script_match, help_telling, version_telling, usage, AsksFor}
use Rattle.phpsa_tasks.specs.declared.choice.PageChoice.{PageChoice}
use Rattle.phpsa_tasks.specs.Call.{Call}
use Rattle.phpsa_tasks.specs.Subjects.{Subject, made_file, only_made, Finds, Holds}
use Rattle.phpsa_tasks.specs.ScriptAnswers.{answer_status, shortest_status}
use Rattle.phpsa_tasks.specs.Replies.{end_status, IsEarly, IsJudged, IsReplyOf, IsHaltOf, Replies, Halts}
use Rattle.phpsa_tasks.specs.Endings.{OwesRefusal, of_task, wants_memory, Ends, replied, refused, halted, by_out, by_err, no_memory}
use Rattle.phpsa_tasks.specs.Sound.{Means, IsSound}
use Rattle.phpsa_tasks.proofs.Held.{OneProgram, own_program, own_page, own_list, own_run, own_match}
use Rattle.phpsa_tasks.proofs.ListLemmas.{LoadedStays, list_means}
use Rattle.phpsa_tasks.proofs.Never.{never_done}
use Rattle.phpsa_tasks.proofs.Answers.{OneTask, the_reply, the_halt}

-- what a reply of status 0 says of runs
runs_of : (goal : Goal) (table : Table) (program : PlainProgram) (answer : ShownAnswer) → answer_status answer ≡ Done → ShownSaysOfRuns goal table program answer
    → RunsAreGood goal table program
runs_of goal table program ShownAnswer.Yes e says = says
runs_of goal table program (ShownAnswer.No shown) e says = absurd cc
runs_of goal table program (ShownAnswer.Pairs count height) e says = absurd cc
runs_of goal table program (ShownAnswer.Tags count height) e says = absurd cc
runs_of goal table program (ShownAnswer.Items count) e says = absurd cc

-- and where a shortest page is asked for
short_runs_of : (goal : Goal) (table : Table) (program : PlainProgram) (answer : ShortestAnswer) → shortest_status answer ≡ Done → ShortestSays goal table program answer
    → RunsAreGood goal table program
short_runs_of goal table program ShortestAnswer.Yes e says = says
short_runs_of goal table program (ShortestAnswer.No shown) e says = absurd cc
short_runs_of goal table program (ShortestAnswer.Pairs count len) e says = absurd cc
short_runs_of goal table program (ShortestAnswer.Tags count len) e says = absurd cc
short_runs_of goal table program (ShortestAnswer.Items count) e says = absurd cc

-- and of runs by a pattern
fits_of : (p : Pattern) (program : PlainProgram) (answer : PolicyAnswer) → match_status answer ≡ Done → SaysOfRuns p program answer → RunsFit p program
fits_of p program matched.Yes e says = says
fits_of p program (matched.No shown) e says = absurd cc
fits_of p program (matched.Items count) e says = absurd cc
fits_of p program (matched.States count) e says = absurd cc

-- and of a page
judged_valid : (table : Table) (page : List ℕ) (valid : Bool) → judgment_status valid ≡ Done → IsJudged table page valid → Valid table page
judged_valid table page true e is = is
judged_valid table page false e is = absurd cc

-- what the reply of status 0 to what is found means for what is held
reply_means : OneProgram → LoadedStays → (files : SourceCall) (task : Task) (x y : Subject task) (text : List ℕ) → Holds files.content task x → Finds files.content task y
    → IsReplyOf files task y Done text → Means files.content task x
reply_means one stay files (script_check file d goal limit form PageChoice.First) x y text (h, t) (found, has) (answer, is, status_is, text_is) =
    own_program one files.content file d x y h t found.loaded has (λ (p : PlainProgram) (s : Table). RunsAreGood goal s p) (runs_of goal y.table y.program answer (sym status_is) is.1)
reply_means one stay files (script_check file d goal limit form PageChoice.Shortest) x y text (h, t) (found, has) (answer, is, status_is, text_is) =
    own_program one files.content file d x y h t found.loaded has (λ (p : PlainProgram) (s : Table). RunsAreGood goal s p) (short_runs_of goal y.table y.program answer (sym status_is) is.1)
reply_means one stay files (page_check file d) x y text (h, t) (found, has) (valid, is, status_is, text_is) =
    own_page files.content file d x y h t found has (λ (p : List ℕ) (s : Table). Valid s p) (judged_valid y.table y.page valid (sym status_is) is)
reply_means one stay files (script_making n) x y text h f (size, status_is, text_is) = size
reply_means one stay files (made_check n) x y text (size, h, t) (size', found, has) (answer, is, status_is, text_is) =
    own_program one (only_made n) made_file strict_type x y h t found.loaded has (λ (p : PlainProgram) (s : Table). RunsAreGood Goal.Valid s p)
    (runs_of Goal.Valid y.table y.program answer (sym status_is) is.1)
reply_means one stay files (script_run file request steps) x y text (h, r) (found, finds, admitted) (ended, status_is, text_is) =
    own_run one files.content file request x y h r found.loaded finds (λ (p : PlainProgram) (q : PlainRequest). (meaning p q steps).end ≡ runs.Ended) ended
reply_means one stay files (grammar_making file) x y text h f r = tt
reply_means one stay files (list_check file d goal limit) x y text (h, t) (found, has, good) (lines, are, status_is, text_is) =
    own_list files.content file.name d x y h t found has
    (λ (l : List ℕ) (s : Table). (name : List ℕ) → Contains (names_in l) name → (program : PlainProgram) × IsLoaded files.content name file.stubs program × RunsAreGood goal s program)
    (list_means stay files file goal limit y lines are status_is)
reply_means one stay files (script_match file name) x y text (h, t) (found, finds) (answer, is, status_is, text_is) =
    own_match one files.content file name x y h t found.loaded finds (λ (p : PlainProgram) (q : Pattern). RunsFit q p) (fits_of y.pattern y.program answer (sym status_is) is.1)
reply_means one stay files help_telling x y text h f r = tt
reply_means one stay files version_telling x y text h f r = tt
reply_means one stay files usage x y text h f r = absurd r

pub refused_done : (call : Call) (text : List ℕ) → OwesRefusal call Done text → ⊥
refused_done call text (of_task task asked refuses) = never_done call.files task Done text refuses tt
refused_done call text (wants_memory is text_is) = cc

-- a run that does not come to its end has another status
fault_done : (f : Fault) → Done ≡ fault_status f → ⊥
fault_done fault.Float e = cc
fault_done fault.NotNumber e = cc
fault_done fault.BadIndex e = cc
fault_done fault.Compare e = cc
fault_done fault.Full e = cc
fault_done fault.NotUtf8 e = cc
fault_done fault.ZeroDivisor e = cc
fault_done fault.WrongType e = cc
fault_done fault.Long e = cc
fault_done fault.Memory e = cc

early_done : (how : runs.End) → IsEarly how → Done ≡ end_status how → ⊥
early_done runs.Ended early e = early
early_done (runs.Faulted f) early e = fault_done f e
early_done runs.Spent early e = cc
early_done runs.Deep early e = cc

pub halted_done : (task : Task) (x : Subject task) (printed text : List ℕ) → IsHaltOf task x Done printed text → ⊥
halted_done (script_check file d goal limit form choice) x printed text r = r
halted_done (page_check file d) x printed text r = r
halted_done (script_making n) x printed text r = r
halted_done (made_check n) x printed text r = r
halted_done (script_run file request steps) x printed text (early, is, printed_is, text_is) = early_done _ early is
halted_done (grammar_making file) x printed text r = r
halted_done (list_check file d goal limit) x printed text r = r
halted_done (script_match file name) x printed text r = r
halted_done help_telling x printed text r = r
halted_done version_telling x printed text r = r
halted_done usage x printed text r = r

done_means : OneTask → OneProgram → LoadedStays → (call : Call) → Ends call Done → (task : Task) (x : Subject task) → AsksFor call.words task → Holds call.files.content task x → Means call.files.content task x
done_means one_task one_program stay call (replied e) task x asked h =
    let r : Replies call.files task Done e.text = the_reply one_task call Done e.text e.owed task asked in
    reply_means one_program stay call.files task x r.subject e.text h r.found r.says
done_means one_task one_program stay call (refused e) task x asked h = absurd (refused_done call e.text e.owed)
done_means one_task one_program stay call (halted e) task x asked h =
    let r : Halts call.files task Done e.printed e.text = the_halt one_task call Done e.printed e.text e.owed task asked in
    absurd (halted_done task r.subject e.printed e.text r.says)
done_means one_task one_program stay call (by_out is e) task x asked h = absurd cc
done_means one_task one_program stay call (by_err is e) task x asked h = absurd cc
done_means one_task one_program stay call (no_memory is e) task x asked h = absurd cc

pub sound : OneTask → OneProgram → LoadedStays → (call : Call) (status : Exit) → Ends call status → IsSound call status
sound one_task one_program stay call status ends is = done_means one_task one_program stay call (subst (Ends call) is ends)
