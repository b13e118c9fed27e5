-- How a call ends says how it is answered.
use Rattle.std.proofs.Common.{◌≡◌, ◌∙◌, ℕ, List, [], ◌∷◌, Some, Contains, refl, sym, subst, inl, inr, lit<}
use Rattle.std.specs.Prelude.{◌⊎◌}
use Rattle.io_edge.specs.Told.{Content}
use Rattle.request_reading.specs.declared.refusal.RequestRefusal.{RequestRefusal}
use Rattle.command_words.specs.Asked.{Asked, Asks, AsksNothing}
use Rattle.command_words.specs.Canonical.{IsCanonical}
use Rattle.phpsa_texts.specs.declared.exit.Exit.{Exit}
use Rattle.phpsa_texts.specs.declared.exit.Exit.TheVariants.{WriteFault, Usage, Memory}
use Rattle.phpsa_tasks.specs.Tasks.{ScriptFile, Task, script_check, page_check, script_making, made_check, script_run, grammar_making, list_check, script_match, help_telling, version_telling, usage, task_of, AsksFor, asks, asks_nothing}
use Rattle.phpsa_tasks.specs.Call.{Call, Gains, GainsNothing}
use Rattle.phpsa_tasks.specs.Subjects.{Subject, Finds, Holds, IsWithin, LacksFile}
use Rattle.phpsa_tasks.specs.Replies.{Replies, Halts}
use Rattle.phpsa_tasks.specs.Causes.{Refuses}
use Rattle.phpsa_tasks.specs.Endings.{OwesReply, OwesRefusal, of_task, wants_memory, OwesHalt, Ends, replied, refused, halted, by_out, by_err, no_memory}
use Rattle.phpsa_tasks.specs.Answered.{IsUndisturbed, IsVerdict, IsStopped, statuses_of_nothing, IsNotRun, TellsCause, IsNotMatched, TellsPolicy, IsAnswered}
use Rattle.phpsa_tasks.proofs.Verdicts.{one_verdict}
use Rattle.phpsa_tasks.proofs.Held.{OneProgram, ProgramLaws, held_reply, held_halt, held_refusal}
use Rattle.phpsa_tasks.proofs.Never.{told_usage, no_reply, no_halt, asks_more}
use Rattle.phpsa_tasks.proofs.Nothing.{of_memory, of_refusal}
use Rattle.phpsa_tasks.proofs.NotRun.{no_finding, cause_told}
use Rattle.phpsa_tasks.proofs.NotMatched.{no_pattern_found, policy_told}

abbrev pub OneTask : Type 0
OneTask = (words : List (List ℕ)) (task other : Task) → AsksFor words task → AsksFor words other → task ≡ other

-- the laws that are used
pub record Laws : Type 0 where
  pub one_task : OneTask
  pub programs : ProgramLaws
  pub apart : (words : List (List ℕ)) (for : Asked) → Asks words for → AsksNothing words → ⊥
  pub canonical : (words : List (List ℕ)) (for : Asked) → IsCanonical words for → Asks words for

-- the reply that is owed, and the refusal, are those of what the words ask for
pub the_reply : OneTask → (call : Call) (status : Exit) (text : List ℕ) → OwesReply call status text → (task : Task) → AsksFor call.words task → Replies call.files task status text
the_reply one call status text owed task asked = subst (λ (t : Task). Replies call.files t status text) (one call.words owed.task task owed.asked asked) owed.replies

pub the_refusal : OneTask → (call : Call) (status : Exit) (text : List ℕ) → OwesRefusal call status text → (task : Task) → AsksFor call.words task
    → Refuses call.files task status text ⊎ (status ≡ Memory)
the_refusal one call status text (of_task own asked refuses) task asked' =
    inl (subst (λ (t : Task). Refuses call.files t status text) (one call.words own task asked asked') refuses)
the_refusal one call status text (wants_memory is text_is) task asked' = inr is

pub the_halt : OneTask → (call : Call) (status : Exit) (printed text : List ℕ) → OwesHalt call status printed text → (task : Task) → AsksFor call.words task
    → Halts call.files task status printed text
the_halt one call status printed text owed task asked =
    subst (λ (t : Task). Halts call.files t status printed text) (one call.words owed.task task owed.asked asked) owed.halts

verdict_of : Laws → (call : Call) (status : Exit) (text : List ℕ) (task : Task) (x : Subject task) → IsUndisturbed call → Holds call.files.content task x → IsWithin call.files.content task x
    → Refuses call.files task status text ⊎ (status ≡ Memory) → IsVerdict call.files.content task x status ⊎ IsStopped call.files.content task x status
verdict_of laws call status text task x u h w (inl refuses) = held_refusal laws.programs call.files task x status text u.files h w refuses
verdict_of laws call status text task x u h w (inr is) = inr (inr is)

answered : Laws → (call : Call) (status : Exit) → Ends call status → (task : Task) (x : Subject task) → AsksFor call.words task → IsUndisturbed call
    → Holds call.files.content task x → IsWithin call.files.content task x → IsVerdict call.files.content task x status ⊎ IsStopped call.files.content task x status
answered laws call status (replied e) task x asked u h w =
    let r : Replies call.files task status e.text = the_reply laws.one_task call status e.text e.owed task asked in
    held_reply laws.programs.one_program laws.programs.stay call.files task x r.subject status e.text h r.found r.says
answered laws call status (refused e) task x asked u h w = verdict_of laws call status e.text task x u h w (the_refusal laws.one_task call status e.text e.owed task asked)
answered laws call status (halted e) task x asked u h w =
    let r : Halts call.files task status e.printed e.text = the_halt laws.one_task call status e.printed e.text e.owed task asked in
    held_halt laws.programs.one_program call.files.content task x r.subject status e.printed e.text h r.found r.says
answered laws call status (by_out is e) task x asked u h w = absurd (u.out e.failed)
answered laws call status (by_err is e) task x asked u h w = absurd (u.err e.failed)
answered laws call status (no_memory is e) task x asked u h w = inr (inr is)

exact_from : OneProgram → (content : Content) (task : Task) (x : Subject task) (status verdict : Exit) → IsWithin content task x → IsVerdict content task x verdict
    → IsVerdict content task x status ⊎ IsStopped content task x status → (status ≡ verdict) ⊎ IsStopped content task x status
exact_from one content task x status verdict w v (inl is) = inl (one_verdict one content task x status verdict w is v)
exact_from one content task x status verdict w v (inr stopped) = inr stopped

-- a task that finds something does not lack it
found_nothing : (content : Content) (task : Task) (x : Subject task) → LacksFile content task → Finds content task x → ⊥
found_nothing content (script_check file d goal limit form choice) x none (found, has) = none x.program found
found_nothing content (page_check file d) x none (found, has) = none x.page found
found_nothing content (script_making n) x lacks found = lacks
found_nothing content (made_check n) x lacks (size, found, has) = lacks size
found_nothing content (script_run file request steps) x (inl none) (found, finds, admitted) = none x.program found
found_nothing content (script_run file request steps) x (inr none) (found, finds, admitted) = none x.request finds
found_nothing content (grammar_making file) x lacks found = lacks x found
found_nothing content (list_check file d goal limit) x none (found, has, good) = none x.list found
found_nothing content (script_match file name) x (inl none) (found, finds) = none x.program found
found_nothing content (script_match file name) x (inr none) (found, finds) = none x.pattern finds
found_nothing content help_telling x lacks found = lacks
found_nothing content version_telling x lacks found = lacks
found_nothing content usage x lacks found = lacks

nothing_of : (call : Call) (status : Exit) (text : List ℕ) (task : Task) → IsUndisturbed call → LacksFile call.files.content task → Refuses call.files task status text ⊎ (status ≡ Memory)
    → Contains (statuses_of_nothing task) status
nothing_of call status text task u lacks (inl refuses) = of_refusal call.files task status text u.files lacks refuses
nothing_of call status text task u lacks (inr is) = of_memory call.files task status lacks is

nothing : Laws → (call : Call) (status : Exit) → Ends call status → (task : Task) → AsksFor call.words task → IsUndisturbed call → LacksFile call.files.content task
    → Contains (statuses_of_nothing task) status
nothing laws call status (replied e) task asked u lacks =
    let r : Replies call.files task status e.text = the_reply laws.one_task call status e.text e.owed task asked in
    absurd (found_nothing call.files.content task r.subject lacks r.found)
nothing laws call status (refused e) task asked u lacks = nothing_of call status e.text task u lacks (the_refusal laws.one_task call status e.text e.owed task asked)
nothing laws call status (halted e) task asked u lacks =
    let r : Halts call.files task status e.printed e.text = the_halt laws.one_task call status e.printed e.text e.owed task asked in
    absurd (found_nothing call.files.content task r.subject lacks r.found)
nothing laws call status (by_out is e) task asked u lacks = absurd (u.out e.failed)
nothing laws call status (by_err is e) task asked u lacks = absurd (u.err e.failed)
nothing laws call status (no_memory is e) task asked u lacks = of_memory call.files task status lacks is

-- a program that is held is not run where the file of its request holds none
not_run_of : Laws → (call : Call) (status : Exit) (text : List ℕ) (file : ScriptFile) (name : List ℕ) (steps : ℕ) (cause : RequestRefusal) → IsUndisturbed call → IsNotRun call file name cause
    → GainsNothing call.out → Gains call.err text → Refuses call.files (script_run file (Some name) steps) status text ⊎ (status ≡ Memory) → TellsCause call cause status ⊎ (status ≡ Memory)
not_run_of laws call status text file name steps cause u n out err (inl why) = cause_told laws.programs call status text file name steps cause u.files n out err why
not_run_of laws call status text file name steps cause u n out err (inr is) = inr is

not_run : Laws → (call : Call) (status : Exit) → Ends call status → (file : ScriptFile) (name : List ℕ) (steps : ℕ) (cause : RequestRefusal) → AsksFor call.words (script_run file (Some name) steps)
    → IsUndisturbed call → IsNotRun call file name cause → TellsCause call cause status ⊎ (status ≡ Memory)
not_run laws call status (replied e) file name steps cause asked u n =
    let r : Replies call.files (script_run file (Some name) steps) status e.text = the_reply laws.one_task call status e.text e.owed (script_run file (Some name) steps) asked in
    absurd (no_finding call.files.content name cause r.subject.request n.none n.input r.found.1)
not_run laws call status (refused e) file name steps cause asked u n =
    not_run_of laws call status e.text file name steps cause u n e.out e.err (the_refusal laws.one_task call status e.text e.owed (script_run file (Some name) steps) asked)
not_run laws call status (halted e) file name steps cause asked u n =
    let r : Halts call.files (script_run file (Some name) steps) status e.printed e.text =
    the_halt laws.one_task call status e.printed e.text e.owed (script_run file (Some name) steps) asked in
    absurd (no_finding call.files.content name cause r.subject.request n.none n.input r.found.1)
not_run laws call status (by_out is e) file name steps cause asked u n = absurd (u.out e.failed)
not_run laws call status (by_err is e) file name steps cause asked u n = absurd (u.err e.failed)
not_run laws call status (no_memory is e) file name steps cause asked u n = inr is

-- nor is a program matched that is held, where the file of the pattern spells none
not_matched_of : Laws → (call : Call) (status : Exit) (text : List ℕ) (file : ScriptFile) (name : List ℕ) → IsUndisturbed call → (n : IsNotMatched call file name)
    → GainsNothing call.out → Gains call.err text → Refuses call.files (script_match file name) status text ⊎ (status ≡ Memory) → TellsPolicy call n.none.bytes status ⊎ (status ≡ Memory)
not_matched_of laws call status text file name u n out err (inl why) = policy_told laws.programs call status text file name u.files n out err why
not_matched_of laws call status text file name u n out err (inr is) = inr is

not_matched : Laws → (call : Call) (status : Exit) → Ends call status → (file : ScriptFile) (name : List ℕ) → AsksFor call.words (script_match file name)
    → IsUndisturbed call → (n : IsNotMatched call file name) → TellsPolicy call n.none.bytes status ⊎ (status ≡ Memory)
not_matched laws call status (replied e) file name asked u n =
    let r : Replies call.files (script_match file name) status e.text = the_reply laws.one_task call status e.text e.owed (script_match file name) asked in
    absurd (no_pattern_found call.files.content name r.subject.pattern n.none r.found.1)
not_matched laws call status (refused e) file name asked u n =
    not_matched_of laws call status e.text file name u n e.out e.err (the_refusal laws.one_task call status e.text e.owed (script_match file name) asked)
not_matched laws call status (halted e) file name asked u n =
    let r : Halts call.files (script_match file name) status e.printed e.text = the_halt laws.one_task call status e.printed e.text e.owed (script_match file name) asked in
    absurd r.says
not_matched laws call status (by_out is e) file name asked u n = absurd (u.out e.failed)
not_matched laws call status (by_err is e) file name asked u n = absurd (u.err e.failed)
not_matched laws call status (no_memory is e) file name asked u n = inr is

-- words that ask for nothing
abbrev TellsUsage : Exit → Type 0
TellsUsage status = Contains (Usage ∷ WriteFault ∷ Memory ∷ []) status

usage_of : (call : Call) (status : Exit) (text : List ℕ) → Refuses call.files usage status text ⊎ (status ≡ Memory) → TellsUsage status
usage_of call status text (inl (is, text_is)) = subst TellsUsage (sym is) (0, lit< tt, refl)
usage_of call status text (inr is) = subst TellsUsage (sym is) (2, lit< tt, refl)

without : Laws → (call : Call) (status : Exit) → Ends call status → AsksNothing call.words → TellsUsage status
without laws call status (replied e) none =
    let r : Replies call.files usage status e.text = the_reply laws.one_task call status e.text e.owed usage (asks_nothing none refl) in absurd r.says
without laws call status (refused e) none = usage_of call status e.text (the_refusal laws.one_task call status e.text e.owed usage (asks_nothing none refl))
without laws call status (halted e) none =
    let r : Halts call.files usage status e.printed e.text = the_halt laws.one_task call status e.printed e.text e.owed usage (asks_nothing none refl) in absurd r.says
without laws call status (by_out is e) none = subst TellsUsage (sym is) (1, lit< tt, refl)
without laws call status (by_err is e) none = subst TellsUsage (sym is) (1, lit< tt, refl)
without laws call status (no_memory is e) none = subst TellsUsage (sym is) (2, lit< tt, refl)

-- words that ask for something are not told the usage
taken_of : (call : Call) (status : Exit) (text : List ℕ) (for : Asked) → Refuses call.files (task_of for) status text ⊎ (status ≡ Memory) → status ≡ Usage → ⊥
taken_of call status text for (inl refuses) is = asks_more for (sym (told_usage call.files (task_of for) status text refuses is))
taken_of call status text for (inr wants) is = let same : Memory ≡ Usage = sym wants ∙ is in cc

taken : Laws → (call : Call) (status : Exit) → Ends call status → (for : Asked) → Asks call.words for → status ≡ Usage → ⊥
taken laws call status (replied e) for asked is =
    let r : Replies call.files (task_of for) status e.text = the_reply laws.one_task call status e.text e.owed (task_of for) (asks for asked refl) in
    no_reply call.files (task_of for) r.subject status e.text r.says is
taken laws call status (refused e) for asked is = taken_of call status e.text for (the_refusal laws.one_task call status e.text e.owed (task_of for) (asks for asked refl)) is
taken laws call status (halted e) for asked is =
    let r : Halts call.files (task_of for) status e.printed e.text = the_halt laws.one_task call status e.printed e.text e.owed (task_of for) (asks for asked refl) in
    no_halt (task_of for) r.subject status e.printed e.text r.says is
taken laws call status (by_out fault e) for asked is = let same : WriteFault ≡ Usage = sym fault ∙ is in cc
taken laws call status (by_err fault e) for asked is = let same : WriteFault ≡ Usage = sym fault ∙ is in cc
taken laws call status (no_memory wants e) for asked is = let same : Memory ≡ Usage = sym wants ∙ is in cc

pub answers : Laws → (call : Call) (status : Exit) → Ends call status → IsAnswered call status
answers laws call status e = record {
  answered = answered laws call status e;
  exact = λ task x verdict asked u h w v. exact_from laws.programs.one_program call.files.content task x status verdict w v (answered laws call status e task x asked u h w);
  nothing = nothing laws call status e;
  not_run = not_run laws call status e;
  not_matched = not_matched laws call status e;
  refused = without laws call status e;
  taken = λ for canonical. taken laws call status e for (laws.canonical call.words for canonical);
}
