-- What the parts of the command find makes the lines of a list, and what doing the task comes to.
use Rattle.std.proofs.Common.{◌≡◌, ◌∙◌, ℕ, zero, suc, true, false, List, [], ◌∷◌, length, Contains, Option, Some, inl, inr, refl, sym, subst, arith}
use Rattle.std.specs.Prelude.{◌⊎◌, nat_eq, Ok, Err}
use Rattle.io_edge.specs.Counts.{Rises}
use Rattle.io_edge.specs.Told.{Content, Tells}
use Rattle.io_edge.specs.Reasons.{HasReason}
use Rattle.io_edge.specs.declared.files.FileFault.{FileFault}
use Rattle.script_meaning.specs.Programs.{PlainProgram}
use Rattle.program_files.specs.Source.{SourceCall, source_call, RisesBy}
use Rattle.program_files.specs.Stubs.{IsStubFileCause}
use Rattle.program_files.specs.Causes.{IsMissing, HasTooMany}
use Rattle.program_files.specs.declared.refusal.LoadRefusal.{LoadRefusal}
use Rattle.program_files.specs.declared.refusal.LoadRefusal.TheVariants as load
use Rattle.program_loader.specs.Causes.{HasFiles, RefusesStubs, LacksStubs, IsLoadCause}
use Rattle.dtd_model.specs.Table.{Table}
use Rattle.document_types.specs.DocumentTypes.{NamedType, HasTable, IsDefinitionRefusal}
use Rattle.document_types.specs.declared.refusal.DefinitionRefusal.{DefinitionRefusal}
use Rattle.page_decision.specs.declared.goal.Goal.{Goal}
use Rattle.script_decision.specs.declared.shown.ShownAnswer.{ShownAnswer}
use Rattle.site_check.specs.declared.line.Line.{Line}
use Rattle.site_check.specs.declared.line.TheConstants.{MISSING_STATUS, FAULT_STATUS}
use Rattle.site_check.specs.declared.list_refusal.ListRefusal.{ListRefusal}
use Rattle.site_check.specs.Site.{moment, Grows, Leads, is_refused_by, IsAnswered}
use Rattle.site_check.specs.Listed.{names_in, IsList, IsNoList}
use Rattle.phpsa_texts.specs.declared.exit.Exit.{Exit}
use Rattle.phpsa_texts.specs.declared.exit.Exit.TheVariants as exit
use Rattle.phpsa_texts.specs.declared.message.Refusal.{Refusal}
use Rattle.phpsa_texts.specs.Statuses.{status_of, load_status, file_status, definition_status, list_status}
use Rattle.phpsa_texts.specs.Texts.{IsTold, load_text, file_text, definition_text, list_text}
use Rattle.phpsa_tasks.specs.Tasks.{ScriptFile, listed, root_of, list_check}
use Rattle.phpsa_tasks.specs.Subjects.{IsLoadedInside}
use Rattle.phpsa_tasks.specs.Causes.{definition_call, list_unread, no_list, list_lacks_definition}
use Rattle.phpsa_tasks.specs.Sites.{line_of, IsLineFor, tells_answer, tells_refusal}
use Rattle.phpsa_tasks.specs.Counted.{FaultsAreTold, MissesItsNames}
use Rattle.phpsa_tasks.specs.declared.reply.Reply.TheVariants as reply
use Rattle.phpsa_tasks.specs.Results.{TaskResult, Does}
use Rattle.phpsa_tasks.proofs.Faults.{told_faults, wanted_faults}
use Rattle.phpsa_tasks.proofs.Defining.{definition_faults}
use Rattle.phpsa_tasks.proofs.Loading.{at_stubs, fault_rises}
use Rattle.phpsa_tasks.proofs.ListLemmas.{list_faults}
use Rattle.phpsa_main.specs.Decided.{Decision, DecidesBy, IsProgramDecided}
use Rattle.phpsa_main.specs.Reported.{IsRefusedLine, HasReport}
use Rattle.phpsa_main.proofs.ScriptParts.{load_faults}

-- where a count grew and rises then, it rose
rises_behind : (x y z : ℕ) → Grows x y → Rises y z → Rises x z
rises_behind x y z (inl same) rises = omega (arith, same, rises)
rises_behind x y z (inr rises) more = omega (arith, rises, more)

-- misses that rise one behind another are counted
rises_by : (n before now : ℕ) → RisesBy n before now → Grows before now
unfolding RisesBy
rises_by zero before now same = inl same
rises_by (suc n) before now (between, first, last) = inr (rises_behind before between now (rises_by n before between first) last)

pub names_grow : (missed : List (List ℕ)) (before now : ℕ) → RisesBy (length missed) before now → Grows before now
names_grow missed before now by = rises_by (length missed) before now by

some_rise : (missed : List (List ℕ)) (path : List ℕ) (before now : ℕ) → Contains missed path → RisesBy (length missed) before now → Rises before now
unfolding RisesBy
some_rise [] path before now (i, less, is) by = absurd (omega (arith, less))
some_rise (m ∷ ms) path before now among (between, first, last) = rises_behind before between now (rises_by (length ms) before between first) last

-- the file of the program is missing, or an include is
missing_rises : (call : SourceCall) (root name written : List ℕ) → IsMissing call root name written → Rises call.misses call.misses'
missing_rises call root name written (inl (is, told, counted, rises)) = rises
missing_rises call root name written (inr (n, inside, first, second)) = some_rise n.missed n.next call.misses call.misses' second n.misses

-- what the cause of a refusal says of the counts
missing_stubs : (call : SourceCall) (name path : List ℕ) → IsStubFileCause call name (load.Missing path) → Rises call.misses call.misses'
missing_stubs call name path (is, none, counted, rises, same) = rises

stubs_missing : (call : SourceCall) (root name own path : List ℕ) → RefusesStubs call root name own (load.Missing path) → Rises call.misses call.misses'
stubs_missing call root name own path r =
    rises_behind call.misses r.misses call.misses' (names_grow r.source.missed call.misses r.misses r.source.misses)
    (missing_stubs (source_call call.content r.faults call.faults' r.misses call.misses' r.reads call.reads') own path r.cause)

load_missing : (call : SourceCall) (root name : List ℕ) (stubs : Option (List ℕ)) (path : List ℕ) → IsLoadCause call root name stubs (load.Missing path) → Rises call.misses call.misses'
load_missing call root name stubs path (inl (named, (missing, same))) = missing_rises call root name path missing
load_missing call root name stubs path (inr why) =
    at_stubs (Rises call.misses call.misses') call root name stubs (load.Missing path) why (λ own r. stubs_missing call root name own path r)

cause_missing : (call : SourceCall) (root name : List ℕ) (stubs : Option (List ℕ)) (cause : LoadRefusal) → IsLoadCause call root name stubs cause → load_status cause ≡ exit.Missing → Rises call.misses call.misses'
cause_missing call root name stubs (load.Missing path) why e = load_missing call root name stubs path why
cause_missing call root name stubs (load.Outside path) why e = absurd (let at : exit.Script ≡ exit.Missing = e in cc)
cause_missing call root name stubs (load.ReadFault path) why e = absurd (let at : exit.ReadFault ≡ exit.Missing = e in cc)
cause_missing call root name stubs (load.TooLong path len) why e = absurd (let at : exit.Input ≡ exit.Missing = e in cc)
cause_missing call root name stubs (load.Script path fault) why e = absurd (let at : exit.Script ≡ exit.Missing = e in cc)
cause_missing call root name stubs (load.IncludeCycle path) why e = absurd (let at : exit.Script ≡ exit.Missing = e in cc)
cause_missing call root name stubs (load.DoubleFunction function) why e = absurd (let at : exit.Script ≡ exit.Missing = e in cc)
cause_missing call root name stubs (load.UnknownFunction function) why e = absurd (let at : exit.Script ≡ exit.Missing = e in cc)
cause_missing call root name stubs (load.Arity function) why e = absurd (let at : exit.Script ≡ exit.Missing = e in cc)
cause_missing call root name stubs (load.TooMany count) why e = absurd (let at : exit.Input ≡ exit.Missing = e in cc)
cause_missing call root name stubs load.Memory why e = absurd (let at : exit.Memory ≡ exit.Missing = e in cc)

cause_failed : (call : SourceCall) (root name : List ℕ) (stubs : Option (List ℕ)) (cause : LoadRefusal) → IsLoadCause call root name stubs cause → load_status cause ≡ exit.ReadFault → Rises call.faults call.faults'
cause_failed call root name stubs (load.Missing path) why e = absurd (let at : exit.Missing ≡ exit.ReadFault = e in cc)
cause_failed call root name stubs (load.Outside path) why e = absurd (let at : exit.Script ≡ exit.ReadFault = e in cc)
cause_failed call root name stubs (load.ReadFault path) why e = fault_rises call root name stubs path why
cause_failed call root name stubs (load.TooLong path len) why e = absurd (let at : exit.Input ≡ exit.ReadFault = e in cc)
cause_failed call root name stubs (load.Script path fault) why e = absurd (let at : exit.Script ≡ exit.ReadFault = e in cc)
cause_failed call root name stubs (load.IncludeCycle path) why e = absurd (let at : exit.Script ≡ exit.ReadFault = e in cc)
cause_failed call root name stubs (load.DoubleFunction function) why e = absurd (let at : exit.Script ≡ exit.ReadFault = e in cc)
cause_failed call root name stubs (load.UnknownFunction function) why e = absurd (let at : exit.Script ≡ exit.ReadFault = e in cc)
cause_failed call root name stubs (load.Arity function) why e = absurd (let at : exit.Script ≡ exit.ReadFault = e in cc)
cause_failed call root name stubs (load.TooMany count) why e = absurd (let at : exit.Input ≡ exit.ReadFault = e in cc)
cause_failed call root name stubs load.Memory why e = absurd (let at : exit.Memory ≡ exit.ReadFault = e in cc)

-- files that were read, and names that were missed
source_grows : (call : SourceCall) (root name : List ℕ) (stubs : Option (List ℕ)) → HasFiles call root name stubs → Grows call.faults call.faults' × Grows call.misses call.misses'
source_grows call root name stubs h = (inl h.unfailed, names_grow h.missed call.misses call.misses' h.misses)

many_grow : (call : SourceCall) (name : List ℕ) → HasTooMany call name → Grows call.misses call.misses'
many_grow call name (inl (path, stops, size, told, by)) = names_grow stops.missed call.misses call.misses' by
many_grow call name (inr (h, size, counted)) = names_grow h.missed call.misses call.misses' h.misses

-- a count that grew and grows then
grows_behind : (x y z : ℕ) → Grows x y → Grows y z → Grows x z
grows_behind x y z grows (inl same) = subst (Grows x) (sym same) grows
grows_behind x y z grows (inr rises) = inr (rises_behind x y z grows rises)

-- stubs that were refused, by what each count of them says
abbrev BothGrow : SourceCall → Type 0
BothGrow call = Grows call.faults call.faults' × Grows call.misses call.misses'

stubs_grow : (call : SourceCall) (name : List ℕ) (cause : LoadRefusal) → IsStubFileCause call name cause → BothGrow call
stubs_grow call name (load.Missing path) (is, none, counted, rises, same) = (inl same, inr rises)
stubs_grow call name (load.Outside path) why = absurd why
stubs_grow call name (load.ReadFault path) (is, counted, rises, unmissed) = (inr rises, inl unmissed)
stubs_grow call name (load.TooLong path len) (is, counted, over, least, same, unmissed) = (inl same, inl unmissed)
stubs_grow call name (load.Script path fault) (is, counted, broken, same, unmissed) = (inl same, inl unmissed)
stubs_grow call name (load.IncludeCycle path) why = absurd why
stubs_grow call name (load.DoubleFunction function) why = absurd why
stubs_grow call name (load.UnknownFunction function) why = absurd why
stubs_grow call name (load.Arity function) why = absurd why
stubs_grow call name (load.TooMany count) why = absurd why
stubs_grow call name load.Memory (same, unmissed) = (inl same, inl unmissed)

refused_grow : (call : SourceCall) (root name own : List ℕ) (cause : LoadRefusal) → RefusesStubs call root name own cause → BothGrow call
refused_grow call root name own cause r =
    let more = stubs_grow (source_call call.content r.faults call.faults' r.misses call.misses' r.reads call.reads') own cause r.cause in (
      grows_behind call.faults r.faults call.faults' (inl r.source.unfailed) more.0,
      grows_behind call.misses r.misses call.misses' (names_grow r.source.missed call.misses r.misses r.source.misses) more.1,
    )

lacking_grow : (call : SourceCall) (root name : List ℕ) (stubs : Option (List ℕ)) (cause : LoadRefusal) → LacksStubs call root name stubs cause → BothGrow call
lacking_grow call root name stubs cause why = at_stubs (BothGrow call) call root name stubs cause why (λ own r. refused_grow call root name own cause r)

pub cause_grows : (call : SourceCall) (root name : List ℕ) (stubs : Option (List ℕ)) (cause : LoadRefusal) → IsLoadCause call root name stubs cause → Grows call.faults call.faults' × Grows call.misses call.misses'
cause_grows call root name stubs (load.Missing path) (inl (named, (missing, same))) = (inl same, inr (missing_rises call root name path missing))
cause_grows call root name stubs (load.Missing path) (inr why) = lacking_grow call root name stubs (load.Missing path) why
cause_grows call root name stubs (load.Outside path) (written, ((n, leads), same)) = (inl same, names_grow n.missed call.misses call.misses' n.misses)
cause_grows call root name stubs (load.ReadFault path) (inl (named, (stops, rises, by))) = (inr rises, names_grow stops.missed call.misses call.misses' by)
cause_grows call root name stubs (load.ReadFault path) (inr why) = lacking_grow call root name stubs (load.ReadFault path) why
cause_grows call root name stubs (load.TooLong path len) (inl (named, (stops, over, least, same, by))) = (inl same, names_grow stops.missed call.misses call.misses' by)
cause_grows call root name stubs (load.TooLong path len) (inr why) = lacking_grow call root name stubs (load.TooLong path len) why
cause_grows call root name stubs (load.Script path fault) (inl (named, (stops, broken, same, by))) = (inl same, names_grow stops.missed call.misses call.misses' by)
cause_grows call root name stubs (load.Script path fault) (inr why) = lacking_grow call root name stubs (load.Script path fault) why
cause_grows call root name stubs (load.IncludeCycle path) why = source_grows call root name stubs why.source
cause_grows call root name stubs (load.DoubleFunction function) why = source_grows call root name stubs why.source
cause_grows call root name stubs (load.UnknownFunction function) why = source_grows call root name stubs why.source
cause_grows call root name stubs (load.Arity function) why = source_grows call root name stubs why.source
cause_grows call root name stubs (load.TooMany count) (inl (is, many, same)) = (inl same, many_grow call name many)
cause_grows call root name stubs (load.TooMany count) (inr large) = source_grows call root name stubs large.source
cause_grows call root name stubs load.Memory (missed, same) = (inl same, names_grow missed.missed call.misses call.misses' missed.misses)

-- a fault is counted for its own status alone
calm_of : (before now : ℕ) (own status : Exit) → status ≡ own → (own ≡ exit.ReadFault) ⊎ (now ≡ before) → (status ≡ exit.ReadFault → ⊥) → now ≡ before
calm_of before now own status is (inl fault) other = absurd (other (is ∙ fault))
calm_of before now own status is (inr same) other = same

-- the program is not loaded
pub unloaded_by : (files : SourceCall) (file : ScriptFile) (table : Table) (goal : Goal) (limit : ℕ) (cause : LoadRefusal) (refusal : Refusal) → IsLoadCause files (root_of file) file.name file.stubs cause
    → IsTold refusal (load_status cause) (load_text cause) → DecidesBy files file table goal limit (Err refusal)
unloaded_by files file table goal limit cause (Refusal.Told message) why (status_is, text_is) = (
  inl (cause, why, status_is, text_is),
  (λ e. cause_missing files (root_of file) file.name file.stubs cause why (sym status_is ∙ e)),
  (λ e. cause_failed files (root_of file) file.name file.stubs cause why (sym status_is ∙ e)),
  (λ other. calm_of files.faults files.faults' (load_status cause) message.status status_is (load_faults files (root_of file) file.name file.stubs cause why) other),
)
unloaded_by files file table goal limit cause Refusal.Memory why says = tt

-- the program is decided, or not
pub decided_by : (files : SourceCall) (file : ScriptFile) (table : Table) (goal : Goal) (limit : ℕ) (program : PlainProgram) (decision : Decision) → IsLoadedInside files.content file program
    → MissesItsNames files file.name files.misses' → files.faults' ≡ files.faults → IsProgramDecided table program file.name goal limit decision → DecidesBy files file table goal limit decision
decided_by files file table goal limit program (Ok answer) loaded behind calm is = (program, loaded, is, calm)
decided_by files file table goal limit program (Err (Refusal.Told message)) loaded behind calm (inl (long, (status_is, text_is))) = (
  inr (inl (program, loaded, long, status_is, text_is)),
  (λ e. absurd (let at : exit.Input ≡ exit.Missing = sym status_is ∙ e in cc)),
  (λ e. absurd (let at : exit.Input ≡ exit.ReadFault = sym status_is ∙ e in cc)),
  (λ other. calm),
)
decided_by files file table goal limit program (Err (Refusal.Told message)) loaded behind calm (inr (count, many, (status_is, text_is))) = (
  inr (inr (program, loaded, behind, (count, many, status_is, text_is))),
  (λ e. absurd (let at : exit.Dtd ≡ exit.Missing = sym status_is ∙ e in cc)),
  (λ e. absurd (let at : exit.Dtd ≡ exit.ReadFault = sym status_is ∙ e in cc)),
  (λ other. calm),
)
decided_by files file table goal limit program (Err Refusal.Memory) loaded behind calm is = tt

-- a script that is answered is refused by no status
answer_is_none : (status : ℕ) (answer : ShownAnswer) → is_refused_by status (line_of answer) ≡ true → ⊥
answer_is_none status ShownAnswer.Yes e = let at : false ≡ true = e in cc
answer_is_none status (ShownAnswer.No shown) e = let at : false ≡ true = e in cc
answer_is_none status (ShownAnswer.Pairs count height) e = let at : false ≡ true = e in cc
answer_is_none status (ShownAnswer.Tags count height) e = let at : false ≡ true = e in cc
answer_is_none status (ShownAnswer.Items count) e = let at : false ≡ true = e in cc

-- statuses by their numbers
is_missing : (status : Exit) → nat_eq (status_of status) MISSING_STATUS ≡ true → status ≡ exit.Missing
is_missing exit.Missing e = refl
is_missing _ e = absurd (let at : false ≡ true = e in cc)

is_fault : (status : Exit) → nat_eq (status_of status) FAULT_STATUS ≡ true → status ≡ exit.ReadFault
is_fault exit.ReadFault e = refl
is_fault _ e = absurd (let at : false ≡ true = e in cc)

no_fault : (status : Exit) → nat_eq (status_of status) FAULT_STATUS ≡ false → status ≡ exit.ReadFault → ⊥
no_fault status e is = let at : true ≡ false = subst (λ (s : Exit). nat_eq (status_of s) FAULT_STATUS ≡ false) is e in cc

-- the line of an answer, and that of a refusal
pub line_answers : (files : SourceCall) (before : Content) (list : ScriptFile) (name : List ℕ) (table : Table) (goal : Goal) (limit : ℕ) (answer : ShownAnswer) (line : Line)
    → Leads (moment before files.faults files.misses) (moment files.content files.faults' files.misses') → DecidesBy files (listed list name) table goal limit (Ok answer) → line ≡ line_of answer
    → IsAnswered (λ content other l. IsLineFor table goal limit content (listed list other) l) (moment before files.faults files.misses) (moment files.content files.faults' files.misses') name line
line_answers files before list name table goal limit answer line leads (program, loaded, is, calm) same = record {
  leads = leads;
  may = tells_answer program answer loaded is same;
  missing = λ e. absurd (answer_is_none MISSING_STATUS answer (subst (λ (l : Line). is_refused_by MISSING_STATUS l ≡ true) same e));
  failed = λ e. absurd (answer_is_none FAULT_STATUS answer (subst (λ (l : Line). is_refused_by FAULT_STATUS l ≡ true) same e));
  calm = λ e. calm;
}

pub line_refuses : (files : SourceCall) (before : Content) (list : ScriptFile) (name : List ℕ) (table : Table) (goal : Goal) (limit : ℕ) (refusal : Refusal) (line : Line)
    → Leads (moment before files.faults files.misses) (moment files.content files.faults' files.misses') → DecidesBy files (listed list name) table goal limit (Err refusal) → IsRefusedLine refusal line
    → IsAnswered (λ content other l. IsLineFor table goal limit content (listed list other) l) (moment before files.faults files.misses) (moment files.content files.faults' files.misses') name line
line_refuses files before list name table goal limit (Refusal.Told message) line leads (why, missing, failed, calm) (same, told) = record {
  leads = leads;
  may = tells_refusal files message.status message.text refl why told same;
  missing = λ e. missing (is_missing message.status (subst (λ (l : Line). is_refused_by MISSING_STATUS l ≡ true) same e));
  failed = λ e. failed (is_fault message.status (subst (λ (l : Line). is_refused_by FAULT_STATUS l ≡ true) same e));
  calm = λ e. calm (no_fault message.status (subst (λ (l : Line). is_refused_by FAULT_STATUS l ≡ false) same e));
}
line_refuses files before list name table goal limit Refusal.Memory line leads decides none = absurd none

-- no memory was left
wanting_list : (files : SourceCall) (file : ScriptFile) (d : NamedType) (goal : Goal) (limit : ℕ) → Does files (list_check file d goal limit) (Err Refusal.Memory)
wanting_list files file d goal limit = record { due = tt; read = tt; faults = inr (wanted_faults files) }

-- the list is not read, or its text is none
pub unread_list : (files : SourceCall) (file : ScriptFile) (d : NamedType) (goal : Goal) (limit : ℕ) (fault : FileFault) (refusal : Refusal)
    → HasReason (files.content file.name) files.faults files.faults' files.misses files.misses' fault → (file_status fault ≡ exit.ReadFault) ⊎ (files.faults' ≡ files.faults)
    → IsTold refusal (file_status fault) (file_text fault file.name) → Does files (list_check file d goal limit) (Err refusal)
unread_list files file d goal limit fault (Refusal.Told message) why faults (status_is, text_is) = record {
  due = list_unread fault why status_is text_is;
  read = tt;
  faults = inr (told_faults files (file_status fault) message.status status_is faults);
}
unread_list files file d goal limit fault Refusal.Memory why faults says = wanting_list files file d goal limit

pub refused_list : (files : SourceCall) (file : ScriptFile) (d : NamedType) (goal : Goal) (limit : ℕ) (list : List ℕ) (cause : ListRefusal) (refusal : Refusal) → Tells (files.content file.name) (Some list)
    → IsNoList list cause → files.faults' ≡ files.faults → IsTold refusal (list_status cause) (list_text cause) → Does files (list_check file d goal limit) (Err refusal)
refused_list files file d goal limit list cause (Refusal.Told message) told why calm (status_is, text_is) =
    record { due = no_list list cause told why status_is text_is; read = tt; faults = inr (inr calm) }
refused_list files file d goal limit list cause Refusal.Memory told why calm says = wanting_list files file d goal limit

-- there is no definition
pub undefined_list : (files : SourceCall) (file : ScriptFile) (d : NamedType) (goal : Goal) (limit : ℕ) (list : List ℕ) (cause : DefinitionRefusal) (refusal : Refusal)
    → Tells (files.content file.name) (Some list) → IsList list → IsDefinitionRefusal (definition_call files) d cause → IsTold refusal (definition_status cause) (definition_text cause)
    → Does files (list_check file d goal limit) (Err refusal)
undefined_list files file d goal limit list cause (Refusal.Told message) told is why (status_is, text_is) = record {
  due = list_lacks_definition list cause told is why status_is text_is;
  read = tt;
  faults = inr (told_faults files (definition_status cause) message.status status_is (definition_faults (definition_call files) d cause why));
}
undefined_list files file d goal limit list cause Refusal.Memory told is why says = wanting_list files file d goal limit

-- the report is made
report_does : (files : SourceCall) (file : ScriptFile) (d : NamedType) (goal : Goal) (limit : ℕ) (before : Content) (list : List ℕ) (table : Table) (result : TaskResult)
    → Tells (files.content file.name) (Some list) → HasTable files.content d table → IsList list
    → HasReport file table goal limit (moment before files.faults files.misses) (moment files.content files.faults' files.misses') (names_in list) result
    → Does files (list_check file d goal limit) result
report_does files file d goal limit before list table (Ok (reply.Text message)) told has is (lines, are, (status_is, text_is)) = record {
  due = record {
    subject = record { list = list; table = table };
    found = (told, has, is);
    says = (lines, (before, are), status_is, text_is);
  };
  read = tt;
  faults = subst (FaultsAreTold (list_check file d goal limit) files) (sym status_is)
      (list_faults files file d goal limit (record { list = list; table = table }) lines (before, are));
}
report_does files file d goal limit before list table (Ok (reply.Grammar grammar)) told has is says = absurd says
report_does files file d goal limit before list table (Ok (reply.Halted printed message)) told has is says = absurd says
report_does files file d goal limit before list table (Err (Refusal.Told message)) told has is says = absurd says
report_does files file d goal limit before list table (Err Refusal.Memory) told has is says = wanting_list files file d goal limit

-- behind a definition whose reading counted nothing
pub reported_list : (files : SourceCall) (file : ScriptFile) (d : NamedType) (goal : Goal) (limit : ℕ) (before : Content) (faults misses : ℕ) (list : List ℕ) (table : Table) (names : List (List ℕ))
    (result : TaskResult) → Tells (files.content file.name) (Some list) → HasTable files.content d table → IsList list → names ≡ names_in list → faults ≡ files.faults → misses ≡ files.misses
    → HasReport file table goal limit (moment before faults misses) (moment files.content files.faults' files.misses') names result
    → Does files (list_check file d goal limit) result
reported_list files file d goal limit before faults misses list table names result told has is named calm still report =
    let now = moment files.content files.faults' files.misses' in
    let own : HasReport file table goal limit (moment before faults misses) now (names_in list) result =
    subst (λ (ns : List (List ℕ)). HasReport file table goal limit (moment before faults misses) now ns result) named report in
    report_does files file d goal limit before list table result told has is
    (subst (λ (n : ℕ). HasReport file table goal limit (moment before files.faults n) now (names_in list) result) still
    (subst (λ (n : ℕ). HasReport file table goal limit (moment before n misses) now (names_in list) result) calm own))
