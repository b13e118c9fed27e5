-- What the parts of the command find makes what doing the task comes to.
use Rattle.std.proofs.Common.{◌≡◌, ◌∙◌, ◌+◌, ℕ, List, [], length, Contains, Option, None, Some, inl, inr, refl, sym, subst, lit<}
use Rattle.std.specs.Prelude.{◌⊎◌, Ok, Err}
use Rattle.io_edge.specs.Names.{normal}
use Rattle.io_edge.specs.Told.{Content, Stays}
use Rattle.io_edge.proofs.Staying.{tells_stay}
use Rattle.php_syntax.specs.Trees.{PlainFunction}
use Rattle.script_meaning.specs.Programs.{PlainProgram}
use Rattle.program_rules.specs.Files.{Held, HasTree}
use Rattle.program_rules.specs.Programs.{ReadFile}
use Rattle.program_files.specs.Order.{Reached}
use Rattle.program_files.specs.Source.{SourceCall, source_call, so_many_more}
use Rattle.program_files.specs.Stubs.{HasStubs, stub_reads, IsStubFileCause}
use Rattle.program_files.specs.declared.refusal.ScriptRefusal.{ScriptRefusal}
use Rattle.program_files.specs.declared.refusal.LoadRefusal.{LoadRefusal}
use Rattle.program_files.specs.declared.refusal.LoadRefusal.TheVariants as load
use Rattle.program_loader.specs.Causes.{Loads, LacksStubs, IsLoadCause}
use Rattle.program_loader.specs.Told.{AreAnswered}
use Rattle.dtd_model.specs.Table.{Table}
use Rattle.document_types.specs.DocumentTypes.{NamedType, HasTable, IsBuiltIn, IsDefinitionRefusal}
use Rattle.document_types.specs.declared.refusal.DefinitionRefusal.{DefinitionRefusal}
use Rattle.page_decision.specs.declared.goal.Goal.{Goal}
use Rattle.script_decision.specs.declared.shown.ShownAnswer.{ShownAnswer}
use Rattle.phpsa_texts.specs.declared.exit.Exit.TheVariants.{ReadFault}
use Rattle.phpsa_texts.specs.declared.message.Message.{Message}
use Rattle.phpsa_texts.specs.declared.answers.AnswerForm.{AnswerForm}
use Rattle.phpsa_texts.specs.declared.message.Refusal.{Refusal}
use Rattle.phpsa_texts.specs.Statuses.{load_status, definition_status}
use Rattle.phpsa_texts.specs.Texts.{Says, IsTold, load_text, definition_text}
use Rattle.phpsa_tasks.specs.declared.reply.Reply.TheVariants as reply
use Rattle.phpsa_tasks.specs.Tasks.{ScriptFile, root_of, script_check}
use Rattle.phpsa_tasks.specs.Subjects.{IsLoadedInside}
use Rattle.phpsa_tasks.specs.ScriptAnswers.{answer_status, answer_text}
use Rattle.phpsa_tasks.specs.Causes.{definition_call, RefusesScript, not_defined, large_models, not_loaded, lacks_definition, has_long_text}
use Rattle.phpsa_tasks.specs.Counted.{uncounted, AsksForNames, ReadsItsFiles, MissesItsNames, from_misses}
use Rattle.phpsa_tasks.specs.declared.choice.PageChoice.{PageChoice}
use Rattle.phpsa_tasks.specs.Results.{TaskResult, Does}
use Rattle.phpsa_tasks.proofs.Faults.{told_faults, wanted_faults}
use Rattle.phpsa_tasks.proofs.Defining.{definition_faults}
use Rattle.phpsa_tasks.proofs.Loading.{at_stubs}
use Rattle.phpsa_main.specs.Decided.{Decision, IsDecidedAs, IsReadBy, ReadsBy, Decides, IsProgramRefused, IsProgramDecided, IsShortestDecided, HasShortestReply}

pub load_uncounted : (cause : LoadRefusal) → Contains uncounted (load_status cause)
load_uncounted (load.Missing name) = (1, lit< tt, refl)
load_uncounted (load.Outside name) = (0, lit< tt, refl)
load_uncounted (load.ReadFault name) = (2, lit< tt, refl)
load_uncounted (load.TooLong name len) = (3, lit< tt, refl)
load_uncounted (load.Script name fault) = (0, lit< tt, refl)
load_uncounted (load.IncludeCycle name) = (0, lit< tt, refl)
load_uncounted (load.DoubleFunction name) = (0, lit< tt, refl)
load_uncounted (load.UnknownFunction name) = (0, lit< tt, refl)
load_uncounted (load.Arity name) = (0, lit< tt, refl)
load_uncounted (load.TooMany count) = (3, lit< tt, refl)
load_uncounted load.Memory = (5, lit< tt, refl)

-- a refusal of the stubs, but for a fault of the source
calm_missing : (call : SourceCall) (name path : List ℕ) → IsStubFileCause call name (load.Missing path) → call.faults' ≡ call.faults
calm_missing call name path (is, none, counted, rises, same) = same

calm_long : (call : SourceCall) (name path : List ℕ) (len : ℕ) → IsStubFileCause call name (load.TooLong path len) → call.faults' ≡ call.faults
calm_long call name path len (is, counted, over, least, same, unmissed) = same

calm_script : (call : SourceCall) (name path : List ℕ) (fault : ScriptRefusal) → IsStubFileCause call name (load.Script path fault) → call.faults' ≡ call.faults
calm_script call name path fault (is, counted, broken, same, unmissed) = same

-- behind files that were all read
behind_files : (call : SourceCall) (root name : List ℕ) (stubs : Option (List ℕ)) (cause : LoadRefusal) → ((other : SourceCall) (own : List ℕ) → IsStubFileCause other own cause → other.faults' ≡ other.faults)
    → LacksStubs call root name stubs cause → call.faults' ≡ call.faults
behind_files call root name stubs cause calm why =
    at_stubs (call.faults' ≡ call.faults) call root name stubs cause why
    (λ own r. calm (source_call call.content r.faults call.faults' r.misses call.misses' r.reads call.reads') own r.cause ∙ r.source.unfailed)

pub load_faults : (call : SourceCall) (root name : List ℕ) (stubs : Option (List ℕ)) (cause : LoadRefusal) → IsLoadCause call root name stubs cause → (load_status cause ≡ ReadFault) ⊎ (call.faults' ≡ call.faults)
load_faults call root name stubs (load.Missing path) (inl (named, (missing, same))) = inr same
load_faults call root name stubs (load.Missing path) (inr why) = inr (behind_files call root name stubs (load.Missing path) (λ other own is. calm_missing other own path is) why)
load_faults call root name stubs (load.Outside path) (written, (leads, same)) = inr same
load_faults call root name stubs (load.ReadFault path) why = inl refl
load_faults call root name stubs (load.TooLong path len) (inl (named, (stops, over, least, same, others))) = inr same
load_faults call root name stubs (load.TooLong path len) (inr why) = inr (behind_files call root name stubs (load.TooLong path len) (λ other own is. calm_long other own path len is) why)
load_faults call root name stubs (load.Script path fault) (inl (named, (stops, broken, same, others))) = inr same
load_faults call root name stubs (load.Script path fault) (inr why) = inr (behind_files call root name stubs (load.Script path fault) (λ other own is. calm_script other own path fault is) why)
load_faults call root name stubs (load.IncludeCycle path) why = inr why.source.unfailed
load_faults call root name stubs (load.DoubleFunction function) why = inr why.source.unfailed
load_faults call root name stubs (load.UnknownFunction function) why = inr why.source.unfailed
load_faults call root name stubs (load.Arity function) why = inr why.source.unfailed
load_faults call root name stubs (load.TooMany count) (inl (is, many, same)) = inr same
load_faults call root name stubs (load.TooMany count) (inr large) = inr large.source.unfailed
load_faults call root name stubs load.Memory (missed, same) = inr same

-- the program is not loaded
pub load_refused : (files : SourceCall) (file : ScriptFile) (d : NamedType) (cause : LoadRefusal) (refusal : Refusal) → IsLoadCause files (root_of file) file.name file.stubs cause
    → IsTold refusal (load_status cause) (load_text cause) → ReadsBy files file d (Err refusal)
load_refused files file d cause (Refusal.Told message) why (status_is, text_is) = record {
  why = not_loaded cause why status_is text_is;
  read = λ built_in. inl (subst (Contains uncounted) (sym status_is) (load_uncounted cause));
  faults = told_faults files (load_status cause) message.status status_is (load_faults files (root_of file) file.name file.stubs cause why);
}
load_refused files file d cause Refusal.Memory why says = tt

-- there is no definition
pub definition_refused : (files : SourceCall) (file : ScriptFile) (d : NamedType) (cause : DefinitionRefusal) (refusal : Refusal)
    (program : PlainProgram) (misses : ℕ) → IsLoadedInside files.content file program → MissesItsNames files file.name misses
    → IsDefinitionRefusal (definition_call (from_misses misses files)) d cause → (IsBuiltIn d → ReadsItsFiles files file) → IsTold refusal (definition_status cause) (definition_text cause) → ReadsBy files file d (Err refusal)
definition_refused files file d cause (Refusal.Told message) program misses loaded behind why read (status_is, text_is) = record {
  why = lacks_definition program misses loaded behind (not_defined cause why status_is text_is);
  read = λ built_in. inr (read built_in);
  faults = told_faults files (definition_status cause) message.status status_is (definition_faults (definition_call (from_misses misses files)) d cause why);
}
definition_refused files file d cause Refusal.Memory program misses loaded behind why read says = tt

program_refused : (files : SourceCall) (file : ScriptFile) (d : NamedType) (table : Table) (program : PlainProgram) (misses : ℕ) (message : Message) → HasTable files.content d table
    → IsLoadedInside files.content file program → MissesItsNames files file.name misses → IsProgramRefused table program file.name message → RefusesScript files file d message.status message.text
program_refused files file d table program misses message has loaded behind (inl (long, (status_is, text_is))) = has_long_text program loaded long status_is text_is
program_refused files file d table program misses message has loaded behind (inr (count, many, (status_is, text_is))) =
    lacks_definition program misses loaded behind (large_models table count has many status_is text_is)

-- the program is decided, or not
pub program_decides : (files : SourceCall) (file : ScriptFile) (d : NamedType) (goal : Goal) (limit : ℕ) (table : Table) (program : PlainProgram) (decision : Decision)
    → IsReadBy files file d program table → IsProgramDecided table program file.name goal limit decision → Decides files file d goal limit decision
program_decides files file d goal limit table program (Ok answer) by is =
    record { program = program; table = table; loaded = by.loaded; has = by.has; is_answer = is; read = by.read; calm = by.calm }
program_decides files file d goal limit table program (Err (Refusal.Told message)) by says = record {
  why = program_refused files file d table program by.misses message by.has by.loaded by.behind says;
  read = λ built_in. inr (by.read built_in);
  faults = inr by.calm;
}
program_decides files file d goal limit table program (Err Refusal.Memory) by says = tt

-- or was not read
pub unread_decides : (files : SourceCall) (file : ScriptFile) (d : NamedType) (goal : Goal) (limit : ℕ) (refusal : Refusal) → ReadsBy files file d (Err refusal)
    → Decides files file d goal limit (Err refusal)
unread_decides files file d goal limit (Refusal.Told message) is = is
unread_decides files file d goal limit Refusal.Memory is = tt

-- what was answered goes on to be so
pub answers_stay : (before now : Content) (held : Held) (name : List ℕ) → Stays before now → AreAnswered before held name → AreAnswered now held name
answers_stay before now held name stays answered path asks = tells_stay before now path (held.bytes path) stays (answered path asks)

stubs_stay : (before now : Content) (stubs : Option (List ℕ)) (functions : List PlainFunction) → Stays before now → HasStubs before stubs functions → HasStubs now stubs functions
stubs_stay before now None functions stays has = has
stubs_stay before now (Some name) functions stays has =
    record { bytes = has.bytes; tree = has.tree; told = tells_stay before now (normal name) (Some has.bytes) stays has.told; is_stub = has.is_stub; are = has.are }

-- what was loaded in its root goes on to be so
pub loaded_inside : (call : SourceCall) (content : Content) (file : ScriptFile) (p : PlainProgram) → Stays call.content content → Loads call (root_of file) file.name file.stubs p → IsLoadedInside content file p
loaded_inside call content file p stays l = record {
  loaded = record {
    held = l.source.held;
    main = l.source.main;
    answered = answers_stay call.content content l.source.held file.name stays l.source.answered;
    functions = l.source.functions;
    has_stubs = stubs_stay call.content content file.stubs l.source.functions stays l.source.has_stubs;
    is_program = record {
      is_program = l.is_program;
      in_order = subst (λ (fs : List ReadFile). Reached (HasTree l.source.held) (normal file.name) fs []) (sym l.its_files) l.source.in_order;
    };
  };
  inside = l.source.inside;
}

-- what was loaded asks for these names
abbrev pub asked_names : (call : SourceCall) (content : Content) (root name : List ℕ) (stubs : Option (List ℕ)) (p : PlainProgram) → Stays call.content content → Loads call root name stubs p → AsksForNames content name
asked_names call content root name stubs p stays l = record {
  held = l.source.held;
  main = l.source.main;
  answered = answers_stay call.content content l.source.held name stays l.source.answered;
  own = l.source.files;
  read = l.source.read;
  missed = l.source.missed;
  are_missed = l.source.are_missed;
}

-- they are all that was asked for
pub reads_its_files : (call : SourceCall) (content : Content) (faults misses reads : ℕ) (root : List ℕ) (file : ScriptFile) (p : PlainProgram) → Stays call.content content
    → Loads call root file.name file.stubs p → reads ≡ call.reads' → ReadsItsFiles (source_call content call.faults faults call.misses misses call.reads reads) file
reads_its_files call content faults misses reads root file p stays l same = record {
  asks = asked_names call content root file.name file.stubs p stays l;
  counted = subst (λ (n : ℕ). n ≡ so_many_more (length l.source.files + length l.source.missed + stub_reads file.stubs) call.reads) (sym same) l.source.counted;
}

-- and those that are not there all that was missed
pub misses_its_names : (call : SourceCall) (content : Content) (faults misses reads : ℕ) (root name : List ℕ) (stubs : Option (List ℕ)) (p : PlainProgram) → Stays call.content content → Loads call root name stubs p
    → MissesItsNames (source_call content call.faults faults call.misses misses call.reads reads) name call.misses'
misses_its_names call content faults misses reads root name stubs p stays l = record { asks = asked_names call content root name stubs p stays l; counted = l.source.misses }

-- no memory was left
pub wanting_does : (files : SourceCall) (file : ScriptFile) (d : NamedType) (goal : Goal) (limit : ℕ) (form : AnswerForm) (choice : PageChoice)
    → Does files (script_check file d goal limit form choice) (Err Refusal.Memory)
wanting_does files file d goal limit form choice = record { due = tt; read = λ built_in. inl (5, lit< tt, refl); faults = wanted_faults files }

-- there is an answer
pub answered_does : (files : SourceCall) (file : ScriptFile) (d : NamedType) (goal : Goal) (limit : ℕ) (form : AnswerForm) (answer : ShownAnswer) (message : Message)
    → IsDecidedAs files file d goal limit answer → Says message (answer_status answer) (answer_text form answer)
    → Does files (script_check file d goal limit form PageChoice.First) (Ok (reply.Text message))
answered_does files file d goal limit form answer message is (status_is, text_is) = record {
  due = record {
    subject = record { program = is.program; table = is.table };
    found = (is.loaded, is.has);
    says = (answer, is.is_answer, status_is, text_is);
  };
  read = λ built_in. inr (is.read built_in);
  faults = inr is.calm;
}

-- and there is none
pub refused_does : (files : SourceCall) (file : ScriptFile) (d : NamedType) (goal : Goal) (limit : ℕ) (form : AnswerForm) (refusal : Refusal)
    → Decides files file d goal limit (Err refusal) → Does files (script_check file d goal limit form PageChoice.First) (Err refusal)
refused_does files file d goal limit form (Refusal.Told message) is = record { due = is.why; read = is.read; faults = is.faults }
refused_does files file d goal limit form Refusal.Memory is = wanting_does files file d goal limit form PageChoice.First

-- the program is decided with a shortest page, or not
pub shortest_does : (files : SourceCall) (file : ScriptFile) (d : NamedType) (goal : Goal) (limit : ℕ) (form : AnswerForm) (table : Table) (program : PlainProgram) (result : TaskResult)
    → IsReadBy files file d program table → HasShortestReply table program file.name goal limit form result → Does files (script_check file d goal limit form PageChoice.Shortest) result
shortest_does files file d goal limit form table program (Ok (reply.Text message)) by (answer, is, (status_is, text_is)) = record {
  due = record {
    subject = record { program = program; table = table };
    found = (by.loaded, by.has);
    says = (answer, is, status_is, text_is);
  };
  read = λ built_in. inr (by.read built_in);
  faults = inr by.calm;
}
shortest_does files file d goal limit form table program (Ok (reply.Grammar grammar)) by says = absurd says
shortest_does files file d goal limit form table program (Ok (reply.Halted printed message)) by says = absurd says
shortest_does files file d goal limit form table program (Err (Refusal.Told message)) by says = record {
  due = program_refused files file d table program by.misses message by.has by.loaded by.behind says;
  read = λ built_in. inr (by.read built_in);
  faults = inr by.calm;
}
shortest_does files file d goal limit form table program (Err Refusal.Memory) by says = wanting_does files file d goal limit form PageChoice.Shortest

-- or was not read
pub unread_does : (files : SourceCall) (file : ScriptFile) (d : NamedType) (goal : Goal) (limit : ℕ) (form : AnswerForm) (refusal : Refusal) → ReadsBy files file d (Err refusal)
    → Does files (script_check file d goal limit form PageChoice.Shortest) (Err refusal)
unread_does files file d goal limit form (Refusal.Told message) is = record { due = is.why; read = is.read; faults = is.faults }
unread_does files file d goal limit form Refusal.Memory is = wanting_does files file d goal limit form PageChoice.Shortest

-- the program has no answer
pub refused_shortest : (table : Table) (program : PlainProgram) (name : List ℕ) (goal : Goal) (limit : ℕ) (form : AnswerForm) (refusal : Refusal)
    → IsShortestDecided table program name goal limit (Err refusal) → HasShortestReply table program name goal limit form (Err refusal)
refused_shortest table program name goal limit form (Refusal.Told message) says = says
refused_shortest table program name goal limit form Refusal.Memory says = tt
