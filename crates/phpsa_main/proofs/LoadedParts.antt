-- What the parts of the commands find that ask for a program alone makes what doing the task comes to.
use Rattle.std.proofs.Common.{◌≡◌, ◌∙◌, ℕ, List, Contains, Option, None, Some, inl, inr, refl, sym, subst, lit<}
use Rattle.std.specs.Prelude.{◌⊎◌, Result, Ok, Err}
use Rattle.io_edge.specs.Counts.{one_more}
use Rattle.io_edge.specs.Told.{Content, Tells, Stays}
use Rattle.io_edge.proofs.Staying.{stays_same}
use Rattle.io_edge.specs.Reasons.{HasReason}
use Rattle.io_edge.specs.declared.files.FileFault.{FileFault}
use Rattle.io_edge.specs.declared.files.FileFault.TheVariants as reading
use Rattle.script_meaning.specs.Programs.{PlainProgram}
use Rattle.script_meaning.specs.Requests.{PlainRequest, Admitted}
use Rattle.program_files.specs.Source.{SourceCall, source_call}
use Rattle.program_files.specs.declared.refusal.LoadRefusal.{LoadRefusal}
use Rattle.program_loader.specs.Causes.{Loads, IsLoadCause}
use Rattle.request_reading.specs.Outcome.{outcome}
use Rattle.request_reading.specs.Causes.{IsCause}
use Rattle.request_reading.specs.declared.refusal.RequestRefusal.{RequestRefusal}
use Rattle.request_reading.specs.declared.refusal.RequestRefusal.TheVariants as asking
use Rattle.phpsa_texts.specs.declared.exit.Exit.{Exit}
use Rattle.phpsa_texts.specs.declared.exit.Exit.TheVariants.{ReadFault}
use Rattle.phpsa_texts.specs.declared.message.Refusal.{Refusal}
use Rattle.phpsa_texts.specs.Statuses.{load_status, file_status, request_status}
use Rattle.phpsa_texts.specs.Texts.{IsTold, load_text, file_text, request_text}
use Rattle.phpsa_tasks.specs.declared.reply.Reply.{Reply}
use Rattle.phpsa_tasks.specs.declared.reply.Reply.TheVariants as reply
use Rattle.phpsa_tasks.specs.Tasks.{ScriptFile, root_of, script_run, grammar_making}
use Rattle.phpsa_tasks.specs.Subjects.{IsLoadedInside}
use Rattle.phpsa_tasks.specs.Requests.{unread, no_request_in, RefusesRequest}
use Rattle.phpsa_tasks.specs.Counted.{uncounted, ReadsItsFiles, MissesItsNames, from_misses, ReadsForRun}
use Rattle.phpsa_tasks.specs.Results.{TaskResult, Does}
use Rattle.phpsa_tasks.proofs.Faults.{told_faults, wanted_faults}
use Rattle.phpsa_main.specs.Loaded.{ReadsRequest, HasRequest, IsReplyOfRun, HasGrammarReply}
use Rattle.phpsa_main.proofs.ScriptParts.{load_uncounted, load_faults, asked_names}

-- what was loaded read its files
own_files : (files : SourceCall) (root : List ℕ) (file : ScriptFile) (program : PlainProgram) → Loads files root file.name file.stubs program → ReadsItsFiles files file
own_files files root file program l =
    record { asks = asked_names files files.content root file.name file.stubs program (stays_same files.content files.content refl) l; counted = l.source.counted }

-- no memory was left
pub wanting_grammar : (files : SourceCall) (file : ScriptFile) → Does files (grammar_making file) (Err Refusal.Memory)
wanting_grammar files file = record { due = tt; read = inl (5, lit< tt, refl); faults = wanted_faults files }

pub wanting_run : (files : SourceCall) (file : ScriptFile) (request : Option (List ℕ)) (steps : ℕ) → Does files (script_run file request steps) (Err Refusal.Memory)
wanting_run files file request steps = record { due = tt; read = inl (5, lit< tt, refl); faults = wanted_faults files }

-- the program is not loaded
pub unloaded_grammar : (files : SourceCall) (file : ScriptFile) (cause : LoadRefusal) (refusal : Refusal) → IsLoadCause files (root_of file) file.name file.stubs cause
    → IsTold refusal (load_status cause) (load_text cause) → Does files (grammar_making file) (Err refusal)
unloaded_grammar files file cause (Refusal.Told message) why (status_is, text_is) = record {
  due = inl (cause, why, status_is, text_is);
  read = inl (subst (Contains uncounted) (sym status_is) (load_uncounted cause));
  faults = told_faults files (load_status cause) message.status status_is (load_faults files (root_of file) file.name file.stubs cause why);
}
unloaded_grammar files file cause Refusal.Memory why says = wanting_grammar files file

pub unloaded_run : (files : SourceCall) (file : ScriptFile) (request : Option (List ℕ)) (steps : ℕ) (cause : LoadRefusal) (refusal : Refusal) → IsLoadCause files (root_of file) file.name file.stubs cause
    → IsTold refusal (load_status cause) (load_text cause) → Does files (script_run file request steps) (Err refusal)
unloaded_run files file request steps cause (Refusal.Told message) why (status_is, text_is) = record {
  due = inl (cause, why, status_is, text_is);
  read = inl (subst (Contains uncounted) (sym status_is) (load_uncounted cause));
  faults = told_faults files (load_status cause) message.status status_is (load_faults files (root_of file) file.name file.stubs cause why);
}
unloaded_run files file request steps cause Refusal.Memory why says = wanting_run files file request steps

-- the grammar of the program is made, or not
pub grammar_does : (files : SourceCall) (file : ScriptFile) (program : PlainProgram) (result : TaskResult) → Loads files (root_of file) file.name file.stubs program → IsLoadedInside files.content file program
    → HasGrammarReply program file.name result → Does files (grammar_making file) result
grammar_does files file program (Ok (reply.Text message)) l loaded says = record {
  due = record { subject = program; found = loaded; says = says };
  read = inr (own_files files (root_of file) file program l);
  faults = inr l.source.unfailed;
}
grammar_does files file program (Ok (reply.Grammar grammar)) l loaded says = record {
  due = record { subject = program; found = loaded; says = inl ((grammar.productions.items, grammar.start, says, refl), refl) };
  read = inr (own_files files (root_of file) file program l);
  faults = inr l.source.unfailed;
}
grammar_does files file program (Ok (reply.Halted printed message)) l loaded says = absurd says
grammar_does files file program (Err (Refusal.Told message)) l loaded (long, (status_is, text_is)) = record {
  due = inr (program, loaded, long, status_is, text_is);
  read = inr (own_files files (root_of file) file program l);
  faults = inr l.source.unfailed;
}
grammar_does files file program (Err Refusal.Memory) l loaded says = wanting_grammar files file

-- the file of a request is not read
file_among : (fault : FileFault) → Contains uncounted (file_status fault)
file_among reading.Missing = (1, lit< tt, refl)
file_among reading.Failed = (2, lit< tt, refl)
file_among (reading.TooLong len) = (3, lit< tt, refl)
file_among reading.Memory = (5, lit< tt, refl)

asking_among : (refusal : RequestRefusal) → Contains uncounted (request_status refusal)
asking_among asking.NotJson = (3, lit< tt, refl)
asking_among asking.NotRequest = (3, lit< tt, refl)
asking_among (asking.NotAdmitted path) = (3, lit< tt, refl)
asking_among asking.Memory = (5, lit< tt, refl)

pub file_unread : (files : SourceCall) (name : List ℕ) (fault : FileFault) (refusal : Refusal)
    → HasReason (files.content name) files.faults files.faults' files.misses files.misses' fault → files.reads' ≡ one_more files.reads
    → (file_status fault ≡ ReadFault) ⊎ (files.faults' ≡ files.faults) → IsTold refusal (file_status fault) (file_text fault name) → HasRequest files (Some name) (Err refusal)
file_unread files name fault (Refusal.Told message) why counted faults (status_is, text_is) =
    (unread fault why status_is text_is, counted, subst (Contains uncounted) (sym status_is) (file_among fault), told_faults files (file_status fault) message.status status_is faults)
file_unread files name fault Refusal.Memory why counted faults says = tt

-- or holds none
pub file_refused : (files : SourceCall) (name bytes : List ℕ) (cause : RequestRefusal) (refusal : Refusal) → Tells (files.content name) (Some bytes) → IsCause cause (outcome bytes)
    → files.reads' ≡ one_more files.reads → files.faults' ≡ files.faults → IsTold refusal (request_status cause) (request_text cause) → HasRequest files (Some name) (Err refusal)
file_refused files name bytes cause (Refusal.Told message) told why counted calm (status_is, text_is) =
    (no_request_in bytes cause told why status_is text_is, counted, subst (Contains uncounted) (sym status_is) (asking_among cause), inr calm)
file_refused files name bytes cause Refusal.Memory told why counted calm says = tt

-- the count of faults is as it was before the program was loaded
pub moved : (files : SourceCall) (faults misses reads : ℕ) (request : Option (List ℕ)) (found : Result PlainRequest Refusal)
    → faults ≡ files.faults → HasRequest (source_call files.content faults files.faults' misses files.misses' reads files.reads') request found
    → HasRequest (source_call files.content files.faults files.faults' misses files.misses' reads files.reads') request found
moved files faults misses reads request found b has =
    subst (λ (k : ℕ). HasRequest (source_call files.content k files.faults' misses files.misses' reads files.reads') request found) b has

-- why there is no request says nothing of how often names were asked for
refuses : (files : SourceCall) (misses reads : ℕ) (request : Option (List ℕ)) (status : Exit) (text : List ℕ)
    → RefusesRequest (source_call files.content files.faults files.faults' misses files.misses' reads files.reads') request status text
    → RefusesRequest (from_misses misses files) request status text
refuses files misses reads None status text why = why
refuses files misses reads (Some name) status text (unread fault why status_is text_is) = unread fault why status_is text_is
refuses files misses reads (Some name) status text (no_request_in bytes cause told why status_is text_is) = no_request_in bytes cause told why status_is text_is

-- the names of the program, which were answered before the request was read, and that of the request
pub run_reads : (files : SourceCall) (root : List ℕ) (file : ScriptFile) (request : Option (List ℕ)) (program : PlainProgram) (content : Content) (faults misses reads : ℕ)
    → Stays content files.content → Loads (source_call content files.faults faults files.misses misses files.reads reads) root file.name file.stubs program
    → ReadsRequest (source_call files.content files.faults files.faults' misses files.misses' reads files.reads') request → ReadsForRun files file request
run_reads files root file None program content faults misses reads stays l counted = record {
  asks = asked_names (source_call content files.faults faults files.misses misses files.reads reads) files.content root file.name file.stubs program stays l;
  counted = counted ∙ l.source.counted;
}
run_reads files root file (Some asked) program content faults misses reads stays l counted = (
  reads,
  record {
    asks = asked_names (source_call content files.faults faults files.misses misses files.reads reads) files.content root file.name file.stubs program stays l;
    counted = l.source.counted;
  },
  counted,
)

-- the misses of the program come before the request is read
pub run_misses : (files : SourceCall) (root name : List ℕ) (stubs : Option (List ℕ)) (program : PlainProgram) (content : Content) (faults misses reads : ℕ)
    → Stays content files.content → Loads (source_call content files.faults faults files.misses misses files.reads reads) root name stubs program → MissesItsNames files name misses
run_misses files root name stubs program content faults misses reads stays l = record {
  asks = asked_names (source_call content files.faults faults files.misses misses files.reads reads) files.content root name stubs program stays l;
  counted = l.source.misses;
}

-- there is no request
pub lacks_request : (files : SourceCall) (file : ScriptFile) (request : Option (List ℕ)) (steps : ℕ) (content : Content) (faults misses reads : ℕ) (program : PlainProgram) (refusal : Refusal)
    → Stays content files.content → Loads (source_call content files.faults faults files.misses misses files.reads reads) (root_of file) file.name file.stubs program → IsLoadedInside files.content file program
    → HasRequest (source_call files.content files.faults files.faults' misses files.misses' reads files.reads') request (Err refusal)
    → Does files (script_run file request steps) (Err refusal)
lacks_request files file request steps content faults misses reads program (Refusal.Told message) stays l loaded (why, counted, among, told) = record {
  due = inr (
    program,
    loaded,
    (misses, run_misses files (root_of file) file.name file.stubs program content faults misses reads stays l, refuses files misses reads request message.status message.text why),
    run_reads files (root_of file) file request program content faults misses reads stays l counted,
  );
  read = inl among;
  faults = told;
}
lacks_request files file request steps content faults misses reads program Refusal.Memory stays l loaded has = wanting_run files file request steps

-- the program was run
pub run_does : (files : SourceCall) (file : ScriptFile) (request : Option (List ℕ)) (steps : ℕ) (content : Content) (faults misses reads : ℕ) (program : PlainProgram) (asked : PlainRequest) (own : Reply)
    → Stays content files.content → Loads (source_call content files.faults faults files.misses misses files.reads reads) (root_of file) file.name file.stubs program → IsLoadedInside files.content file program
    → HasRequest (source_call files.content files.faults files.faults' misses files.misses' reads files.reads') request (Ok asked) → Admitted asked
    → IsReplyOfRun program asked steps own → Does files (script_run file request steps) (Ok own)
run_does files file request steps content faults misses reads program asked (reply.Text message) stays l loaded (finds, counted, calm) admitted (ended, (status_is, text_is)) = record {
  due = record {
    subject = record { program = program; request = asked };
    found = (loaded, finds, admitted);
    says = (ended, status_is, text_is);
  };
  read = inr (run_reads files (root_of file) file request program content faults misses reads stays l counted);
  faults = inr calm;
}
run_does files file request steps content faults misses reads program asked (reply.Grammar grammar) stays l loaded has admitted says = absurd says
run_does files file request steps content faults misses reads program asked (reply.Halted printed message) stays l loaded (finds, counted, calm) admitted (early, (status_is, text_is), printed_is) =
    record {
      due = record {
        subject = record { program = program; request = asked };
        found = (loaded, finds, admitted);
        says = (early, status_is, printed_is, text_is);
      };
      read = inr (run_reads files (root_of file) file request program content faults misses reads stays l counted);
      faults = inr calm;
    }
