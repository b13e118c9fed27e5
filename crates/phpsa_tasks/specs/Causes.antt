-- Why a task is refused: a status, and a text on `err`.
use Rattle.std.specs.Prelude.{◌≡◌, ◌⊎◌, ℕ, List, Option, Some}
use Rattle.io_edge.specs.Reasons.{HasReason}
use Rattle.io_edge.specs.Told.{Tells}
use Rattle.io_edge.specs.declared.files.FileFault.{FileFault}
use Rattle.script_meaning.specs.Programs.{PlainProgram}
use Rattle.program_files.specs.Source.{SourceCall, source_call}
use Rattle.program_files.specs.declared.refusal.LoadRefusal.{LoadRefusal}
use Rattle.program_loader.specs.Causes.{IsLoadCause}
use Rattle.dtd_model.specs.Table.{Table}
use Rattle.page_policy.specs.Patterns.{Pattern}
use Rattle.dtd_reader.specs.Source as definition
use Rattle.document_types.specs.DocumentTypes.{NamedType, strict_type, HasTable, IsDefinitionRefusal}
use Rattle.document_types.specs.declared.refusal.DefinitionRefusal.{DefinitionRefusal}
use Rattle.program_lowering.specs.Short.{HasLongText}
use Rattle.script_decision.specs.Decision.{HasLargeModels}
use Rattle.script_maker.specs.Made.{IsSize}
use Rattle.site_check.specs.declared.list_refusal.ListRefusal.{ListRefusal}
use Rattle.site_check.specs.Listed.{IsList, IsNoList}
use Rattle.phpsa_texts.specs.declared.exit.Exit.{Exit}
use Rattle.phpsa_texts.specs.declared.exit.Exit.TheVariants.{Usage, Dtd, Input}
use Rattle.phpsa_texts.specs.Statuses.{load_status, file_status, definition_status, list_status}
use Rattle.phpsa_texts.specs.Texts.{load_text, file_text, definition_text, states_text, long_text, size_text, list_text, usage_text}
use Rattle.phpsa_tasks.specs.Tasks.{ScriptFile, root_of, Task, script_check, page_check, script_making, made_check, script_run, grammar_making, list_check, script_match, help_telling, version_telling, usage}
use Rattle.phpsa_tasks.specs.Subjects.{made_file, only_made, IsLoadedInside}
use Rattle.phpsa_tasks.specs.Requests.{RefusesRequest}
use Rattle.phpsa_tasks.specs.Policies.{FindsPattern, RefusesPattern}
use Rattle.phpsa_tasks.specs.Counted.{MissesItsNames, from_misses, ReadsForRun}

-- a source of files as the reader of definitions sees it
abbrev pub definition_call : SourceCall → definition.SourceCall
definition_call files = definition.source_call files.content files.faults files.faults' files.misses files.misses'

-- the document type has no definition, or the content models of its definition pass a limit
pub data RefusesDefinition (files : SourceCall) (document_type : NamedType) (status : Exit) (text : List ℕ) : Type 0 where
  not_defined : (cause : DefinitionRefusal) → IsDefinitionRefusal (definition_call files) document_type cause
      → status ≡ definition_status cause → text ≡ definition_text cause → RefusesDefinition files document_type status text
  large_models : (table : Table) (count : ℕ) → HasTable files.content document_type table → HasLargeModels table count
      → status ≡ Dtd → text ≡ states_text count → RefusesDefinition files document_type status text

-- the program is not loaded; or it is, and there is no definition for it, or a text in it is over the limit of a run
pub data RefusesScript (files : SourceCall) (file : ScriptFile) (document_type : NamedType) (status : Exit) (text : List ℕ) : Type 0 where
  not_loaded : (cause : LoadRefusal) → IsLoadCause files (root_of file) file.name file.stubs cause → status ≡ load_status cause → text ≡ load_text cause
      → RefusesScript files file document_type status text
  lacks_definition : (program : PlainProgram) (misses : ℕ) → IsLoadedInside files.content file program → MissesItsNames files file.name misses
      → RefusesDefinition (from_misses misses files) document_type status text
      → RefusesScript files file document_type status text
  has_long_text : (program : PlainProgram) → IsLoadedInside files.content file program → HasLongText program
      → status ≡ Input → text ≡ long_text file.name → RefusesScript files file document_type status text

-- the page is not read; or it is, and there is no definition for it
pub data RefusesPage (files : SourceCall) (file : List ℕ) (document_type : NamedType) (status : Exit) (text : List ℕ) : Type 0 where
  not_read : (fault : FileFault) → HasReason (files.content file) files.faults files.faults' files.misses files.misses' fault
      → status ≡ file_status fault → text ≡ file_text fault file → RefusesPage files file document_type status text
  page_lacks_definition : (page : List ℕ) → Tells (files.content file) (Some page) → RefusesDefinition files document_type status text
      → RefusesPage files file document_type status text

-- a script cannot have so many functions, or the generated one is refused as the one file of a source that does not fail
pub data RefusesMade (functions : ℕ) (status : Exit) (text : List ℕ) : Type 0 where
  no_size : (IsSize functions → ⊥) → status ≡ Input → text ≡ size_text functions → RefusesMade functions status text
  made_refused : IsSize functions → (misses reads : ℕ)
      → RefusesScript (source_call (only_made functions) 0 0 0 misses 0 reads) made_file strict_type status text
      → RefusesMade functions status text

-- the program of a file is not loaded
abbrev pub RefusesProgram : SourceCall → ScriptFile → Exit → List ℕ → Type 0
RefusesProgram files file status text =
    (cause : LoadRefusal) × IsLoadCause files (root_of file) file.name file.stubs cause × (status ≡ load_status cause) × (text ≡ load_text cause)

-- the program is loaded, and there is no request for it; each name that the program asks for was asked for once, with that of its stubs,
-- and then that of the request, behind the misses of the program
abbrev pub LacksRequest : SourceCall → ScriptFile → Option (List ℕ) → Exit → List ℕ → Type 0
LacksRequest files file request status text =
    (program : PlainProgram) × IsLoadedInside files.content file program
    × ((misses : ℕ) × MissesItsNames files file.name misses × RefusesRequest (from_misses misses files) request status text)
    × ReadsForRun files file request

-- the program is loaded, and there is no pattern for it; each name that the program asks for was asked for once, with that of its stubs,
-- and then that of the pattern, behind the misses of the program
abbrev pub LacksPattern : SourceCall → ScriptFile → List ℕ → Exit → List ℕ → Type 0
LacksPattern files file policy status text =
    (program : PlainProgram) × IsLoadedInside files.content file program
    × ((misses : ℕ) × MissesItsNames files file.name misses × RefusesPattern (from_misses misses files) policy status text)
    × ReadsForRun files file (Some policy)

-- a text in the program of a file is over the limit of a run
abbrev pub RefusesLongText : SourceCall → ScriptFile → Exit → List ℕ → Type 0
RefusesLongText files file status text =
    (program : PlainProgram) × IsLoadedInside files.content file program × HasLongText program × (status ≡ Input) × (text ≡ long_text file.name)

-- the list is not read, or its text is none; or it is, and there is no definition for its scripts
pub data RefusesList (files : SourceCall) (name : List ℕ) (document_type : NamedType) (status : Exit) (text : List ℕ) : Type 0 where
  list_unread : (fault : FileFault) → HasReason (files.content name) files.faults files.faults' files.misses files.misses' fault
      → status ≡ file_status fault → text ≡ file_text fault name → RefusesList files name document_type status text
  no_list : (list : List ℕ) (refusal : ListRefusal) → Tells (files.content name) (Some list) → IsNoList list refusal
      → status ≡ list_status refusal → text ≡ list_text refusal → RefusesList files name document_type status text
  list_lacks_definition : (list : List ℕ) (cause : DefinitionRefusal) → Tells (files.content name) (Some list) → IsList list
      → IsDefinitionRefusal (definition_call files) document_type cause → status ≡ definition_status cause → text ≡ definition_text cause
      → RefusesList files name document_type status text

-- a pattern is found, and behind it a text in the program is over the limit of a run
pub record HasLongTextBehind (files : SourceCall) (file : ScriptFile) (policy : List ℕ) (status : Exit) (text : List ℕ) : Type 0 where
  pub pattern : Pattern
  pub finds : FindsPattern files.content policy pattern
  pub refuses : RefusesLongText files file status text

-- why each task is refused; want of memory may come at any place beside. Of what stands in the line that says what is wrong with words
-- nothing is said here.
abbrev pub Refuses : SourceCall → Task → Exit → List ℕ → Type 0
Refuses files (script_check file document_type goal limit form choice) status text = RefusesScript files file document_type status text
Refuses files (page_check file document_type) status text = RefusesPage files file document_type status text
Refuses files (script_making functions) status text = (IsSize functions → ⊥) × (status ≡ Input) × (text ≡ size_text functions)
Refuses files (made_check functions) status text = RefusesMade functions status text
Refuses files (script_run file request steps) status text =
    RefusesProgram files file status text ⊎ LacksRequest files file request status text
Refuses files (grammar_making file) status text = RefusesProgram files file status text ⊎ RefusesLongText files file status text
Refuses files (list_check file document_type goal limit) status text = RefusesList files file.name document_type status text
Refuses files (script_match file policy) status text =
    RefusesProgram files file status text ⊎ (LacksPattern files file policy status text ⊎ HasLongTextBehind files file policy status text)
Refuses files help_telling status text = ⊥
Refuses files version_telling status text = ⊥
Refuses files usage status text = (status ≡ Usage) × ((reason : Option (List ℕ)) × (text ≡ usage_text reason))
