-- What deciding the script of a file comes to.
use Rattle.std.specs.Prelude.{◌≡◌, ◌⊎◌, ℕ, List, Contains, Result, Ok, Err, ⊤}
use Rattle.io_edge.specs.Counts.{Rises}
use Rattle.script_meaning.specs.Programs.{PlainProgram}
use Rattle.program_rules.specs.View.{program_of}
use Rattle.dtd_model.specs.Table.{Table}
use Rattle.dtd_model.specs.TableOf.{table_of}
use Rattle.page_decision.specs.declared.goal.Goal.{Goal}
use Rattle.program_files.specs.Source.{SourceCall}
use Rattle.program_lowering.specs.Short.{HasLongText}
use Rattle.document_types.specs.DocumentTypes.{NamedType, HasTable, IsBuiltIn}
use Rattle.script_decision.specs.Decision.{HasLargeModels}
use Rattle.script_decision.specs.declared.shown.ShownAnswer.{ShownAnswer}
use Rattle.script_decision.specs.declared.shortest_answer.ShortestAnswer.{ShortestAnswer}
use Rattle.phpsa_texts.specs.declared.exit.Exit.TheVariants.{Missing, ReadFault, Dtd, Input}
use Rattle.phpsa_texts.specs.declared.answers.AnswerForm.{AnswerForm}
use Rattle.phpsa_texts.specs.declared.message.Message.{Message}
use Rattle.phpsa_texts.specs.declared.message.Refusal.{Refusal}
use Rattle.phpsa_texts.specs.Texts.{Says, long_text, states_text}
use Rattle.phpsa_tasks.specs.Tasks.{ScriptFile}
use Rattle.phpsa_tasks.specs.Subjects.{IsLoadedInside}
use Rattle.phpsa_tasks.specs.ScriptAnswers.{IsAnswer, IsShortest, shortest_status, shortest_text}
use Rattle.phpsa_tasks.specs.declared.reply.Reply.TheVariants as reply
use Rattle.phpsa_tasks.specs.Results.{TaskResult}
use Rattle.phpsa_tasks.specs.Causes.{RefusesScript}
use Rattle.phpsa_tasks.specs.Sites.{RefusesByTable}
use Rattle.phpsa_tasks.specs.Counted.{uncounted, ReadsItsFiles, MissesItsNames, TellsFaults}
use Rattle.phpsa_main.specs.declared.script_by.ScriptBy.{ScriptBy}

-- an answer, a message for `err`, or want of memory
abbrev pub Decision : Type 0
Decision = Result ShownAnswer Refusal

-- the program of the file has this answer, by the definition of the document type; each name that it asks for was asked for once, and no
-- fault was counted
pub record IsDecidedAs (files : SourceCall) (file : ScriptFile) (document_type : NamedType) (goal : Goal) (limit : ℕ) (answer : ShownAnswer) :
    Type 0 where
  pub program : PlainProgram
  pub table : Table
  pub loaded : IsLoadedInside files.content file program
  pub has : HasTable files.content document_type table
  pub is_answer : IsAnswer goal table program limit answer
  pub read : IsBuiltIn document_type → ReadsItsFiles files file
  pub calm : files.faults' ≡ files.faults

-- the script is refused by this message; each name that it asks for was asked for once, unless it was not loaded, and a fault is told
pub record IsRefusedBy (files : SourceCall) (file : ScriptFile) (document_type : NamedType) (message : Message) : Type 0 where
  pub why : RefusesScript files file document_type message.status message.text
  pub read : IsBuiltIn document_type → Contains uncounted message.status ⊎ ReadsItsFiles files file
  pub faults : TellsFaults files message.status

-- the program of a file is loaded, behind it the definition of the document type was read, each name that the program asks for was asked
-- for once, and no fault was counted
pub record IsReadBy (files : SourceCall) (file : ScriptFile) (document_type : NamedType) (program : PlainProgram) (table : Table) : Type 0 where
  pub loaded : IsLoadedInside files.content file program
  pub has : HasTable files.content document_type table
  pub misses : ℕ
  pub behind : MissesItsNames files file.name misses
  pub read : IsBuiltIn document_type → ReadsItsFiles files file
  pub calm : files.faults' ≡ files.faults

-- what reading a program and a definition comes to
abbrev pub ReadsBy : SourceCall → ScriptFile → NamedType → Result ScriptBy Refusal → Type 0
ReadsBy files file document_type (Ok script) = IsReadBy files file document_type (program_of script.program) (table_of script.dtd)
ReadsBy files file document_type (Err (Refusal.Told message)) = IsRefusedBy files file document_type message
ReadsBy files file document_type (Err Refusal.Memory) = ⊤

-- what deciding the script of a file comes to, where it is loaded for this
abbrev pub Decides : SourceCall → ScriptFile → NamedType → Goal → ℕ → Decision → Type 0
Decides files file document_type goal limit (Ok answer) = IsDecidedAs files file document_type goal limit answer
Decides files file document_type goal limit (Err (Refusal.Told message)) = IsRefusedBy files file document_type message
Decides files file document_type goal limit (Err Refusal.Memory) = ⊤

-- what deciding a loaded program comes to, with the name of its file: a text of it is too long, or the content models pass a limit
abbrev pub IsProgramRefused : Table → PlainProgram → List ℕ → Message → Type 0
IsProgramRefused table program name message =
    (HasLongText program × Says message Input (long_text name))
    ⊎ ((count : ℕ) × HasLargeModels table count × Says message Dtd (states_text count))

-- what deciding a loaded program comes to, with the name of its file
abbrev pub IsProgramDecided : Table → PlainProgram → List ℕ → Goal → ℕ → Decision → Type 0
IsProgramDecided table program name goal limit (Ok answer) = IsAnswer goal table program limit answer
IsProgramDecided table program name goal limit (Err (Refusal.Told message)) = IsProgramRefused table program name message
IsProgramDecided table program name goal limit (Err Refusal.Memory) = ⊤

-- the same, where a shortest page is asked for
abbrev pub IsShortestDecided : Table → PlainProgram → List ℕ → Goal → ℕ → Result ShortestAnswer Refusal → Type 0
IsShortestDecided table program name goal limit (Ok answer) = IsShortest goal table program limit answer
IsShortestDecided table program name goal limit (Err (Refusal.Told message)) = IsProgramRefused table program name message
IsShortestDecided table program name goal limit (Err Refusal.Memory) = ⊤

-- and what is written of that
abbrev pub HasShortestReply : Table → PlainProgram → List ℕ → Goal → ℕ → AnswerForm → TaskResult → Type 0
HasShortestReply table program name goal limit form (Ok (reply.Text message)) =
    (answer : ShortestAnswer) × IsShortest goal table program limit answer × Says message (shortest_status answer) (shortest_text form answer)
HasShortestReply table program name goal limit form (Ok other) = ⊥
HasShortestReply table program name goal limit form (Err (Refusal.Told message)) = IsProgramRefused table program name message
HasShortestReply table program name goal limit form (Err Refusal.Memory) = ⊤

-- what deciding the script of a file comes to by the table of a definition that was read before: the answer of its program, or a refusal by
-- that table; faults are counted for such a refusal alone
abbrev pub DecidesBy : SourceCall → ScriptFile → Table → Goal → ℕ → Decision → Type 0
DecidesBy files file table goal limit (Ok answer) =
    (program : PlainProgram) × IsLoadedInside files.content file program × IsAnswer goal table program limit answer
    × (files.faults' ≡ files.faults)
DecidesBy files file table goal limit (Err (Refusal.Told message)) =
    RefusesByTable files file table message.status message.text × (message.status ≡ Missing → Rises files.misses files.misses')
    × (message.status ≡ ReadFault → Rises files.faults files.faults')
    × ((message.status ≡ ReadFault → ⊥) → files.faults' ≡ files.faults)
DecidesBy files file table goal limit (Err Refusal.Memory) = ⊤
