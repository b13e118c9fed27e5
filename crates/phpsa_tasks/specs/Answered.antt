-- When a call is answered, and how.
use Rattle.std.specs.Prelude.{◌≡◌, ◌⊎◌, ℕ, List, [], ◌∷◌, Option, Some, Contains, ⊤}
use Rattle.script_meaning.specs.Programs.{PlainProgram}
use Rattle.dtd_model.specs.Table.{Table}
use Rattle.page_model.specs.Valid.{Valid}
use Rattle.request_reading.specs.declared.refusal.RequestRefusal.{RequestRefusal}
use Rattle.io_edge.specs.Counts.{Rises}
use Rattle.io_edge.specs.Told.{Content, Stays}
use Rattle.program_files.specs.Source.{SourceCall}
use Rattle.program_loader.specs.Told.{IsLoaded}
use Rattle.site_check.specs.Listed.{names_in, IsList}
use Rattle.page_decision.specs.declared.goal.Goal.{Goal}
use Rattle.page_decision.specs.Goals.{IsGood}
use Rattle.program_lowering.specs.Short.{HasLongText}
use Rattle.loose_grammar.specs.Pages.{IsLoosePage}
use Rattle.script_decision.specs.Answers.{EachIsGood}
use Rattle.script_decision.specs.declared.shown.ShownAnswer.{ShownAnswer}
use Rattle.script_decision.specs.Shown.{IsShownAnswer}
use Rattle.script_decision.specs.ShortestAnswers.{IsShortestAnswer}
use Rattle.script_decision.specs.declared.shortest_answer.ShortestAnswer.{ShortestAnswer}
use Rattle.script_maker.specs.Made.{IsSize}
use Rattle.command_words.specs.Asked.{Asked, AsksNothing}
use Rattle.command_words.specs.Canonical.{IsCanonical}
use Rattle.phpsa_texts.specs.declared.exit.Exit.{Exit}
use Rattle.phpsa_texts.specs.declared.exit.Exit.TheVariants.{Done, No, Undecided, Script, Missing, Input, WriteFault, Usage, Memory, Policy, Site}
use Rattle.phpsa_texts.specs.Statuses.{request_status}
use Rattle.phpsa_texts.specs.Texts.{request_text, policy_text}
use Rattle.page_policy.specs.Patterns.{Pattern, Fits}
use Rattle.page_policy.specs.Refusals.{IsCause}
use Rattle.page_policy.specs.declared.refusal.PolicyRefusal.{PolicyRefusal}
use Rattle.script_decision.specs.PolicyAnswers.{EachFits, IsPolicyAnswer}
use Rattle.script_decision.specs.declared.policy_answer.PolicyAnswer.{PolicyAnswer}
use Rattle.phpsa_tasks.specs.Tasks.{ScriptFile, listed, Task, script_check, page_check, script_making, made_check, script_run, grammar_making, list_check, script_match, help_telling, version_telling, usage, AsksFor}
use Rattle.command_words.specs.declared.values.TheConstants.{PAIR_LIMIT}
use Rattle.phpsa_tasks.specs.declared.choice.PageChoice.{PageChoice}
use Rattle.phpsa_tasks.specs.declared.choice.PageChoice.TheVariants.{First, Shortest}
use Rattle.phpsa_tasks.specs.Requests.{HoldsNoRequest}
use Rattle.phpsa_tasks.specs.Policies.{HoldsNoPattern}
use Rattle.phpsa_tasks.specs.PolicyAnswers.{match_status}
use Rattle.phpsa_tasks.specs.Subjects.{Subject, HoldsProgramInside, Holds, IsWithin, LacksFile}
use Rattle.phpsa_tasks.specs.ScriptAnswers.{answer_status, shortest_status}
use Rattle.phpsa_tasks.specs.Sites.{RefusesByTable}
use Rattle.phpsa_tasks.specs.Replies.{end_status, outcome_for, HasManyItems}
use Rattle.phpsa_tasks.specs.Call.{Call, Gains, GainsNothing, Fails}

-- no count of faults rises in the call
pub record IsUndisturbed (call : Call) : Type 0 where
  pub files : Rises call.files.faults call.files.faults' → ⊥
  pub out : Fails call.out → ⊥
  pub err : Fails call.err → ⊥

-- what a program comes to by a goal: each loose page is good, or one is not
abbrev pub IsScriptVerdict : Goal → Table → PlainProgram → Exit → Type 0
IsScriptVerdict goal table program Done = EachIsGood goal table program
IsScriptVerdict goal table program No = (page : List ℕ) × IsLoosePage program page × (IsGood goal table page → ⊥)
IsScriptVerdict goal table program status = ⊥

-- a limit of the decision is passed: a stated count, or that of the bytes of a text
abbrev pub PassesScriptLimit : Goal → Table → PlainProgram → ℕ → Exit → Type 0
PassesScriptLimit goal table program limit Undecided =
    (answer : ShownAnswer) × IsShownAnswer goal table program limit answer × (answer_status answer ≡ Undecided)
PassesScriptLimit goal table program limit Input = HasLongText program
PassesScriptLimit goal table program limit status = ⊥

-- and by which page is shown: of the sums and tags of short sentences where it is a shortest one
abbrev pub PassesCheckLimit : PageChoice → Goal → Table → PlainProgram → ℕ → Exit → Type 0
PassesCheckLimit First goal table program limit status = PassesScriptLimit goal table program limit status
PassesCheckLimit Shortest goal table program limit Undecided =
    (answer : ShortestAnswer) × IsShortestAnswer goal table program limit answer × (shortest_status answer ≡ Undecided)
PassesCheckLimit Shortest goal table program limit Input = HasLongText program
PassesCheckLimit Shortest goal table program limit status = ⊥

-- a limit of the making of a grammar is passed: of the items of an image, or of the bytes of a text
abbrev pub PassesGrammarLimit : PlainProgram → Exit → Type 0
PassesGrammarLimit program Undecided = (count : ℕ) × HasManyItems program count
PassesGrammarLimit program Input = HasLongText program
PassesGrammarLimit program status = ⊥

-- what a program comes to by a pattern: each loose page fits, or one does not
abbrev pub IsMatchVerdict : Pattern → PlainProgram → Exit → Type 0
IsMatchVerdict p program Done = EachFits p program
IsMatchVerdict p program No = (page : List ℕ) × IsLoosePage program page × (Fits p page → ⊥)
IsMatchVerdict p program status = ⊥

-- a limit of that decision is passed: a stated count, or that of the bytes of a text
abbrev pub PassesMatchLimit : Pattern → PlainProgram → Exit → Type 0
PassesMatchLimit p program Undecided = (answer : PolicyAnswer) × IsPolicyAnswer p program answer × (match_status answer ≡ Undecided)
PassesMatchLimit p program Input = HasLongText program
PassesMatchLimit p program status = ⊥

-- the program is one that a name of a list has, with the stubs of the list
pub record IsOfList (content : Content) (stubs : Option (List ℕ)) (list : List ℕ) (program : PlainProgram) : Type 0 where
  pub name : List ℕ
  pub named : Contains (names_in list) name
  pub loaded : IsLoaded content name stubs program

-- what a list comes to by a goal: each of its scripts has only good loose pages, or one has another; or it is no list
abbrev pub IsListVerdict : Content → Option (List ℕ) → Goal → Table → List ℕ → Exit → Type 0
IsListVerdict content stubs goal table list Done =
    IsList list × ((name : List ℕ) → Contains (names_in list) name
    → (program : PlainProgram) × IsLoaded content name stubs program × EachIsGood goal table program)
IsListVerdict content stubs goal table list No =
    IsList list × ((program : PlainProgram) × IsOfList content stubs list program × IsScriptVerdict goal table program No)
IsListVerdict content stubs goal table list Input = IsList list → ⊥
IsListVerdict content stubs goal table list status = ⊥

-- a script of a list is not decided: a limit is passed, or it is refused, by what was told at some time and by some counts; that these are
-- those of its own call, a report says (`AreLinesOf`)
abbrev pub StopsAtScript : Content → ScriptFile → Goal → Table → ℕ → List ℕ → Exit → Type 0
StopsAtScript content file goal table limit list Undecided =
    (program : PlainProgram) × IsOfList content file.stubs list program × PassesScriptLimit goal table program limit Undecided
StopsAtScript content file goal table limit list Site =
    (files : SourceCall) × (name : List ℕ) × (status : Exit) × (text : List ℕ) × Contains (names_in list) name
    × Stays files.content content × RefusesByTable files (listed file name) table status text
StopsAtScript content file goal table limit list status = ⊥

-- the status that a task has for what it speaks of: of a run, that of its end; and each program has a grammar
abbrev pub IsVerdict : Content → (task : Task) → Subject task → Exit → Type 0
IsVerdict content (script_check file document_type goal limit form choice) subject status = IsScriptVerdict goal subject.table subject.program status
IsVerdict content (page_check file document_type) subject Done = Valid subject.table subject.page
IsVerdict content (page_check file document_type) subject No = Valid subject.table subject.page → ⊥
IsVerdict content (script_making functions) subject Done = IsSize functions
IsVerdict content (script_making functions) subject Input = IsSize functions → ⊥
IsVerdict content (made_check functions) subject status = IsScriptVerdict Goal.Valid subject.table subject.program status
IsVerdict content (script_run file request steps) subject status = status ≡ end_status (outcome_for subject steps).end
IsVerdict content (grammar_making file) subject Done = ⊤
IsVerdict content (list_check file document_type goal limit) subject status =
    IsListVerdict content file.stubs goal subject.table subject.list status
IsVerdict content (script_match file policy) subject status = IsMatchVerdict subject.pattern subject.program status
IsVerdict content help_telling subject status = status ≡ Done
IsVerdict content version_telling subject status = status ≡ Done
IsVerdict content usage subject Usage = ⊤
IsVerdict content task subject status = ⊥

-- the status says that a task is not done: a limit of its decision is passed, or memory was wanting
abbrev pub PassesLimit : Content → (task : Task) → Subject task → Exit → Type 0
PassesLimit content (script_check file document_type goal limit form choice) subject status =
    PassesCheckLimit choice goal subject.table subject.program limit status
PassesLimit content (made_check functions) subject status = PassesScriptLimit Goal.Valid subject.table subject.program PAIR_LIMIT status
PassesLimit content (grammar_making file) subject status = PassesGrammarLimit subject status
PassesLimit content (list_check file document_type goal limit) subject status =
    StopsAtScript content file goal subject.table limit subject.list status
PassesLimit content (script_match file policy) subject status = PassesMatchLimit subject.pattern subject.program status
PassesLimit content task subject status = ⊥

-- a limit of the task is passed, or memory was wanting
abbrev pub IsStopped : Content → (task : Task) → Subject task → Exit → Type 0
IsStopped content task subject status = PassesLimit content task subject status ⊎ (status ≡ Memory)

-- the statuses of a task that finds nothing under the name of a file, whatever its document type: a name is missing, a file is no script or
-- a rule is broken, or a limit is passed
abbrev pub statuses_of_nothing : Task → List Exit
statuses_of_nothing (script_check file document_type goal limit form choice) = Missing ∷ Script ∷ Input ∷ Memory ∷ []
statuses_of_nothing (page_check file document_type) = Missing ∷ Input ∷ Memory ∷ []
statuses_of_nothing (script_making functions) = []
statuses_of_nothing (made_check functions) = Input ∷ Memory ∷ []
statuses_of_nothing (script_run file request steps) = Missing ∷ Script ∷ Input ∷ Memory ∷ []
statuses_of_nothing (grammar_making file) = Missing ∷ Script ∷ Input ∷ Memory ∷ []
statuses_of_nothing (list_check file document_type goal limit) = Missing ∷ Input ∷ Memory ∷ []
statuses_of_nothing (script_match file policy) = Missing ∷ Script ∷ Input ∷ Memory ∷ Policy ∷ []
statuses_of_nothing help_telling = []
statuses_of_nothing version_telling = []
statuses_of_nothing usage = []

-- a program is held that stays in its root, and a file that stands for no request of it, for a cause that is not want of memory
pub record IsNotRun (call : Call) (file : ScriptFile) (name : List ℕ) (cause : RequestRefusal) : Type 0 where
  pub program : PlainProgram
  pub held : HoldsProgramInside call.files.content file program
  pub none : HoldsNoRequest call.files.content name cause
  pub input : request_status cause ≡ Input

-- nothing is run, and the cause is told: `phpsa: NotJson` and its like
pub record TellsCause (call : Call) (cause : RequestRefusal) (status : Exit) : Type 0 where
  pub status_is : status ≡ Input
  pub out : GainsNothing call.out
  pub err : Gains call.err (request_text cause)

-- a program is held that stays in its root, and a file that spells no pattern that is taken
pub record IsNotMatched (call : Call) (file : ScriptFile) (policy : List ℕ) : Type 0 where
  pub program : PlainProgram
  pub held : HoldsProgramInside call.files.content file program
  pub none : HoldsNoPattern call.files.content policy

-- no page is held against anything, and why is told: `phpsa: Policy KIND VALUE`
pub record TellsPolicy (call : Call) (bytes : List ℕ) (status : Exit) : Type 0 where
  pub cause : PolicyRefusal
  pub why : IsCause bytes cause
  pub status_is : status ≡ Policy
  pub out : GainsNothing call.out
  pub err : Gains call.err (policy_text cause)

-- Words that ask for what the source tells all of are answered, a limit and want of memory aside, and exactly by what is so of it; where
-- nothing is found, so is the status; a program is not run where the file of its request stands for none, nor matched where that of a
-- pattern spells none, and why is told; words that ask for nothing are refused, and canonical ones never for that.
pub record IsAnswered (call : Call) (status : Exit) : Type 0 where
  pub answered : (task : Task) (subject : Subject task) → AsksFor call.words task → IsUndisturbed call
      → Holds call.files.content task subject → IsWithin call.files.content task subject
      → IsVerdict call.files.content task subject status ⊎ IsStopped call.files.content task subject status
  pub exact : (task : Task) (subject : Subject task) (verdict : Exit) → AsksFor call.words task → IsUndisturbed call
      → Holds call.files.content task subject → IsWithin call.files.content task subject
      → IsVerdict call.files.content task subject verdict
      → (status ≡ verdict) ⊎ IsStopped call.files.content task subject status
  pub nothing : (task : Task) → AsksFor call.words task → IsUndisturbed call → LacksFile call.files.content task
      → Contains (statuses_of_nothing task) status
  pub not_run : (file : ScriptFile) (name : List ℕ) (steps : ℕ) (cause : RequestRefusal) → AsksFor call.words (script_run file (Some name) steps)
      → IsUndisturbed call → IsNotRun call file name cause → TellsCause call cause status ⊎ (status ≡ Memory)
  pub not_matched : (file : ScriptFile) (policy : List ℕ) → AsksFor call.words (script_match file policy) → IsUndisturbed call
      → (n : IsNotMatched call file policy) → TellsPolicy call n.none.bytes status ⊎ (status ≡ Memory)
  pub refused : AsksNothing call.words → Contains (Usage ∷ WriteFault ∷ Memory ∷ []) status
  pub taken : (for : Asked) → IsCanonical call.words for → status ≡ Usage → ⊥
