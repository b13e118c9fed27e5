-- How a call of the program on several files ends; this project's own.
use Rattle.std.specs.Prelude.{◌≡◌, ◌⊎◌, ℕ, nat_lt, List, length, map, Bool, true, false, Option, None, Some, Result, Ok, Err}
use Rattle.io_edge.specs.Told.{Content}
use Rattle.site_check.specs.Listed.{IsCount, names_in}
use Rattle.site_check.specs.declared.list_refusal.ListRefusal.TheVariants.{Names}
use Rattle.phpsa_texts.specs.declared.exit.Exit.{Exit}
use Rattle.phpsa_texts.specs.declared.exit.Exit.TheVariants as exit
use Rattle.phpsa_texts.specs.declared.message.Message.{Message}
use Rattle.phpsa_texts.specs.declared.message.Refusal.{Refusal}
use Rattle.phpsa_texts.specs.Texts.{IsTold, list_text, memory_text, usage_text}
use Rattle.phpsa_tasks.specs.Call.{Output, call_of}
use Rattle.phpsa_tasks.specs.Keeps.{Keeps}
use Rattle.several_files.specs.declared.call_files.CallFiles.{CallFiles}
use Rattle.several_files.specs.declared.answers.FileAnswer.{FileAnswer}
use Rattle.several_files.specs.Files.{told_beside, inner_of, list_of, read_count}
use Rattle.several_files.specs.Words.{FileName, Checks, asked_checks}
use Rattle.several_files.specs.Lines.{Answer, told, report, report_status}
use Rattle.several_files.specs.Calls.{Moment, moment, between, IsAnswer, AreAnswers, EndsAll, IsEnded}
use Rattle.several_files.specs.Listing.{asks_json, has_found, are_listable, site_words, unlistable_reason}
use Rattle.several_files.specs.Listing as listing
use Rattle.several_files.specs.Telling.{Tells, refused_by}
use Rattle.several_files.specs.Views.{answer_as}

-- the moment of a source of several calls, by what the other source tells and counts
abbrev pub moment_of : {F : Type 0} → (F → Content) → (faults misses : F → ℕ) → CallFiles F → Moment
moment_of content faults misses c =
    moment (told_beside (list_of c) (content (inner_of c))) (faults (inner_of c)) (misses (inner_of c)) (read_count c)

-- a report on all files is due: the answers are those for them, one for each, and it tells them
pub record OwesReport (checks : Checks) (before now : Moment) (status : Exit) (text : List ℕ) : Type 0 where
  pub answers : List Answer
  pub answered : AreAnswers checks.options before now checks.files answers
  pub text_is : text ≡ report (told answers)
  pub status_is : status ≡ report_status (told answers)

-- memory is wanting
abbrev pub is_wanting : Exit → List ℕ → Type 0
is_wanting status text = (status ≡ exit.Memory) × (text ≡ memory_text)

-- a refusal is due: a call on one of the files has ended the whole one; or memory was wanting
pub data OwesRefusal (checks : Checks) (before now : Moment) (status : Exit) (text : List ℕ) : Type 0 where
  ended : IsEnded checks.options before now checks.files status text → OwesRefusal checks before now status text
  wants_memory : is_wanting status text → OwesRefusal checks before now status text

-- what is due where there are no names, or over 1,000
abbrev pub OwesCount : Checks → Exit → List ℕ → Type 0
OwesCount checks status text =
    ((status ≡ exit.Input) × (text ≡ list_text (Names (length checks.files)))) ⊎ is_wanting status text

-- the names for the list of `site`: all of them; or, where some were found in a folder, those whose answers are told
pub data AreNamesFor (checks : Checks) (before now : Moment) (names : List (List ℕ)) : Type 0 where
  all_names : has_found checks.files ≡ false → now ≡ before → names ≡ map (λ file. file.name) checks.files
      → AreNamesFor checks before now names
  told_names : has_found checks.files ≡ true → (answers : List Answer) → AreAnswers checks.options before now checks.files answers
      → names ≡ map (λ answer. answer.file.name) (told answers) → AreNamesFor checks before now names

-- a list for `site` has these names, one a line, all of which may stand in one, and `site` reads these names in it
pub record IsListFor (checks : Checks) (before now : Moment) (list : List ℕ) : Type 0 where
  pub names : List (List ℕ)
  pub are : AreNamesFor checks before now names
  pub listable : are_listable names ≡ true
  pub list_is : list ≡ listing.list_of names
  pub read : names_in list ≡ names

-- and a refusal is due in its place, as above, or since one of the names cannot stand in a list
pub data OwesListRefusal (checks : Checks) (before now : Moment) (status : Exit) (text : List ℕ) : Type 0 where
  owes : OwesRefusal checks before now status text → OwesListRefusal checks before now status text
  unlistable : (names : List (List ℕ)) → AreNamesFor checks before now names → are_listable names ≡ false → status ≡ exit.Usage
      → text ≡ usage_text (Some unlistable_reason) → OwesListRefusal checks before now status text

-- `site` was called, over the same outputs, and a source that told such a list as the call began
pub record CallsSite (checks : Checks) (before now : Moment) (out err : Output) (status : Exit) : Type 0 where
  pub middle : Moment
  pub list : List ℕ
  pub is_list : IsListFor checks before middle list
  pub start : Moment
  pub content : Content
  pub held : start.content ≡ told_beside (Some list) content
  pub faults : start.faults ≡ middle.faults
  pub misses : start.misses ≡ middle.misses
  pub reads : start.reads ≡ middle.reads
  pub keeps : Keeps (call_of (site_words checks.options) (between start now) out err) status

-- nothing is due
abbrev pub owes_nothing : Exit → List ℕ → Type 0
owes_nothing status text = ⊥

-- Each of the files is checked: the report on them, or a refusal, is told; where lines of JSON are asked for, `site` has told it. Where there
-- are no names, or over 1,000, that is told.
pub data ChecksEach (checks : Checks) (before now : Moment) (out err : Output) (status : Exit) : Type 0 where
  miscounts : (IsCount (length checks.files) → ⊥) → Tells owes_nothing (OwesCount checks) out err status
      → ChecksEach checks before now out err status
  reports : IsCount (length checks.files) → asks_json checks ≡ false
      → Tells (OwesReport checks before now) (OwesRefusal checks before now) out err status → ChecksEach checks before now out err status
  reports_json : IsCount (length checks.files) → asks_json checks ≡ true → CallsSite checks before now out err status
      → ChecksEach checks before now out err status
  refuses_json : IsCount (length checks.files) → asks_json checks ≡ true
      → Tells owes_nothing (OwesListRefusal checks before now) out err status → ChecksEach checks before now out err status

-- words ask for `check` of several names
abbrev pub are_several : Option Checks → Bool
are_several None = false
are_several (Some checks) = nat_lt 1 (length checks.files)

-- The program does what words ask for: each of several names is checked; all else is done as `phpsa` does it; or memory was wanting for the
-- words.
pub data Answers (words : List (List ℕ)) (before now : Moment) (out err : Output) (status : Exit) : Type 0 where
  each : (checks : Checks) → asked_checks words ≡ Some checks → are_several (Some checks) ≡ true
      → ChecksEach checks before now out err status → Answers words before now out err status
  alone : are_several (asked_checks words) ≡ false → Keeps (call_of words (between before now) out err) status
      → Answers words before now out err status
  wants : Tells owes_nothing is_wanting out err status → Answers words before now out err status

-- the answer for a file, or why there is none: its call ends the whole one, or memory was wanting; no public clause cites this
abbrev pub IsAnswerOr : List (List ℕ) → Moment → Moment → FileName → Result FileAnswer Refusal → Type 0
IsAnswerOr options before now file (Ok answer) = IsAnswer options before now file (answer_as answer)
IsAnswerOr options before now file (Err refusal) =
    (status : Exit) × (text : List ℕ) × refused_by (Err refusal) status text
    × (EndsAll options before now file status text ⊎ is_wanting status text)

-- why there are no answers for files; no public clause cites this
abbrev pub AreRefused : List (List ℕ) → Moment → Moment → List FileName → Refusal → Type 0
AreRefused options before now files refusal =
    (status : Exit) × (text : List ℕ) × refused_by (Err refusal) status text
    × (IsEnded options before now files status text ⊎ is_wanting status text)

-- the report, or why there is none; no public clause cites this
abbrev pub IsReportOr : Checks → Moment → Moment → Result Message Refusal → Type 0
IsReportOr checks before now (Ok message) = OwesReport checks before now message.status message.text
IsReportOr checks before now (Err refusal) =
    (status : Exit) × (text : List ℕ) × refused_by (Err refusal) status text × OwesRefusal checks before now status text

-- names as a list, or why they are none; no public clause cites this
abbrev pub IsListOr : List (List ℕ) → Result (List ℕ) Refusal → Type 0
IsListOr names (Ok list) = (are_listable names ≡ true) × (list ≡ listing.list_of names)
IsListOr names (Err refusal) =
    (status : Exit) × (text : List ℕ) × refused_by (Err refusal) status text
    × (((are_listable names ≡ false) × (status ≡ exit.Usage) × (text ≡ usage_text (Some unlistable_reason))) ⊎ is_wanting status text)

-- the list for `site`, or why there is none; no public clause cites this
abbrev pub IsListForOr : Checks → Moment → Moment → Result (List ℕ) Refusal → Type 0
IsListForOr checks before now (Ok list) = IsListFor checks before now list
IsListForOr checks before now (Err refusal) =
    (status : Exit) × (text : List ℕ) × refused_by (Err refusal) status text × OwesListRefusal checks before now status text

-- the report of `site`, or why there is none; no public clause cites this
abbrev pub IsSiteOr : Checks → Moment → Moment → Output → Output → Exit → Type 0
IsSiteOr checks before now out err status =
    CallsSite checks before now out err status ⊎ Tells owes_nothing (OwesListRefusal checks before now) out err status

-- there are as many names as there may be, or that is refused; no public clause cites this
abbrev pub IsCountOr : ℕ → Option Refusal → Type 0
IsCountOr count None = IsCount count
IsCountOr count (Some refusal) = (IsCount count → ⊥) × IsTold refusal exit.Input (list_text (Names count))
