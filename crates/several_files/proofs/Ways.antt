-- Ways in which several files are checked.
use Rattle.std.proofs.Common.{◌≡◌, ℕ, List, true, false, length, sym, ap, subst, inl, inr}
use Rattle.std.specs.Prelude.{Option, Some, Result, Err}
use Rattle.io_edge.specs.Told.{Content}
use Rattle.site_check.specs.Listed.{IsCount}
use Rattle.site_check.specs.declared.list_refusal.ListRefusal.TheVariants.{Names}
use Rattle.phpsa_texts.specs.declared.exit.Exit.{Exit}
use Rattle.phpsa_texts.specs.declared.exit.Exit.TheVariants as exit
use Rattle.phpsa_texts.specs.declared.message.Message.{Message}
use Rattle.phpsa_texts.specs.declared.message.Refusal.{Refusal}
use Rattle.phpsa_texts.specs.Texts.{IsTold, list_text}
use Rattle.phpsa_tasks.specs.Call.{Output, call_of}
use Rattle.phpsa_tasks.specs.Keeps.{Keeps}
use Rattle.several_files.specs.declared.call_files.CallFiles.{CallFiles}
use Rattle.several_files.specs.Files.{told_beside, inner_of, list_of, read_count}
use Rattle.several_files.specs.Words.{Checks}
use Rattle.several_files.specs.Calls.{Moment, between}
use Rattle.several_files.specs.Listing.{asks_json, site_words}
use Rattle.several_files.specs.Telling.{Tells, replied_by, refused_by}
use Rattle.several_files.specs.Endings.{moment_of, is_wanting, owes_nothing, OwesReport, OwesRefusal, wants_memory, OwesCount, OwesListRefusal, owes, IsListFor, IsListForOr, IsReportOr, CallsSite, ChecksEach, miscounts, reports, reports_json, refuses_json, IsSiteOr, IsCountOr}
use Rattle.several_files.proofs.Outputs.{told_as}
use Rattle.several_files.proofs.Dues.{owed_report, owed_refusal, owed_list_refusal, owed_count, replies_nothing}

-- `site` is called on a list that is held
pub site_is_called : (F : Type 0) (content : F → Content) (faults misses : F → ℕ) (checks : Checks) (before : Moment) (listed held now : CallFiles F) (list : List ℕ)
    (words : List (List ℕ)) (out err : Output) (status : Exit) → IsListFor checks before (moment_of content faults misses listed) list
    → inner_of held ≡ inner_of listed → list_of held ≡ Some list → read_count held ≡ read_count listed → words ≡ site_words checks.options
    → Keeps (call_of words (between (moment_of content faults misses held) (moment_of content faults misses now)) out err) status
    → CallsSite checks before (moment_of content faults misses now) out err status
site_is_called F content faults misses checks before listed held now list words out err status is_list inner holds reads said keeps = record {
  middle = moment_of content faults misses listed;
  list = list;
  is_list = is_list;
  start = moment_of content faults misses held;
  content = content (inner_of held);
  held = ap (λ (l : Option (List ℕ)). told_beside l (content (inner_of held))) holds;
  faults = ap faults inner;
  misses = ap misses inner;
  reads = reads;
  keeps = subst (λ (ws : List (List ℕ)). Keeps (call_of ws (between (moment_of content faults misses held) (moment_of content faults misses now)) out err) status) said keeps;
}

-- a list is refused
pub site_is_refused : (checks : Checks) (before now : Moment) (refusal : Refusal) (out err : Output) (status : Exit) → IsListForOr checks before now (Err refusal)
    → Tells (replied_by (Err refusal)) (refused_by (Err refusal)) out err status → Tells owes_nothing (OwesListRefusal checks before now) out err status
site_is_refused checks before now refusal out err status is tells =
    told_as (replied_by (Err refusal)) (refused_by (Err refusal)) owes_nothing (OwesListRefusal checks before now) (replies_nothing owes_nothing refusal)
    (owed_list_refusal checks before now refusal is) out err status tells

-- memory is wanting
wanting_owes : (checks : Checks) (before now : Moment) (status : Exit) (text : List ℕ) → refused_by (Err Refusal.Memory) status text
    → OwesListRefusal checks before now status text
wanting_owes checks before now status text is = owes (wants_memory is)

pub site_wants : (checks : Checks) (before now : Moment) (out err : Output) (status : Exit)
    → Tells (replied_by (Err Refusal.Memory)) (refused_by (Err Refusal.Memory)) out err status → Tells owes_nothing (OwesListRefusal checks before now) out err status
site_wants checks before now out err status tells =
    told_as (replied_by (Err Refusal.Memory)) (refused_by (Err Refusal.Memory)) owes_nothing (OwesListRefusal checks before now) (replies_nothing owes_nothing Refusal.Memory)
    (wanting_owes checks before now) out err status tells

-- words find no memory
pub words_want : (out err : Output) (status : Exit) → Tells (replied_by (Err Refusal.Memory)) (refused_by (Err Refusal.Memory)) out err status
    → Tells owes_nothing is_wanting out err status
words_want out err status tells =
    told_as (replied_by (Err Refusal.Memory)) (refused_by (Err Refusal.Memory)) owes_nothing is_wanting (replies_nothing owes_nothing Refusal.Memory) (λ s t is. is) out err status tells

-- a count is refused
pub count_is_refused : (checks : Checks) (before now : Moment) (count : ℕ) (refusal : Refusal) (out err : Output) (status : Exit) → count ≡ length checks.files
    → IsCountOr count (Some refusal) → Tells (replied_by (Err refusal)) (refused_by (Err refusal)) out err status → ChecksEach checks before now out err status
count_is_refused checks before now count refusal out err status is (none, says) tells =
    miscounts (λ some. none (subst IsCount (sym is) some)) (told_as (replied_by (Err refusal)) (refused_by (Err refusal)) owes_nothing (OwesCount checks)
    (replies_nothing owes_nothing refusal) (owed_count checks refusal (subst (λ (n : ℕ). IsTold refusal exit.Input (list_text (Names n))) is says)) out err status tells)

-- a report is told, or a refusal
pub report_is_told : (checks : Checks) (before now : Moment) (count : ℕ) (result : Result Message Refusal) (out err : Output) (status : Exit) → count ≡ length checks.files
    → IsCount count → asks_json checks ≡ false → IsReportOr checks before now result → Tells (replied_by result) (refused_by result) out err status
    → ChecksEach checks before now out err status
report_is_told checks before now count result out err status is some plain report tells =
    reports (subst IsCount is some) plain (told_as (replied_by result) (refused_by result) (OwesReport checks before now) (OwesRefusal checks before now)
    (owed_report checks before now result report) (owed_refusal checks before now result report) out err status tells)

-- lines of JSON
pub site_is_told : (checks : Checks) (before now : Moment) (count : ℕ) (out err : Output) (status : Exit) → count ≡ length checks.files → IsCount count
    → asks_json checks ≡ true → IsSiteOr checks before now out err status → ChecksEach checks before now out err status
site_is_told checks before now count out err status is some json (inl calls) = reports_json (subst IsCount is some) json calls
site_is_told checks before now count out err status is some json (inr tells) = refuses_json (subst IsCount is some) json tells
