-- The request that a script is run for: that of a file, or one of five empty arrays.
use Rattle.std.specs.Prelude.{◌≡◌, ℕ, List, Option, None, Some}
use Rattle.io_edge.specs.Told.{Content, Tells}
use Rattle.io_edge.specs.Reasons.{HasReason}
use Rattle.io_edge.specs.declared.files.FileFault.{FileFault}
use Rattle.plain_values.specs.Plain.{empty}
use Rattle.script_meaning.specs.Requests.{PlainRequest}
use Rattle.program_files.specs.Source.{SourceCall}
use Rattle.request_reading.specs.Outcome.{outcome, stands_for}
use Rattle.request_reading.specs.Causes.{IsCause}
use Rattle.request_reading.specs.declared.refusal.RequestRefusal.{RequestRefusal}
use Rattle.phpsa_texts.specs.declared.exit.Exit.{Exit}
use Rattle.phpsa_texts.specs.Statuses.{file_status, request_status}
use Rattle.phpsa_texts.specs.Texts.{file_text, request_text}
use Rattle.phpsa_tasks.specs.Files.{HoldsShortFile}

-- five empty arrays
abbrev pub no_request : PlainRequest
no_request = record { get_of = empty; post_of = empty; cookie_of = empty; request_of = empty; server_of = empty }

-- the request, whatever the source tells: the one that the bytes of the file stand for
abbrev pub FindsRequest : Content → Option (List ℕ) → PlainRequest → Type 0
FindsRequest content None request = request ≡ no_request
FindsRequest content (Some name) request = (bytes : List ℕ) × Tells (content name) (Some bytes) × (outcome bytes ≡ stands_for request)

-- the source holds the file of a request
pub record IsHeldRequest (content : Content) (name : List ℕ) (request : PlainRequest) : Type 0 where
  pub bytes : List ℕ
  pub file : HoldsShortFile content name bytes
  pub is : outcome bytes ≡ stands_for request

-- the request, where the source tells all of it
abbrev pub HoldsRequest : Content → Option (List ℕ) → PlainRequest → Type 0
HoldsRequest content None request = request ≡ no_request
HoldsRequest content (Some name) request = IsHeldRequest content name request

-- the source holds a file that stands for no request, for this cause
pub record HoldsNoRequest (content : Content) (name : List ℕ) (cause : RequestRefusal) : Type 0 where
  pub bytes : List ℕ
  pub file : HoldsShortFile content name bytes
  pub why : IsCause cause (outcome bytes)

-- the file of a request is not read, or its bytes stand for no request
pub data RefusesFile (files : SourceCall) (name : List ℕ) (status : Exit) (text : List ℕ) : Type 0 where
  unread : (fault : FileFault) → HasReason (files.content name) files.faults files.faults' files.misses files.misses' fault
      → status ≡ file_status fault → text ≡ file_text fault name → RefusesFile files name status text
  no_request_in : (bytes : List ℕ) (refusal : RequestRefusal) → Tells (files.content name) (Some bytes) → IsCause refusal (outcome bytes)
      → status ≡ request_status refusal → text ≡ request_text refusal → RefusesFile files name status text

-- why there is no request
abbrev pub RefusesRequest : SourceCall → Option (List ℕ) → Exit → List ℕ → Type 0
RefusesRequest files None status text = ⊥
RefusesRequest files (Some name) status text = RefusesFile files name status text
