-- What a request file is: a request, or the first cause for which it is none.
use Rattle.std.specs.Prelude.{ℕ, if◌then◌else◌, List, Option, Some, None}
use Rattle.std.specs.Str.{is_utf8}
use Rattle.script_meaning.specs.Requests.{PlainRequest}
use Rattle.serde_json.specs.Data.{Data}
use Rattle.serde_json.specs.Read.{read}
use Rattle.request_reading.specs.RequestFile.{is_request, asked_request}
use Rattle.request_reading.specs.Admission.{stray_path}

-- no JSON text; a JSON value of another form; the path of the first text that is not admitted; a request
pub data Outcome : Type 0 where
  not_json : Outcome
  not_request : Outcome
  not_admitted : List ℕ → Outcome
  stands_for : PlainRequest → Outcome

-- the value of a file of JSON in UTF-8
abbrev pub parsed : List ℕ → Option Data
parsed file = if is_utf8 file then read file else None

-- a value of the form of a request, by the path of its first text that is not admitted, if there is one
abbrev pub admission : Data → Option (List ℕ) → Outcome
admission d (Some path) = not_admitted path
admission d None = stands_for (asked_request d)

-- a value of another form is no request, whatever its texts are
abbrev pub outcome_of : Option Data → Outcome
outcome_of None = not_json
outcome_of (Some d) = if is_request d then admission d (stray_path d) else not_request

-- what the bytes of a request file are
abbrev pub outcome : List ℕ → Outcome
outcome file = outcome_of (parsed file)
