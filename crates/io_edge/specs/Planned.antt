-- What files in memory answer: some calls are planned to fail.
use Rattle.std.specs.Prelude.{◌==◌, ◌+◌, ℕ, List, [], ◌∷◌, length, Bool, true, false, Option, None, Some, Result, Ok, Err, if◌then◌else◌, bytes_eq, nat_le}
use Rattle.std.specs.List.{list_any}
use Rattle.text_base.specs.declared.limits.TheConstants.{FILE_LIMIT}
use Rattle.io_edge.specs.declared.files.FileFault.{FileFault}
use Rattle.io_edge.specs.declared.files.FileFault.TheVariants.{Missing, Failed, TooLong}

-- the bytes of the first file of this name
abbrev pub file_named : List ℕ → List (List ℕ × List ℕ) → Option (List ℕ)
file_named name [] = None
file_named name (file ∷ files) = if bytes_eq file.0 name then Some file.1 else file_named name files

-- whether this call is one of those that are to fail
abbrev pub is_planned : List ℕ → ℕ → Bool
is_planned planned call = list_any (λ n. n == call) planned

-- what a call answers, want of memory aside: by whether it is planned to fail, and by the file of the name
abbrev pub planned_answer : Bool → Option (List ℕ) → Result (List ℕ) FileFault
planned_answer true file = Err Failed
planned_answer false None = Err Missing
planned_answer false (Some bytes) = if nat_le (length bytes) FILE_LIMIT then Ok bytes else Err (TooLong (FILE_LIMIT + 1))
