-- What is kept of the files that were read, and what is told with it; this project's own.
use Rattle.std.specs.Prelude.{◌+◌, ◌++◌, ◌∷◌, [], ℕ, List, length, Bool, true, false, Option, None, Some, nat_le, bytes_eq}
use Rattle.std.specs.Map.{lookup}
use Rattle.io_edge.specs.Told.{Told, Content, unasked, untold, known}
use Rattle.site_check.specs.declared.kept_files.TheConstants.{KEPT_LIMIT}
use Rattle.site_check.specs.declared.kept_files.KeptFile.{KeptFile}
use Rattle.site_check.specs.declared.kept_files.KeptFile.TheVariants.{Found, Missing, Long}

-- names with what is kept of their files: the bytes of each, or that there is none, or that it is too long
abbrev pub NamedFiles : Type 0
NamedFiles = List (List ℕ × KeptFile)

-- the files that are kept, and whether one came for which there was no room: then no more are kept
pub record Kept : Type 0 where
  pub files : NamedFiles
  pub full : Bool

-- before anything is read
abbrev pub nothing_kept : Kept
nothing_kept = record { files = []; full = false }

-- how many bytes are kept of a file
abbrev pub file_size : KeptFile → ℕ
file_size (Found bytes) = length bytes
file_size Missing = 0
file_size Long = 0

-- how many bytes files have in all
abbrev pub total_size : NamedFiles → ℕ
total_size [] = 0
total_size (file ∷ files) = file_size file.1 + total_size files

-- there is room for the file beside these
abbrev pub fits : NamedFiles → KeptFile → Bool
fits files file = nat_le (total_size files + file_size file) KEPT_LIMIT

-- the files behind the first answer for a name: where no more are kept, those that there were; where there is room for the file, it stands
-- behind them; else no more are kept from then on
abbrev pub kept_behind : NamedFiles → (full : Bool) → (fits : Bool) → List ℕ → KeptFile → Kept
kept_behind files true fits name file = record { files = files; full = true }
kept_behind files false true name file = record { files = files ++ (name, file) ∷ []; full = false }
kept_behind files false false name file = record { files = files; full = true }

-- what is kept behind an answer for a name: the first that is kept of it stays
abbrev pub keep_beside : Option KeptFile → Kept → List ℕ → KeptFile → Kept
keep_beside None kept name file = kept_behind kept.files kept.full (fits kept.files file) name file
keep_beside (Some first) kept name file = kept

-- what is kept behind an answer for a name
abbrev pub keep : Kept → List ℕ → KeptFile → Kept
keep kept name file = keep_beside (lookup (bytes_eq name) kept.files) kept name file

-- what is told of a name that is not kept, by what another source tells: where that tells nothing, what it gives is told later, unless
-- nothing more is kept
abbrev pub told_later : Bool → Told → Told
told_later true told = told
told_later false unasked = unasked
told_later false untold = unasked
told_later false (known file) = known file

-- what is told of a name by what is kept of it; of a file that is too long what the other source tells
abbrev pub told_of : Option KeptFile → Bool → Told → Told
told_of None full told = told_later full told
told_of (Some (Found bytes)) full told = known (Some bytes)
told_of (Some Missing) full told = known None
told_of (Some Long) full told = told

-- what is told with what is kept, beside another source
abbrev pub told_with : Kept → Content → Content
told_with kept content name = told_of (lookup (bytes_eq name) kept.files) kept.full (content name)
