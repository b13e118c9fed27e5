-- What a source that reads each name once is seen as.
use Rattle.std.specs.Prelude.{◌≡◌, ℕ, List, Option, None, Some, Result, Ok, Err, ⊤}
use Rattle.io_edge.specs.declared.files.FileFault.{FileFault}
use Rattle.io_edge.specs.declared.files.FileFault.TheVariants.{Missing, Memory}
use Rattle.site_check.specs.declared.kept_files.KeptFile.{KeptFile}
use Rattle.site_check.specs.declared.kept_files.KeptFile.TheVariants as kept
use Rattle.site_check.specs.declared.kept_files.KeptFiles.{KeptFiles}
use Rattle.site_check.specs.declared.read_once.ReadOnce.{ReadOnce}
use Rattle.site_check.specs.Kept.{Kept}

-- what is kept
abbrev pub kept_of : KeptFiles → Kept
kept_of k = record { files = k.files.entries; full = k.is_full }

-- what a source keeps
abbrev pub kept_by : {F : Type 0} → ReadOnce F → Kept
kept_by r = kept_of r.kept

-- the source that it asks
abbrev pub inner_of : {F : Type 0} → ReadOnce F → F
inner_of r = r.inner

-- how often it was asked
abbrev pub read_count : {F : Type 0} → ReadOnce F → ℕ
read_count r = r.reads

-- how often it answered by itself that there is no such file
abbrev pub missed_count : {F : Type 0} → ReadOnce F → ℕ
missed_count r = r.missed

-- a kept file is answered by its bytes, or as missing, want of memory for its bytes aside; none is answered where none is kept, or the file
-- is too long
abbrev pub AnswersKept : Option KeptFile → Option (Result (List ℕ) FileFault) → Type 0
AnswersKept None None = ⊤
AnswersKept (Some kept.Missing) (Some (Err Missing)) = ⊤
AnswersKept (Some (kept.Found bytes)) (Some (Ok given)) = given ≡ bytes
AnswersKept (Some (kept.Found bytes)) (Some (Err Memory)) = ⊤
AnswersKept (Some kept.Long) None = ⊤
AnswersKept file answer = ⊥
