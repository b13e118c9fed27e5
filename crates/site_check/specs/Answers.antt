-- How a source that asks another once for each name answers; this project's own.
use Rattle.std.specs.Prelude.{◌≡◌, ◌⊎◌, ℕ, List, Option, None, Some, Result, Ok, Err, ⊤}
use Rattle.io_edge.specs.Counts.{one_more}
use Rattle.io_edge.specs.declared.files.FileFault.{FileFault}
use Rattle.io_edge.specs.declared.files.FileFault.TheVariants.{Missing, TooLong, Memory}
use Rattle.site_check.specs.declared.kept_files.KeptFile.{KeptFile}
use Rattle.site_check.specs.declared.kept_files.KeptFile.TheVariants as kept
use Rattle.site_check.specs.Kept.{Kept, keep}

-- the other source is asked for a name: nothing is kept of it, or that its file is too long
abbrev pub IsAsked : Option KeptFile → Type 0
IsAsked None = ⊤
IsAsked (Some (kept.Found bytes)) = ⊥
IsAsked (Some kept.Missing) = ⊥
IsAsked (Some kept.Long) = ⊤

-- what the other source answers for a name is kept where it is a file, that there is none, or that it is too long
abbrev pub KeepsAnswer : Kept → Kept → List ℕ → Result (List ℕ) FileFault → Type 0
KeepsAnswer before now name (Ok bytes) = now ≡ keep before name (kept.Found bytes)
KeepsAnswer before now name (Err Missing) = now ≡ keep before name kept.Missing
KeepsAnswer before now name (Err (TooLong len)) = now ≡ keep before name kept.Long
KeepsAnswer before now name (Err other) = now ≡ before

-- a kept file is answered by its bytes, or as missing, which is counted; want of memory aside
abbrev pub AnswersAgain : KeptFile → (missed missed' : ℕ) → Result (List ℕ) FileFault → Type 0
AnswersAgain (kept.Found bytes) missed missed' (Ok given) = (given ≡ bytes) × (missed' ≡ missed)
AnswersAgain kept.Missing missed missed' (Err Missing) = missed' ≡ one_more missed
AnswersAgain file missed missed' (Err Memory) = missed' ≡ missed
AnswersAgain file missed missed' other = ⊥

-- the other source was asked once, unless memory was wanting before: then it is as it was
abbrev pub AsksOnce : {F : Type 0} → (F → ℕ) → (before now : F) → Result (List ℕ) FileFault → Type 0
AsksOnce reads before now result = (reads now ≡ one_more (reads before)) ⊎ ((result ≡ Err Memory) × (now ≡ before))
