-- The calls of the program for several files, each on one of them alone.
use Rattle.std.specs.Prelude.{◌≡◌, ◌++◌, ℕ, List, [], ◌∷◌, Some, Bool, true, false, codes}
use Rattle.io_edge.specs.Told.{Content}
use Rattle.program_files.specs.Source.{SourceCall, source_call}
use Rattle.phpsa_texts.specs.declared.exit.Exit.{Exit}
use Rattle.phpsa_texts.specs.declared.exit.Exit.TheVariants as exit
use Rattle.phpsa_tasks.specs.Call.{call_of, output_of}
use Rattle.phpsa_tasks.specs.Keeps.{Keeps}
use Rattle.several_files.specs.Words.{FileName}
use Rattle.several_files.specs.Lines.{Answer, text_of}

-- what a source tells at one moment, and its counts of faults, misses and reads
pub record Moment : Type 0 where
  pub content : Content
  pub faults : ℕ
  pub misses : ℕ
  pub reads : ℕ

-- a moment by its parts
abbrev pub moment : Content → ℕ → ℕ → ℕ → Moment
moment content faults misses reads = record { content = content; faults = faults; misses = misses; reads = reads }

-- what a source holds and counts in a call between two moments
abbrev pub between : Moment → Moment → SourceCall
between before now = source_call now.content before.faults now.faults before.misses now.misses before.reads now.reads

-- the words of the call on a file: its name stands behind `--`, whatever it begins with
abbrev pub call_words : List (List ℕ) → List ℕ → List (List ℕ)
call_words options name = codes "check" ∷ (options ++ (codes "--" ∷ name ∷ []))

-- a status that ends the whole call by itself
abbrev pub ends_all : Exit → Bool
ends_all exit.Usage = true
ends_all exit.WriteFault = true
ends_all exit.Memory = true
ends_all other = false

-- a call of `check` on one file, with these texts on its two outputs, which were empty before and take all
pub record IsCalled (options : List (List ℕ)) (before now : Moment) (name : List ℕ) (status : Exit) (out err : List ℕ) : Type 0 where
  pub out_faults : ℕ
  pub err_faults : ℕ
  pub keeps : Keeps (call_of (call_words options name) (between before now) (output_of (Some []) (Some out) 0 out_faults)
      (output_of (Some []) (Some err) 0 err_faults)) status

-- the answer for a file is that of such a call
pub record IsAnswer (options : List (List ℕ)) (before now : Moment) (file : FileName) (answer : Answer) : Type 0 where
  pub out : List ℕ
  pub err : List ℕ
  pub called : IsCalled options before now file.name answer.status out err
  pub file_is : answer.file ≡ file
  pub text_is : answer.text ≡ text_of answer.status out err
  pub goes_on : ends_all answer.status ≡ false

-- the answers are those for the files, one for each, in their order, one call behind another
abbrev pub AreAnswers : List (List ℕ) → Moment → Moment → List FileName → List Answer → Type 0
AreAnswers options before now [] [] = now ≡ before
AreAnswers options before now (file ∷ files) (answer ∷ answers) =
    (middle : Moment) × IsAnswer options before middle file answer × AreAnswers options middle now files answers
AreAnswers options before now files answers = ⊥

-- the call on a file ends by a status that ends the whole call, with this text on its error stream
pub record EndsAll (options : List (List ℕ)) (before now : Moment) (file : FileName) (status : Exit) (text : List ℕ) : Type 0 where
  pub out : List ℕ
  pub called : IsCalled options before now file.name status out text
  pub is : ends_all status ≡ true

-- the calls on the first files have answers, and the next one ends the whole call
pub record IsEnded (options : List (List ℕ)) (before now : Moment) (files : List FileName) (status : Exit) (text : List ℕ) : Type 0 where
  pub firsts : List FileName
  pub file : FileName
  pub rest : List FileName
  pub are : firsts ++ file ∷ rest ≡ files
  pub answers : List Answer
  pub last : Moment
  pub answered : AreAnswers options before last firsts answers
  pub ends : EndsAll options last now file status text

-- the first files have these answers, and the rest none yet; no public clause cites this
pub record HasAnswered (options : List (List ℕ)) (before now : Moment) (files rest : List FileName) (answers : List Answer) : Type 0 where
  pub firsts : List FileName
  pub are : firsts ++ rest ≡ files
  pub answered : AreAnswers options before now firsts answers
