-- What a call of the program meets outside: words, files, and the two outputs, before it and after it.
use Rattle.std.specs.Prelude.{◌≡◌, ℕ, List, Option}
use Rattle.std.specs.Io.KnownBytes.{Appends}
use Rattle.io_edge.specs.Counts.{Rises}
use Rattle.io_edge.specs.Taken.{AppendsPrefix}
use Rattle.program_files.specs.Source.{SourceCall}

-- an output: what is written on it, where that is told, and its count of faults
pub record Output : Type 0 where
  pub written : Option (List ℕ)
  pub written' : Option (List ℕ)
  pub faults : ℕ
  pub faults' : ℕ

-- a call of the program: its words, what its source holds and counts, and both outputs
pub record Call : Type 0 where
  pub words : List (List ℕ)
  pub files : SourceCall
  pub out : Output
  pub err : Output

-- the output gained exactly this text
abbrev pub Gains : Output → List ℕ → Type 0
Gains output text = Appends output.written output.written' text

-- the output gained a prefix of this text
abbrev pub GainsPrefix : Output → List ℕ → Type 0
GainsPrefix output text = AppendsPrefix output.written output.written' text

-- the output is as it was
abbrev pub GainsNothing : Output → Type 0
GainsNothing output = output.written' ≡ output.written

-- the count of faults of the output is as it was
abbrev pub IsUnfailed : Output → Type 0
IsUnfailed output = output.faults' ≡ output.faults

-- the count of faults of the output rose
abbrev pub Fails : Output → Type 0
Fails output = Rises output.faults output.faults'

-- an output by what is written and its count of faults, before and after
abbrev pub output_of : Option (List ℕ) → Option (List ℕ) → ℕ → ℕ → Output
output_of written written' faults faults' = record { written = written; written' = written'; faults = faults; faults' = faults' }

-- a call by its words, its source, and both outputs
abbrev pub call_of : List (List ℕ) → SourceCall → Output → Output → Call
call_of words files out err = record { words = words; files = files; out = out; err = err }
