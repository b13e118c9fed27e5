-- Why a file was not read.
use Rattle.std.specs.Prelude.{◌<◌, ℕ, None, ⊤}
use Rattle.text_base.specs.declared.limits.TheConstants.{FILE_LIMIT}
use Rattle.io_edge.specs.Counts.{Rises}
use Rattle.io_edge.specs.Told.{Told, Tells, HasAtLeast}
use Rattle.io_edge.specs.declared.files.FileFault.{FileFault}
use Rattle.io_edge.specs.declared.files.FileFault.TheVariants.{Memory, Missing, Failed, TooLong}

-- the reason of a fault, in what is told of the name behind the call and in the counts of faults and of misses, before and after
abbrev pub HasReason : Told → ℕ → ℕ → ℕ → ℕ → FileFault → Type 0
HasReason told faults faults' misses misses' Missing = Rises misses misses' × Tells told None
HasReason told faults faults' misses misses' Failed = Rises faults faults'
HasReason told faults faults' misses misses' (TooLong len) = (FILE_LIMIT < len) × HasAtLeast told len
HasReason told faults faults' misses misses' Memory = ⊤

-- a file that is too long has more bytes than the limit
abbrev pub IsOverLimit : FileFault → Type 0
IsOverLimit Missing = ⊤
IsOverLimit Failed = ⊤
IsOverLimit (TooLong len) = FILE_LIMIT < len
IsOverLimit Memory = ⊤
