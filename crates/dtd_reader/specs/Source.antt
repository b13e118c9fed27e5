-- A source of files in a call: what it tells behind the call, and its counts of faults and of misses, before the call and after it.
use Rattle.std.specs.Prelude.{◌≡◌, ◌<◌, ℕ, List, None, Result, Ok, Err}
use Rattle.text_base.specs.declared.memory.NoMemory.{NoMemory}
use Rattle.text_base.specs.declared.limits.TheConstants.{FILE_LIMIT}
use Rattle.io_edge.specs.Counts.{Rises}
use Rattle.io_edge.specs.Told.{Content, Tells, HasAtLeast}
use Rattle.io_edge.specs.declared.files.FileFault.{FileFault}
use Rattle.io_edge.specs.declared.files.FileFault.TheVariants.{Memory, Missing, Failed, TooLong}

-- what a source tells behind a call, and its counts of faults and of misses before the call and (with a prime) after it
pub record SourceCall : Type 0 where
  pub content : Content
  pub faults : ℕ
  pub faults' : ℕ
  pub misses : ℕ
  pub misses' : ℕ

-- such a call by its parts
abbrev pub source_call : Content → ℕ → ℕ → ℕ → ℕ → SourceCall
source_call content faults faults' misses misses' = record {
  content = content;
  faults = faults;
  faults' = faults';
  misses = misses;
  misses' = misses';
}

-- neither count rose
abbrev pub IsCalm : SourceCall → Type 0
IsCalm call = (call.faults' ≡ call.faults) × (call.misses' ≡ call.misses)

-- why the file of this name was not read; no count rose but that of the reason
abbrev pub IsUnread : SourceCall → List ℕ → FileFault → Type 0
IsUnread call name Missing = Rises call.misses call.misses' × Tells (call.content name) None × (call.faults' ≡ call.faults)
IsUnread call name Failed = Rises call.faults call.faults' × (call.misses' ≡ call.misses)
IsUnread call name (TooLong len) = (FILE_LIMIT < len) × HasAtLeast (call.content name) len × IsCalm call
IsUnread call name Memory = IsCalm call

-- the counts behind a call: what is said of its answer, and where no memory was left, none rose
abbrev pub Counted : {A : Type 0} → (SourceCall → A → Type 0) → SourceCall → Result A NoMemory → Type 0
Counted says call (Ok answer) = says call answer
Counted says call (Err want) = IsCalm call
