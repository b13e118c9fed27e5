-- The pattern that the pages of a script are held against: that of a file.
use Rattle.std.specs.Prelude.{◌≡◌, ℕ, List, Some}
use Rattle.io_edge.specs.Told.{Content, Tells}
use Rattle.io_edge.specs.Reasons.{HasReason}
use Rattle.io_edge.specs.declared.files.FileFault.{FileFault}
use Rattle.page_policy.specs.Patterns.{Pattern}
use Rattle.page_policy.specs.Refusals.{IsTaken, IsCause}
use Rattle.page_policy.specs.declared.refusal.PolicyRefusal.{PolicyRefusal}
use Rattle.program_files.specs.Source.{SourceCall}
use Rattle.phpsa_texts.specs.declared.exit.Exit.{Exit}
use Rattle.phpsa_texts.specs.Statuses.{file_status, policy_status}
use Rattle.phpsa_texts.specs.Texts.{file_text, policy_text}
use Rattle.phpsa_tasks.specs.Files.{HoldsShortFile}

-- the pattern, whatever the source tells: the one that the bytes of the file spell, within the limits
abbrev pub FindsPattern : Content → List ℕ → Pattern → Type 0
FindsPattern content name p = (bytes : List ℕ) × Tells (content name) (Some bytes) × IsTaken bytes p

-- the pattern, where the source tells all of it
pub record HoldsPattern (content : Content) (name : List ℕ) (p : Pattern) : Type 0 where
  pub bytes : List ℕ
  pub file : HoldsShortFile content name bytes
  pub taken : IsTaken bytes p

-- the source holds a file that spells no pattern that is taken
pub record HoldsNoPattern (content : Content) (name : List ℕ) : Type 0 where
  pub bytes : List ℕ
  pub file : HoldsShortFile content name bytes
  pub none : (p : Pattern) → IsTaken bytes p → ⊥

-- the file of a pattern is not read, or its bytes spell none that is taken
pub data RefusesPattern (files : SourceCall) (name : List ℕ) (status : Exit) (text : List ℕ) : Type 0 where
  pattern_unread : (fault : FileFault) → HasReason (files.content name) files.faults files.faults' files.misses files.misses' fault
      → status ≡ file_status fault → text ≡ file_text fault name → RefusesPattern files name status text
  no_pattern_in : (bytes : List ℕ) (refusal : PolicyRefusal) → Tells (files.content name) (Some bytes) → IsCause bytes refusal
      → status ≡ policy_status refusal → text ≡ policy_text refusal → RefusesPattern files name status text
