-- The state of the worklist: the rows of the first names are written.
use Rattle.std.specs.Prelude.{◌≤◌, ◌+◌, ℕ, List, [], Contains, length, take}
use Rattle.loose_sets.specs.declared.name.SetName.{SetName}
use Rattle.given_texts.specs.Closed.{Closed}
use Rattle.system_writing.specs.Sizes.{numbers_due, lines_due}
use Rattle.numbered_sets.specs.Numbers.{Keeps}
use Rattle.extraction.specs.declared.work.Work.{Work}
use Rattle.extraction.specs.Numbered.{Lists, rows_of, forms_in, bytes_in, AreReached}
use Rattle.extraction.specs.Steps.{IsPaired, Stands}

-- from a work without rows, those that are listed for the first names are written, and no others; each name may be asked for, and is reached
pub record IsListed (asks : SetName → Type 0) (lists : Lists) (old new : Work) (taken : ℕ) : Type 0 where
  pub paired : IsPaired new
  pub names : Keeps old.names.keys new.names.keys
  pub asked : (n : SetName) → Contains new.names.keys n → asks n
  pub reached : AreReached lists old.names.keys new.names.keys
  pub stands : (starts : List SetName) (closed : Closed) → Stands [] starts closed old
      → Stands (rows_of lists (take taken new.names.keys)) starts closed new
  pub numbers : numbers_due new.draft + length old.names.keys ≤ numbers_due old.draft + length new.names.keys
      + bytes_in lists (take taken new.names.keys)
  pub lines : lines_due new.draft ≤ lines_due old.draft + forms_in lists (take taken new.names.keys) + bytes_in lists (take taken new.names.keys)
