-- What stands on the outputs where a task is done, or says why it does not come to its end, where the source tells of all names that are
-- read.
use Rattle.std.specs.Prelude.{ℕ, List, ⊤}
use Rattle.phpsa_texts.specs.declared.exit.Exit.{Exit}
use Rattle.phpsa_texts.specs.declared.exit.Exit.TheVariants as exit
use Rattle.phpsa_tasks.specs.Tasks.{Task, AsksFor}
use Rattle.phpsa_tasks.specs.Subjects.{Subject, Holds}
use Rattle.phpsa_tasks.specs.Replies.{IsReplyOf, IsHaltOf}
use Rattle.phpsa_tasks.specs.Call.{Call, Gains, GainsNothing}

-- the statuses of a reply, of which 15 is that of a list, and those of a run that does not come to its end
abbrev pub HasAllWritten : Exit → Type 0
HasAllWritten exit.Done = ⊤
HasAllWritten exit.No = ⊤
HasAllWritten exit.Undecided = ⊤
HasAllWritten exit.Fault = ⊤
HasAllWritten exit.Spent = ⊤
HasAllWritten exit.Deep = ⊤
HasAllWritten exit.Site = ⊤
HasAllWritten other = ⊥

-- The reply to a task of what it speaks of stands on `out`, and nothing on `err`: so the page of a `no` is a loose page of this program that
-- is not good, by its length and its first bytes, and the count of an `undecided` is one that this program passes. Or, of a run that does not
-- come to its end, what it printed stands on `out`, and why it did not on `err`.
pub data Writes (call : Call) (status : Exit) (task : Task) (subject : Subject task) : Type 0 where
  writes_reply : (text : List ℕ) → IsReplyOf call.files task subject status text → Gains call.out text → GainsNothing call.err
      → Writes call status task subject
  writes_halt : (printed text : List ℕ) → IsHaltOf task subject status printed text → Gains call.out printed → Gains call.err text
      → Writes call status task subject

-- after a status that says that all is written, what was asked for stands on the outputs, where the source tells all of what the task needs
abbrev pub IsWritten : Call → Exit → Type 0
IsWritten call status = HasAllWritten status → (task : Task) (subject : Subject task) → AsksFor call.words task
    → Holds call.files.content task subject → Writes call status task subject
