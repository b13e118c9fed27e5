-- What it means that a system stands for a table: what stands at each nonterminal, and that its productions and rules are exactly the rows
-- of that.
use Rattle.std.specs.Prelude.{◌≡◌, ℕ, List, Some, Contains, slice_get, length}
use Rattle.op_system.specs.declared.system.OpSystem.{OpSystem}
use Rattle.least_sets.specs.Forms.{Form}
use Rattle.least_sets.specs.Sets.{Says}
use Rattle.given_texts.specs.Closed.{Closed}
use Rattle.system_writing.specs.Parts.{Part, start_part, set_part, PartRow}
use Rattle.system_writing.specs.Written.{IsWritten}

-- the productions and rules are written for the rows of the table; the system begins with the start, which takes over the sets to begin
-- with; and the sets that have a nonterminal are those of these names
pub record IsSystem {N : Type 0} (table : N → Form N → Type 0) (starts names : List N) (closed : Closed) (s : OpSystem) : Type 0 where
  pub parts : List (Part N)
  pub all : length parts ≡ s.grammar.count
  pub written : IsWritten (PartRow table (Contains starts) (Says table) closed) parts s.grammar.productions.items s.ops.items
  pub begins : slice_get parts s.start.0 ≡ Some start_part
  pub named : (n : N) → Contains names n → (k : ℕ) × (slice_get parts k ≡ Some (set_part n))
  pub sets : (n : N) (k : ℕ) → slice_get parts k ≡ Some (set_part n) → Contains names n
