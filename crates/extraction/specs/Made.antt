-- What an extracted system is made of.
use Rattle.std.specs.Prelude.{ℕ, ◌≤◌, ◌+◌, List, Contains, length}
use Rattle.op_system.specs.declared.system.OpSystem.{OpSystem}
use Rattle.flow_code.specs.Points.{PlainFlow}
use Rattle.numbered_sets.specs.Numbers.{AreDifferent}
use Rattle.loose_sets.specs.declared.name.SetName.{SetName}
use Rattle.given_texts.specs.Closed.{Closed}
use Rattle.given_texts.specs.Given.{IsGiven}
use Rattle.system_writing.specs.Systems.{IsSystem}
use Rattle.extraction.specs.Numbered.{Lists, table_of, forms_in, bytes_in, AreReached, AreWhole}
use Rattle.extraction.specs.Ends.{AreEnds}

-- the system stands for the table of the names that are listed for what is printed from the entry on, for what these name, and so on, each
-- name once, and for a grammar of what is given: these texts for the request, by so many productions over so many nonterminals; and it is no
-- larger than these names, their forms and the bytes in them
pub record IsMadeBy (request : List ℕ → Type 0) (nonterminals lines : ℕ) (flow : PlainFlow) (asks : SetName → Type 0) (lists : Lists)
    (s : OpSystem) : Type 0 where
  pub starts : List SetName
  pub names : List SetName
  pub closed : Closed
  pub ends : AreEnds flow starts
  pub once : AreDifferent names
  pub asked : (n : SetName) → Contains names n → asks n
  pub reached : AreReached lists starts names
  pub whole : AreWhole lists names
  pub given : IsGiven request nonterminals lines closed
  pub system : IsSystem (table_of lists names) starts names closed s
  pub numbers : s.grammar.count ≤ nonterminals + 1 + length names + bytes_in lists names
  pub sizes : length s.grammar.productions.items + length s.ops.items ≤ lines + length starts + forms_in lists names + bytes_in lists names
