-- What the system of a program is made of.
use Rattle.std.specs.Prelude.{◌≡◌, ◌+◌, ◌≤◌, ℕ, List}
use Rattle.xml_text.specs.Texts.{IsText}
use Rattle.op_system.specs.declared.system.OpSystem.{OpSystem}
use Rattle.flow_code.specs.Points.{PlainFlow}
use Rattle.extraction.specs.Made.{IsMadeBy}
use Rattle.extraction.specs.declared.tables.FlowTables.{FlowTables}
use Rattle.extraction.specs.Tables.{flow_of, lists_of, AreTables}
use Rattle.extraction.specs.FlowAsked.{IsAsked}

-- there are tables of the program, and the system is made of the sets that they list, and of a grammar of what is given: these texts for
-- the request, by so many productions over so many nonterminals
pub record IsMadeWith (request : List ℕ → Type 0) (nonterminals lines : ℕ) (flow : PlainFlow) (s : OpSystem) : Type 0 where
  pub tables : FlowTables
  pub of_flow : flow_of tables ≡ flow
  pub are : AreTables tables
  pub made : IsMadeBy request nonterminals lines flow (IsAsked tables) (lists_of tables) s

-- the request brings any text of XML's characters; these texts and all integers are given by 65 productions over 32 nonterminals
abbrev pub IsMade : PlainFlow → OpSystem → Type 0
IsMade flow s = IsMadeWith IsText 32 65 flow s

-- the request brings these texts, by a grammar of so many nonterminals and productions; what is given has at most these productions beside
-- 65, and these nonterminals beside 32
pub record IsMadeOver (request : List ℕ → Type 0) (count size : ℕ) (flow : PlainFlow) (s : OpSystem) : Type 0 where
  pub lines : ℕ
  pub few : lines ≤ 65 + size
  pub made : IsMadeWith request (32 + count) lines flow s
