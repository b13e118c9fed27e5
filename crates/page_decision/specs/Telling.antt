-- How sums of page tokens tell whether a page is good.
use Rattle.std.specs.Prelude.{◌≡◌, ◌↔◌, ℕ, Bool, true, List, length}
use Rattle.text_base.specs.declared.page_token.PageToken.{PageToken}
use Rattle.dtd_model.specs.Table.{Table}
use Rattle.content_automata.specs.Tables.{Table as States}
use Rattle.content_automata.specs.Decides.{Decides, HasOwners}
use Rattle.page_model.specs.PageTokens.{PageTokens}
use Rattle.tag_sums.specs.Automaton.{Automaton}
use Rattle.tag_sums.specs.Sum.{sum_of}
use Rattle.tag_sums.specs.Nesting.{nest_of, is_balanced}
use Rattle.page_automata.specs.PageAutomaton.{parts_of, page_automaton}
use Rattle.page_automata.specs.Whole.{is_whole}
use Rattle.page_decision.specs.declared.goal.Goal.{Goal}
use Rattle.page_decision.specs.Goals.{IsGood}

-- the states decide what the elements of the definition may hold, and each belongs to one of them
pub record AreStatesOf (table : Table) (states : States) : Type 0 where
  pub decides : Decides table states
  pub owners : HasOwners (length table.elements) states

-- the automaton of the definition over these states
abbrev pub automaton_over : Table → States → Automaton
automaton_over table states = page_automaton (parts_of table states)

-- the sum of a page's tokens is whole exactly where the page is good
abbrev pub TellsGood : {S : Type 0} → Goal → Table → (List PageToken → S) → (S → Bool) → Type 0
TellsGood goal table sum_by whole =
    (page : List ℕ) (tokens : List PageToken) → PageTokens table page tokens → (whole (sum_by tokens) ≡ true) ↔ IsGood goal table page

-- the sums of the automaton of a definition tell whether a page is valid
abbrev pub SumsTellValid : Type 0
SumsTellValid = (table : Table) (states : States) → AreStatesOf table states
    → TellsGood Goal.Valid table (sum_of (automaton_over table states)) (is_whole (automaton_over table states))

-- the sums of nesting tell whether a page is nested
abbrev pub NestsTellNested : Type 0
NestsTellNested = (table : Table) → TellsGood Goal.Nested table nest_of is_balanced
