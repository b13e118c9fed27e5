-- What a shown answer says of the loose pages of a program and of its runs.
use Rattle.std.specs.Prelude.{◌<◌, ℕ, List, ⊤}
use Rattle.script_meaning.specs.Programs.{PlainProgram}
use Rattle.dtd_model.specs.Table.{Table}
use Rattle.page_decision.specs.declared.goal.Goal.{Goal}
use Rattle.page_decision.specs.Goals.{IsGood}
use Rattle.page_decision.specs.PageVerdicts.{HasManyPairs, HasManyOpenTags}
use Rattle.loose_grammar.specs.declared.refusal.TheConstants.{ITEM_LIMIT}
use Rattle.loose_grammar.specs.Pages.{IsLoosePage}
use Rattle.script_decision.specs.Answers.{EachIsGood, RunsAreGood}
use Rattle.script_decision.specs.Searches.{IsSearched}
use Rattle.script_decision.specs.Decision.{HasManyItems, IsReaderImage}
use Rattle.script_decision.specs.declared.showing_pages.ShownPage.{ShownPage}
use Rattle.script_decision.specs.Shows.{Shows}
use Rattle.script_decision.specs.declared.shown.ShownAnswer.{ShownAnswer}

-- this is shown of a loose page that is not good
pub record IsShownCounterexample (goal : Goal) (table : Table) (program : PlainProgram) (shown : ShownPage) : Type 0 where
  pub page : List ℕ
  pub loose : IsLoosePage program page
  pub bad : IsGood goal table page → ⊥
  pub shows : Shows page shown

-- yes: each loose page is good; no: what is shown of one that is not; a stated count that is passed, behind a search for a broken page: of
-- sums of the sentences of a nonterminal, of unmatched tags, of items
abbrev pub IsShownAnswer : Goal → Table → PlainProgram → ℕ → ShownAnswer → Type 0
IsShownAnswer goal table program limit ShownAnswer.Yes = EachIsGood goal table program
IsShownAnswer goal table program limit (ShownAnswer.No shown) = IsShownCounterexample goal table program shown
IsShownAnswer goal table program limit (ShownAnswer.Pairs count height) =
    IsSearched table program × HasManyPairs table (IsLoosePage program) (IsReaderImage table program) goal limit count height
IsShownAnswer goal table program limit (ShownAnswer.Tags count height) =
    IsSearched table program × HasManyOpenTags table (IsLoosePage program) (IsReaderImage table program) goal count height
IsShownAnswer goal table program limit (ShownAnswer.Items count) = (ITEM_LIMIT < count) × HasManyItems table program count

-- what it says of the program's runs: a yes, that every one, for every admitted request and every number of units, that ends prints a good
-- page
abbrev pub ShownSaysOfRuns : Goal → Table → PlainProgram → ShownAnswer → Type 0
ShownSaysOfRuns goal table program ShownAnswer.Yes = RunsAreGood goal table program
ShownSaysOfRuns goal table program _ = ⊤
