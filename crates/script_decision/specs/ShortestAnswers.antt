-- What the answer on the shortest page of a program says of its loose pages and of its runs.
use Rattle.std.specs.Prelude.{◌<◌, ℕ, List, length, ⊤}
use Rattle.cfg_grammar.specs.declared.grammar.Grammar.{Grammar}
use Rattle.derivations.specs.Nodes.{most}
use Rattle.dtd_model.specs.Table.{Table}
use Rattle.fst_core.specs.Items.{HasItems}
use Rattle.broken_readers.specs.Laws.{WayStep}
use Rattle.way_reader.specs.PageWays.{ArePageWays}
use Rattle.way_reader.specs.Reader.{starts_at}
use Rattle.way_reader.specs.Ways.{first_state}
use Rattle.way_reader.specs.declared.reader.PieceWays.{PieceWays}
use Rattle.page_decision.specs.declared.goal.Goal.{Goal}
use Rattle.page_decision.specs.Goals.{IsGood}
use Rattle.script_meaning.specs.Programs.{PlainProgram}
use Rattle.loose_grammar.specs.declared.refusal.TheConstants.{ITEM_LIMIT}
use Rattle.loose_grammar.specs.Pages.{IsLoosePage, IsPageGrammar}
use Rattle.loose_grammar.specs.Refusals.{HasLargeImage}
use Rattle.script_decision.specs.Answers.{EachIsGood, RunsAreGood}
use Rattle.script_decision.specs.Decision.{IsReaderImage}
use Rattle.script_decision.specs.declared.showing_pages.ShownPage.{ShownPage}
use Rattle.script_decision.specs.Shows.{Shows}
use Rattle.short_page.specs.ShortPages.{HasManyShortSums, HasManyShortTags}
use Rattle.script_decision.specs.declared.shortest_answer.ShortestAnswer.{ShortestAnswer}
use Rattle.script_decision.specs.declared.shortest_answer.ShortestAnswer.TheVariants as answer

-- this is shown of a loose page that is not good, and each loose page that has fewer bytes than that one, and fewer than the largest u64,
-- is good
pub record IsShownShortest (goal : Goal) (table : Table) (program : PlainProgram) (shown : ShownPage) : Type 0 where
  pub page : List ℕ
  pub loose : IsLoosePage program page
  pub bad : IsGood goal table page → ⊥
  pub shows : Shows page shown
  pub shortest : (other : List ℕ) → IsLoosePage program other → length other < length page → length other < most → IsGood goal table other

-- one image has at least so many items: that of an operation of the system that is made of the program, or that of the grammar of loose
-- pages that is made of it, under the reader of the definition's pages, which goes by ways that are the definition's forms
pub data HasManyItems (table : Table) (program : PlainProgram) (count : ℕ) : Type 0 where
  by_operation : HasLargeImage program count → HasManyItems table program count
  by_pages : (grammar : Grammar) → IsPageGrammar program grammar → (ways : PieceWays) → ArePageWays table ways
      → HasItems grammar.productions.items (WayStep ways.arena (starts_at ways.starts)) grammar.start first_state count
      → HasManyItems table program count

-- each loose page is good; what is shown of a shortest one that is not; a stated count that is passed: of sums of the sentences of a
-- nonterminal and of unmatched tags, each of sentences within a length, with each shorter loose page good, and of items
abbrev pub IsShortestAnswer : Goal → Table → PlainProgram → ℕ → ShortestAnswer → Type 0
IsShortestAnswer goal table program limit answer.Yes = EachIsGood goal table program
IsShortestAnswer goal table program limit (answer.No shown) = IsShownShortest goal table program shown
IsShortestAnswer goal table program limit (answer.Pairs count l) =
    HasManyShortSums table (IsLoosePage program) (IsReaderImage table program) goal limit count l
IsShortestAnswer goal table program limit (answer.Tags count l) =
    HasManyShortTags table (IsLoosePage program) (IsReaderImage table program) goal count l
IsShortestAnswer goal table program limit (answer.Items count) = (ITEM_LIMIT < count) × HasManyItems table program count

-- what an answer says of the program's runs: a yes, that they are good
abbrev pub SaysOfRuns : Goal → Table → PlainProgram → ShortestAnswer → Type 0
SaysOfRuns goal table program answer.Yes = RunsAreGood goal table program
SaysOfRuns goal table program _ = ⊤
