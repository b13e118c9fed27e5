-- What the answer for a program says of its loose pages and of its runs.
use Rattle.std.specs.Prelude.{◌≡◌, ◌<◌, ℕ, List, ⊤}
use Rattle.text_base.specs.declared.letter.Letter.{Letter}
use Rattle.cfg_grammar.specs.declared.grammar.Grammar.{Grammar}
use Rattle.derivations.specs.declared.derivation.Derivation.{Derivation}
use Rattle.fst_core.specs.Items.{HasItems}
use Rattle.script_meaning.specs.Requests.{PlainRequest, Admitted}
use Rattle.script_meaning.specs.Runs.{Ended}
use Rattle.script_meaning.specs.Programs.{PlainProgram}
use Rattle.script_meaning.specs.Meaning.{meaning}
use Rattle.loose_grammar.specs.declared.refusal.TheConstants.{ITEM_LIMIT}
use Rattle.loose_grammar.specs.Pages.{IsLoosePage, IsPageGrammar}
use Rattle.loose_grammar.specs.Refusals.{HasLargeImage}
use Rattle.dtd_model.specs.Table.{Table}
use Rattle.page_decision.specs.declared.goal.Goal.{Goal}
use Rattle.page_decision.specs.Goals.{IsGood}
use Rattle.page_decision.specs.Echoes.{IsMachineImage}
use Rattle.page_decision.specs.PageVerdicts.{IsBadPage, HasManyPairs, HasManyOpenTags}
use Rattle.page_decision.specs.TextVerdicts.{IsDerivationOf}
use Rattle.script_decision.specs.declared.answer.Answer.{Answer}
use Rattle.script_decision.specs.Searches.{IsSearched}

-- each loose page of the program is good
abbrev pub EachIsGood : Goal → Table → PlainProgram → Type 0
EachIsGood goal table program = (page : List ℕ) → IsLoosePage program page → IsGood goal table page

-- it is a derivation of the page by a grammar of loose pages that is made of the program
abbrev pub IsDerivationBy : PlainProgram → Derivation → List ℕ → Type 0
IsDerivationBy program derivation page =
    (grammar : Grammar) × IsPageGrammar program grammar × IsDerivationOf grammar derivation page

-- the derivation is one of a loose page that is not good
abbrev pub IsCounterexample : Goal → Table → PlainProgram → Derivation → Type 0
IsCounterexample goal table program derivation = IsBadPage table (IsLoosePage program) (IsDerivationBy program) goal derivation

-- one image has at least so many items: that of an operation of the system that is made of the program, or, behind a search for a broken
-- page, that of the grammar of loose pages that is made of it, under the machine that reads pages
pub data HasManyItems {S : Type 0} (first : S) (steps : S → ℕ → S → List Letter → Type 0) (table : Table) (program : PlainProgram)
    (count : ℕ) : Type 0 where
  by_operation : HasLargeImage program count → HasManyItems first steps table program count
  by_pages : (grammar : Grammar) → IsPageGrammar program grammar → IsSearched table program
      → HasItems grammar.productions.items steps grammar.start first count → HasManyItems first steps table program count

module _ {S : Type 0} (first : S) (steps : S → ℕ → S → List Letter → Type 0) (ends : S → List Letter → Type 0) where
  -- the grammar is an image, under the machine that reads pages, of the grammar of loose pages that is made of the program
  pub record IsPageImage (program : PlainProgram) (image : Grammar) : Type 0 where
    pub grammar : Grammar
    pub of_program : IsPageGrammar program grammar
    pub of_grammar : IsMachineImage grammar first steps ends image

  -- the answer is that of the program, by a machine that reads pages, with this limit on sums; where a limit is passed, a broken page was
  -- looked for
  abbrev pub IsAnswerBy : Goal → Table → PlainProgram → ℕ → Answer → Type 0
  IsAnswerBy goal table program limit Answer.Yes = EachIsGood goal table program
  IsAnswerBy goal table program limit (Answer.No derivation) = IsCounterexample goal table program derivation
  IsAnswerBy goal table program limit (Answer.Pairs count height) =
      IsSearched table program × HasManyPairs table (IsLoosePage program) (IsPageImage program) goal limit count height
  IsAnswerBy goal table program limit (Answer.Tags count height) =
      IsSearched table program × HasManyOpenTags table (IsLoosePage program) (IsPageImage program) goal count height
  IsAnswerBy goal table program limit (Answer.Items count) = (ITEM_LIMIT < count) × HasManyItems first steps table program count

-- every run of the program, for every admitted request and every number of units, that ends prints a page that is good
abbrev pub RunsAreGood : Goal → Table → PlainProgram → Type 0
RunsAreGood goal table program = (request : PlainRequest) (units : ℕ)
    → Admitted request → (meaning program request units).end ≡ Ended → IsGood goal table (meaning program request units).printed

-- what an answer says of the program's runs: a yes, that they are good
abbrev pub SaysOfRuns : Goal → Table → PlainProgram → Answer → Type 0
SaysOfRuns goal table program Answer.Yes = RunsAreGood goal table program
SaysOfRuns goal table program _ = ⊤
