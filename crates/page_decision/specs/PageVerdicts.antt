-- What an answer says of pages.
use Rattle.std.specs.Prelude.{ℕ, true, List}
use Rattle.text_base.specs.declared.page_token.PageToken.{PageToken}
use Rattle.cfg_grammar.specs.declared.grammar.Grammar.{Grammar}
use Rattle.dtd_model.specs.Table.{Table}
use Rattle.content_automata.specs.Tables.{Table as States}
use Rattle.derivations.specs.declared.derivation.Derivation.{Derivation}
use Rattle.page_model.specs.PageTokens.{PageTokens}
use Rattle.page_automata.specs.Whole.{is_whole}
use Rattle.tag_sums.specs.Nesting.{nest_of, is_balanced, nest_count}
use Rattle.tag_sums.specs.Sum.{sum_of, tag_count}
use Rattle.summary_decision.specs.declared.verdict.Verdict.{Verdict}
use Rattle.summary_decision.specs.declared.verdict.Verdict.TheVariants.{Yes, No, Pairs, Tags}
use Rattle.page_decision.specs.declared.goal.Goal.{Goal}
use Rattle.page_decision.specs.Goals.{IsGood}
use Rattle.page_decision.specs.Telling.{AreStatesOf, automaton_over}
use Rattle.page_decision.specs.TextVerdicts.{HasSum, HasManySums, HasManyTags}

module _ (table : Table) (IsPage : List ℕ → Type 0) where
  -- it is a derivation of one of the pages, which is not good
  pub record IsBadPage (Derives : Derivation → List ℕ → Type 0) (goal : Goal) (derivation : Derivation) : Type 0 where
    pub page : List ℕ
    pub is_page : IsPage page
    pub bad : IsGood goal table page → ⊥
    pub derives : Derives derivation page

  -- over the images of the pages that are made
  module _ (IsImage : Grammar → Type 0) where
    -- in such an image, which derives the pages with their tokens, a nonterminal has so many different sums of sentences of at most the
    -- height, over the limit, and each page with a sentence of a smaller height is good by its sum
    abbrev pub HasManyPairs : Goal → ℕ → ℕ → ℕ → Type 0
    HasManyPairs Goal.Valid limit count height = (states : States) × AreStatesOf table states
        × HasManySums IsPage (PageTokens table) (sum_of (automaton_over table states))
        (is_whole (automaton_over table states)) IsImage limit count height
    HasManyPairs Goal.Nested limit count height = HasManySums IsPage (PageTokens table) nest_of is_balanced IsImage limit count height

    -- there, the sum of a sentence of at most the height has so many unmatched tags, over the limit on these, and the same
    abbrev pub HasManyOpenTags : Goal → ℕ → ℕ → Type 0
    HasManyOpenTags Goal.Valid count height = (states : States) × AreStatesOf table states
        × HasManyTags IsPage (PageTokens table) (sum_of (automaton_over table states))
        (is_whole (automaton_over table states)) IsImage tag_count count height
    HasManyOpenTags Goal.Nested count height = HasManyTags IsPage (PageTokens table) nest_of is_balanced IsImage nest_count count height

    -- yes: each page is good; no: a derivation of one that is not; a limit that is passed
    abbrev pub IsPageVerdict : (Derivation → List ℕ → Type 0) → Goal → ℕ → Verdict → Type 0
    IsPageVerdict Derives goal limit Yes = (page : List ℕ) → IsPage page → IsGood goal table page
    IsPageVerdict Derives goal limit (No derivation) = IsBadPage Derives goal derivation
    IsPageVerdict Derives goal limit (Pairs count height) = HasManyPairs goal limit count height
    IsPageVerdict Derives goal limit (Tags count height) = HasManyOpenTags goal count height

-- each page has tokens that are nested
abbrev pub AreAllNested : (List ℕ → Type 0) → (List ℕ → List PageToken → Type 0) → Type 0
AreAllNested IsPage HasTokens = (page : List ℕ) → IsPage page → HasSum IsPage HasTokens nest_of is_balanced page true
