-- What an answer on the shortest page of a grammar says.
use Rattle.std.specs.Prelude.{◌≡◌, ℕ, ◌<◌, List, length}
use Rattle.text_base.specs.declared.page_token.PageToken.{PageToken}
use Rattle.text_base.specs.declared.numbers.Nt as nt
use Rattle.cfg_grammar.specs.declared.grammar.Grammar.{Grammar}
use Rattle.dtd_model.specs.Table.{Table}
use Rattle.content_automata.specs.Tables.{Table as States}
use Rattle.derivations.specs.Nodes.{most}
use Rattle.derivations.specs.declared.derivation.Derivation.{Derivation}
use Rattle.tag_sums.specs.Nesting.{nest_of, nest_count}
use Rattle.tag_sums.specs.Sum.{sum_of, tag_count}
use Rattle.summary_decision.specs.declared.verdict.TheConstants.{TAG_LIMIT}
use Rattle.page_decision.specs.declared.goal.Goal.{Goal}
use Rattle.page_decision.specs.Goals.{IsGood}
use Rattle.page_decision.specs.Telling.{AreStatesOf, automaton_over}
use Rattle.short_sentences.specs.declared.answer.ShortAnswer.{ShortAnswer}
use Rattle.short_sentences.specs.declared.answer.ShortAnswer.TheVariants.{Whole, Shortest, Pairs, Tags}
use Rattle.short_sentences.specs.ShortPairs.{IsShortPair, HasShortPairs}

module _ (table : Table) (IsPage : List ℕ → Type 0) where
  -- each page of fewer bytes is good
  abbrev pub AreShorterGood : Goal → ℕ → Type 0
  AreShorterGood goal l = (page : List ℕ) → IsPage page → length page < l → IsGood goal table page

  -- it is a derivation of one of the pages, which is not good, and each page that has fewer bytes than that one, and fewer than the largest
  -- u64, is good
  pub record IsShortestBad (Derives : Derivation → List ℕ → Type 0) (goal : Goal) (derivation : Derivation) : Type 0 where
    pub page : List ℕ
    pub is_page : IsPage page
    pub bad : IsGood goal table page → ⊥
    pub derives : Derives derivation page
    pub shortest : (other : List ℕ) → IsPage other → length other < length page → length other < most → IsGood goal table other

  -- over the images of the pages that are made
  module _ (IsImage : Grammar → Type 0) where
    -- a nonterminal of such an image has so many different sums of sentences within a length, over the limit, and each shorter page is good
    pub record HasShortSums {S : Type 0} (sum_by : List PageToken → S) (goal : Goal) (limit count l : ℕ) : Type 0 where
      pub image : Grammar
      pub is_image : IsImage image
      pub over : limit < count
      pub sums : HasShortPairs sum_by image.productions.items image.start l count
      pub good_below : AreShorterGood goal l

    -- the sum of a sentence within a length has so many unmatched tags, over the limit, and each shorter page is good
    pub record HasShortTags {S : Type 0} (sum_by : List PageToken → S) (tags : S → ℕ) (goal : Goal) (count l : ℕ) : Type 0 where
      pub image : Grammar
      pub is_image : IsImage image
      pub over : TAG_LIMIT < count
      pub nonterminal : nt.Nt
      pub sum : S
      pub of_sentence : IsShortPair sum_by image.productions.items image.start l nonterminal sum
      pub tagged : tags sum ≡ count
      pub good_below : AreShorterGood goal l

    -- the same by the sums of the goal
    abbrev pub HasManyShortSums : Goal → ℕ → ℕ → ℕ → Type 0
    HasManyShortSums Goal.Valid limit count l =
        (states : States) × AreStatesOf table states × HasShortSums (sum_of (automaton_over table states)) Goal.Valid limit count l
    HasManyShortSums Goal.Nested limit count l = HasShortSums nest_of Goal.Nested limit count l

    abbrev pub HasManyShortTags : Goal → ℕ → ℕ → Type 0
    HasManyShortTags Goal.Valid count l =
        (states : States) × AreStatesOf table states × HasShortTags (sum_of (automaton_over table states)) tag_count Goal.Valid count l
    HasManyShortTags Goal.Nested count l = HasShortTags nest_of nest_count Goal.Nested count l

    -- each page is good; a shortest one that is not; a limit that is passed
    abbrev pub IsShortPageAnswer : (Derivation → List ℕ → Type 0) → Goal → ℕ → ShortAnswer → Type 0
    IsShortPageAnswer Derives goal limit Whole = (page : List ℕ) → IsPage page → IsGood goal table page
    IsShortPageAnswer Derives goal limit (Shortest derivation) = IsShortestBad Derives goal derivation
    IsShortPageAnswer Derives goal limit (Pairs count l) = HasManyShortSums goal limit count l
    IsShortPageAnswer Derives goal limit (Tags count l) = HasManyShortTags goal count l
