-- What an answer on the shortest text of a grammar says, by a summary of the tokens that a machine puts between its bytes.
use Rattle.std.specs.Prelude.{◌≡◌, ℕ, ◌<◌, Bool, true, false, List, length}
use Rattle.text_base.specs.declared.page_token.PageToken.{PageToken}
use Rattle.text_base.specs.declared.numbers.Nt as nt
use Rattle.cfg_grammar.specs.declared.grammar.Grammar.{Grammar}
use Rattle.derivations.specs.Nodes.{most}
use Rattle.derivations.specs.declared.derivation.Derivation.{Derivation}
use Rattle.page_decision.specs.TextVerdicts.{HasSum}
use Rattle.summary_decision.specs.declared.verdict.TheConstants.{TAG_LIMIT}
use Rattle.short_sentences.specs.declared.answer.ShortAnswer.{ShortAnswer}
use Rattle.short_sentences.specs.declared.answer.ShortAnswer.TheVariants.{Whole, Shortest, Pairs, Tags}
use Rattle.short_sentences.specs.ShortPairs.{IsShortPair, HasShortPairs}

module _ (IsText : List ℕ → Type 0) (HasTokens : List ℕ → List PageToken → Type 0) {S : Type 0} (sum_of : List PageToken → S)
    (whole : S → Bool) where
  -- the text is whole: it has tokens whose sum is whole, and no others
  pub record IsWholeText (text : List ℕ) : Type 0 where
    pub has : HasSum IsText HasTokens sum_of whole text true
    pub only : HasSum IsText HasTokens sum_of whole text false → ⊥

  -- each text of fewer bytes is whole
  abbrev pub AreShorterWhole : ℕ → Type 0
  AreShorterWhole l = (text : List ℕ) → IsText text → length text < l → IsWholeText text

  -- the derivation is one of a text that is not whole, and each text that has fewer bytes than that one, and fewer than the largest u64, is
  -- whole
  pub record IsShortestText (Derives : Derivation → List ℕ → Type 0) (derivation : Derivation) : Type 0 where
    pub text : List ℕ
    pub is_text : IsText text
    pub not_whole : HasSum IsText HasTokens sum_of whole text false
    pub derives : Derives derivation text
    pub shortest : (other : List ℕ) → IsText other → length other < length text → length other < most → IsWholeText other

  -- over the images that are made
  module _ (IsImage : Grammar → Type 0) where
    -- a nonterminal of such an image has so many different sums of sentences within a length, over the limit, and each shorter text is
    -- whole
    pub record HasManyShortSums (limit count l : ℕ) : Type 0 where
      pub image : Grammar
      pub is_image : IsImage image
      pub over : limit < count
      pub sums : HasShortPairs sum_of image.productions.items image.start l count
      pub whole_below : AreShorterWhole l

    -- the sum of a sentence within a length has so many unmatched tags, over the limit, and each shorter text is whole
    pub record HasManyShortTags (tags : S → ℕ) (count l : ℕ) : Type 0 where
      pub image : Grammar
      pub is_image : IsImage image
      pub over : TAG_LIMIT < count
      pub nonterminal : nt.Nt
      pub sum : S
      pub of_sentence : IsShortPair sum_of image.productions.items image.start l nonterminal sum
      pub tagged : tags sum ≡ count
      pub whole_below : AreShorterWhole l

    -- each text is whole; a shortest one that is not; a limit that is passed
    abbrev pub IsShortTextAnswer : (Derivation → List ℕ → Type 0) → (S → ℕ) → ℕ → ShortAnswer → Type 0
    IsShortTextAnswer Derives tags limit Whole = (text : List ℕ) → IsText text → IsWholeText text
    IsShortTextAnswer Derives tags limit (Shortest derivation) = IsShortestText Derives derivation
    IsShortTextAnswer Derives tags limit (Pairs count l) = HasManyShortSums limit count l
    IsShortTextAnswer Derives tags limit (Tags count l) = HasManyShortTags tags count l
