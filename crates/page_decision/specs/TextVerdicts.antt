-- What an answer says of texts, by a summary of their tokens.
use Rattle.std.specs.Prelude.{◌≡◌, ℕ, ◌<◌, Bool, true, false, List, map, Option, Some, None}
use Rattle.text_base.specs.declared.letter.Letter.TheVariants.{OfByte}
use Rattle.text_base.specs.declared.page_token.PageToken.{PageToken}
use Rattle.text_base.specs.declared.numbers.Nt as nt
use Rattle.cfg_grammar.specs.declared.grammar.Grammar.{Grammar}
use Rattle.derivations.specs.Stands.{IsDerivation}
use Rattle.derivations.specs.declared.derivation.Derivation.{Derivation}
use Rattle.summary_decision.specs.declared.verdict.Verdict.{Verdict}
use Rattle.summary_decision.specs.declared.verdict.Verdict.TheVariants.{Yes, No, Pairs, Tags}
use Rattle.summary_decision.specs.declared.verdict.TheConstants.{TAG_LIMIT}
use Rattle.summary_decision.specs.Pairs.{IsPair, HasPairs, AreWholeBelow}
use Rattle.page_decision.specs.Echoes.{EchoTexts}

-- it is a derivation of the text by the grammar
abbrev pub IsDerivationOf : Grammar → Derivation → List ℕ → Type 0
IsDerivationOf grammar derivation text =
    IsDerivation grammar.productions.items derivation.nodes.nodes.items grammar.start (map OfByte text)

module _ (IsText : List ℕ → Type 0) (HasTokens : List ℕ → List PageToken → Type 0) {S : Type 0} (sum_of : List PageToken → S)
    (whole : S → Bool) where
  -- the text has tokens whose sum is whole, or is not
  pub record HasSum (text : List ℕ) (is_whole : Bool) : Type 0 where
    pub tokens : List PageToken
    pub has : HasTokens text tokens
    pub sum : whole (sum_of tokens) ≡ is_whole

  -- the derivation is one of a text that is not whole
  pub record IsNotWhole (Derives : Derivation → List ℕ → Type 0) (derivation : Derivation) : Type 0 where
    pub text : List ℕ
    pub is_text : IsText text
    pub not_whole : HasSum text false
    pub derives : Derives derivation text

  -- over the images that are made
  module _ (IsImage : Grammar → Type 0) where
    -- a nonterminal of such an image, which derives the texts with their tokens, has so many different sums of sentences of at most a
    -- height, over the limit, and each sentence of a smaller height is whole
    pub record HasManySums (limit count height : ℕ) : Type 0 where
      pub image : Grammar
      pub is_image : IsImage image
      pub echo : EchoTexts IsText HasTokens image.productions.items image.start
      pub over : limit < count
      pub sums : HasPairs sum_of image.productions.items image.start height count
      pub whole_below : AreWholeBelow sum_of whole image.productions.items image.start height

    -- the sum of a sentence of at most a height has so many unmatched tags, over the limit, and each sentence of a smaller height is whole
    pub record HasManyTags (tags : S → ℕ) (count height : ℕ) : Type 0 where
      pub image : Grammar
      pub is_image : IsImage image
      pub echo : EchoTexts IsText HasTokens image.productions.items image.start
      pub over : TAG_LIMIT < count
      pub nonterminal : nt.Nt
      pub sum : S
      pub of_sentence : IsPair sum_of image.productions.items image.start height nonterminal sum
      pub tagged : tags sum ≡ count
      pub whole_below : AreWholeBelow sum_of whole image.productions.items image.start height

    -- yes: each text is whole; no: a derivation of one that is not; a limit that is passed
    abbrev pub IsTextVerdict : (Derivation → List ℕ → Type 0) → (S → ℕ) → ℕ → Verdict → Type 0
    IsTextVerdict Derives tags limit Yes = (text : List ℕ) → IsText text → HasSum text true
    IsTextVerdict Derives tags limit (No derivation) = IsNotWhole Derives derivation
    IsTextVerdict Derives tags limit (Pairs count height) = HasManySums limit count height
    IsTextVerdict Derives tags limit (Tags count height) = HasManyTags tags count height

    -- why no text that is not whole is found: each text is whole, or a limit is passed
    pub data NoneFound (tags : S → ℕ) (limit : ℕ) : Type 0 where
      are_whole : ((text : List ℕ) → IsText text → HasSum text true) → NoneFound tags limit
      many_sums : (count height : ℕ) → HasManySums limit count height → NoneFound tags limit
      many_tags : (count height : ℕ) → HasManyTags tags count height → NoneFound tags limit

-- the derivation that a verdict has
abbrev pub found_of : Verdict → Option Derivation
found_of Yes = None
found_of (No derivation) = Some derivation
found_of (Pairs count height) = None
found_of (Tags count height) = None
