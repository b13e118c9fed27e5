-- What an answer on the shortest sentence of a grammar says. The limit on unmatched tags is this project's own.
use Rattle.std.specs.Prelude.{◌≡◌, ℕ, ◌<◌, Bool, false, List, min}
use Rattle.text_base.specs.declared.letter.Letter.{Letter}
use Rattle.text_base.specs.declared.page_token.PageToken.{PageToken}
use Rattle.text_base.specs.declared.numbers.Nt as nt
use Rattle.cfg_grammar.specs.declared.production.Production.{Production}
use Rattle.derivations.specs.Nodes.{most}
use Rattle.derivations.specs.Lawful.{byte_count}
use Rattle.derivations.specs.Stands.{IsDerivation}
use Rattle.derivations.specs.declared.derivation.Derivation.{Derivation}
use Rattle.summary_decision.specs.declared.verdict.TheConstants.{TAG_LIMIT}
use Rattle.summary_decision.specs.Pairs.{tokens_in, AreWhole}
use Rattle.short_sentences.specs.declared.answer.ShortAnswer.{ShortAnswer}
use Rattle.short_sentences.specs.declared.answer.ShortAnswer.TheVariants.{Whole, Shortest, Pairs, Tags}
use Rattle.short_sentences.specs.ShortPairs.{IsShortPair, HasShortPairs, AreShorterWhole}

module _ {S : Type 0} (sum_of : List PageToken → S) (whole : S → Bool) (tags : S → ℕ) (productions : List Production) (start : nt.Nt)
    (limit : ℕ) where
  -- the derivation is one of a sentence that is not whole, and each sentence that has fewer bytes than that one, and fewer than the largest
  -- u64, is whole
  pub record IsShortest (derivation : Derivation) : Type 0 where
    pub sentence : List Letter
    pub derives : IsDerivation productions derivation.nodes.nodes.items start sentence
    pub not_whole : whole (sum_of (tokens_in sentence)) ≡ false
    pub shortest : AreShorterWhole sum_of whole productions start (min (byte_count sentence) most)

  -- every sentence is whole; a shortest one that is not; a limit that is passed by sentences within a length, with every shorter sentence
  -- whole
  abbrev pub IsShortAnswer : ShortAnswer → Type 0
  IsShortAnswer Whole = AreWhole sum_of whole productions start
  IsShortAnswer (Shortest derivation) = IsShortest derivation
  IsShortAnswer (Pairs count l) =
      (limit < count) × HasShortPairs sum_of productions start l count × AreShorterWhole sum_of whole productions start l
  IsShortAnswer (Tags count l) =
      (TAG_LIMIT < count) × ((a : nt.Nt) × (s : S) × IsShortPair sum_of productions start l a s × (tags s ≡ count))
      × AreShorterWhole sum_of whole productions start l
