-- Why the work stops before all pairs are taken up.
use Rattle.std.specs.Prelude.{◌≡◌, ℕ, ◌<◌, Bool, false, List, min}
use Rattle.text_base.specs.declared.letter.Letter.{Letter}
use Rattle.text_base.specs.declared.page_token.PageToken.{PageToken}
use Rattle.text_base.specs.declared.numbers.Nt as nt
use Rattle.cfg_grammar.specs.declared.production.Production.{Production}
use Rattle.derivations.specs.declared.node.Node.{Node}
use Rattle.derivations.specs.Nodes.{most}
use Rattle.derivations.specs.Lawful.{byte_count}
use Rattle.derivations.specs.Stands.{IsDerivation}
use Rattle.summary_decision.specs.declared.halt.Halt.{Halt}
use Rattle.summary_decision.specs.declared.halt.Halt.TheVariants.{Memory, NotWhole, TooMany, TooLong}
use Rattle.summary_decision.specs.declared.verdict.TheConstants.{TAG_LIMIT}
use Rattle.summary_decision.specs.Pairs.{tokens_in}
use Rattle.short_sentences.specs.ShortPairs.{IsShortPair, HasShortPairs, AreShorterWhole}

module _ {S : Type 0} (sum_of : List PageToken → S) (whole : S → Bool) (tags : S → ℕ) (productions : List Production) (start : nt.Nt)
    (limit : ℕ) where
  -- the last node is a derivation of a shortest sentence that is not whole; or a limit is passed by sentences within a length
  abbrev pub Explains : List Node → ℕ → Halt → Type 0
  Explains nodes l Memory = Unit {0}
  Explains nodes l NotWhole = (w : List Letter) × IsDerivation productions nodes start w × (whole (sum_of (tokens_in w)) ≡ false)
      × AreShorterWhole sum_of whole productions start (min (byte_count w) most)
  Explains nodes l (TooMany count) =
      (limit < count) × HasShortPairs sum_of productions start l count × AreShorterWhole sum_of whole productions start l
  Explains nodes l (TooLong count) =
      (TAG_LIMIT < count) × ((a : nt.Nt) × (s : S) × IsShortPair sum_of productions start l a s × (tags s ≡ count))
      × AreShorterWhole sum_of whole productions start l
