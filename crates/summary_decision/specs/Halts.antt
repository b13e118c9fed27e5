-- Why the work on pairs stops before all are found.
use Rattle.std.specs.Prelude.{◌≡◌, ℕ, ◌+◌, ◌<◌, Bool, true, false, List}
use Rattle.text_base.specs.declared.letter.Letter.{Letter}
use Rattle.text_base.specs.declared.page_token.PageToken.{PageToken}
use Rattle.text_base.specs.declared.numbers.Nt as nt
use Rattle.cfg_grammar.specs.declared.production.Production.{Production}
use Rattle.derivations.specs.declared.node.Node.{Node}
use Rattle.derivations.specs.Stands.{IsDerivation}
use Rattle.summary_decision.specs.declared.halt.Halt.{Halt}
use Rattle.summary_decision.specs.declared.halt.Halt.TheVariants.{Memory, NotWhole, TooMany, TooLong}
use Rattle.summary_decision.specs.declared.verdict.TheConstants.{TAG_LIMIT}
use Rattle.summary_decision.specs.Pairs.{tokens_in, IsPair, HasPairs, AreWholeBelow}

module _ {S : Type 0} (sum_of : List PageToken → S) (whole : S → Bool) (tags : S → ℕ) (productions : List Production) (start : nt.Nt)
    (limit : ℕ) where
  -- the last node is a derivation of a sentence that is not whole; or a limit is passed one above a height
  abbrev pub Explains : List Node → ℕ → Halt → Type 0
  Explains nodes k Memory = Unit {0}
  Explains nodes k NotWhole = (w : List Letter) × IsDerivation productions nodes start w × (whole (sum_of (tokens_in w)) ≡ false)
  Explains nodes k (TooMany count) =
      (limit < count) × HasPairs sum_of productions start (k + 1) count × AreWholeBelow sum_of whole productions start (k + 1)
  Explains nodes k (TooLong count) =
      (TAG_LIMIT < count) × ((a : nt.Nt) × (s : S) × IsPair sum_of productions start (k + 1) a s × (tags s ≡ count))
      × AreWholeBelow sum_of whole productions start (k + 1)

-- what ends the work once a pair is added: it is of the start and not whole, or a limit is passed
abbrev pub Judges : Bool → ℕ → ℕ → ℕ → Halt → Type 0
Judges wrong tags count limit Memory = ⊥
Judges wrong tags count limit NotWhole = wrong ≡ true
Judges wrong tags count limit (TooMany n) = (wrong ≡ false) × (n ≡ count) × (limit < n)
Judges wrong tags count limit (TooLong n) = (wrong ≡ false) × (n ≡ tags) × (TAG_LIMIT < n)
