-- What an answer on a grammar says. The limit on unmatched tags is this project's own.
use Rattle.std.specs.Prelude.{◌≡◌, ℕ, ◌<◌, Bool, false, List}
use Rattle.text_base.specs.declared.letter.Letter.{Letter}
use Rattle.text_base.specs.declared.page_token.PageToken.{PageToken}
use Rattle.text_base.specs.declared.numbers.Nt as nt
use Rattle.cfg_grammar.specs.declared.production.Production.{Production}
use Rattle.derivations.specs.Stands.{IsDerivation}
use Rattle.summary_decision.specs.declared.verdict.Verdict.{Verdict}
use Rattle.summary_decision.specs.declared.verdict.Verdict.TheVariants.{Yes, No, Pairs, Tags}
use Rattle.summary_decision.specs.declared.verdict.TheConstants.{TAG_LIMIT}
use Rattle.summary_decision.specs.Pairs.{tokens_in, IsPair, HasPairs, AreWholeBelow, AreWhole}

module _ {S : Type 0} (sum_of : List PageToken → S) (whole : S → Bool) (tags : S → ℕ) (productions : List Production) (start : nt.Nt)
    (limit : ℕ) where
  -- yes: every sentence is whole; no: a derivation of one that is not; a limit that is passed, with every sentence of a
  -- smaller height whole
  abbrev pub IsVerdict : Verdict → Type 0
  IsVerdict Yes = AreWhole sum_of whole productions start
  IsVerdict (No d) = (w : List Letter) × IsDerivation productions d.nodes.nodes.items start w × (whole (sum_of (tokens_in w)) ≡ false)
  IsVerdict (Pairs count height) =
      (limit < count) × HasPairs sum_of productions start height count × AreWholeBelow sum_of whole productions start height
  IsVerdict (Tags count height) =
      (TAG_LIMIT < count) × ((a : nt.Nt) × (s : S) × IsPair sum_of productions start height a s × (tags s ≡ count))
      × AreWholeBelow sum_of whole productions start height
