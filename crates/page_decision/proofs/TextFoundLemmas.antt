-- What is found by a verdict, and what it says that nothing is.
use Rattle.std.proofs.Common.{ℕ, Bool, List, IfNone, IfSome}
use Rattle.text_base.specs.declared.page_token.PageToken.{PageToken}
use Rattle.cfg_grammar.specs.declared.grammar.Grammar.{Grammar}
use Rattle.derivations.specs.declared.derivation.Derivation.{Derivation}
use Rattle.summary_decision.specs.declared.verdict.Verdict.{Verdict}
use Rattle.summary_decision.specs.declared.verdict.Verdict.TheVariants.{Yes, No, Pairs, Tags}
use Rattle.page_decision.specs.TextVerdicts.{IsNotWhole, IsTextVerdict, NoneFound, are_whole, many_sums, many_tags, found_of}

module _ (IsText : List ℕ → Type 0) (HasTokens : List ℕ → List PageToken → Type 0) {S : Type 0} (sum_of : List PageToken → S) (whole : S → Bool)
    (IsImage : Grammar → Type 0) (Derives : Derivation → List ℕ → Type 0) (tags : S → ℕ) (limit : ℕ) where
  pub some_found : (v : Verdict) → IsTextVerdict IsText HasTokens sum_of whole IsImage Derives tags limit v → IfSome (found_of v) (IsNotWhole IsText HasTokens sum_of whole Derives)
  some_found Yes h = tt
  some_found (No d) h = h
  some_found (Pairs count height) h = tt
  some_found (Tags count height) h = tt

  pub none_found : (v : Verdict) → IsTextVerdict IsText HasTokens sum_of whole IsImage Derives tags limit v → IfNone (found_of v) (NoneFound IsText HasTokens sum_of whole IsImage tags limit)
  none_found Yes h = are_whole h
  none_found (No d) h = tt
  none_found (Pairs count height) h = many_sums count height h
  none_found (Tags count height) h = many_tags count height h
