-- An answer on texts is one on the same texts said otherwise, and of wider tokens of these.
use Rattle.std.proofs.Common.{◌↔◌, ℕ, Bool, true, false, List}
use Rattle.text_base.specs.declared.page_token.PageToken.{PageToken}
use Rattle.text_base.specs.declared.numbers.Nt as nt
use Rattle.cfg_grammar.specs.declared.production.Production.{Production}
use Rattle.cfg_grammar.specs.declared.grammar.Grammar.{Grammar}
use Rattle.derivations.specs.declared.derivation.Derivation.{Derivation}
use Rattle.summary_decision.specs.declared.verdict.Verdict.{Verdict}
use Rattle.summary_decision.specs.declared.verdict.Verdict.TheVariants.{Yes, No, Pairs, Tags}
use Rattle.page_decision.specs.Echoes.{EchoTexts}
use Rattle.page_decision.specs.TextVerdicts.{HasSum, IsNotWhole, HasManySums, HasManyTags, IsTextVerdict}

module _ (IsText Other : List ℕ → Type 0) (Puts Has : List ℕ → List PageToken → Type 0) (same : (text : List ℕ) → IsText text ↔ Other text)
    (wider : (text : List ℕ) (tokens : List PageToken) → IsText text → Puts text tokens → Has text tokens) where
  pub echo_along : (productions : List Production) (start : nt.Nt) → EchoTexts IsText Puts productions start → EchoTexts Other Has productions start
  echo_along productions start echo = record {
    texts = λ letters derived. (same _).0 (echo.texts letters derived);
    tokens = λ letters derived. wider _ _ (echo.texts letters derived) (echo.tokens letters derived);
    sentences = λ text is. echo.sentences text ((same text).1 is);
  }

  module _ {S : Type 0} (sum_of : List PageToken → S) (whole : S → Bool) where
    pub sum_along : (text : List ℕ) (is : Bool) → IsText text → HasSum IsText Puts sum_of whole text is → HasSum Other Has sum_of whole text is
    sum_along text is of_these h = record { tokens = h.tokens; has = wider text h.tokens of_these h.has; sum = h.sum }

    pub not_whole_along : (Derives : Derivation → List ℕ → Type 0) (d : Derivation) → IsNotWhole IsText Puts sum_of whole Derives d → IsNotWhole Other Has sum_of whole Derives d
    not_whole_along Derives d h = record { text = h.text; is_text = (same h.text).0 h.is_text; not_whole = sum_along h.text false h.is_text h.not_whole; derives = h.derives }

    module _ (IsImage Wider : Grammar → Type 0) (of_image : (image : Grammar) → IsImage image → Wider image) where
      pub sums_along : (limit count height : ℕ) → HasManySums IsText Puts sum_of whole IsImage limit count height → HasManySums Other Has sum_of whole Wider limit count height
      sums_along limit count height h = record {
        image = h.image;
        is_image = of_image h.image h.is_image;
        echo = echo_along h.image.productions.items h.image.start h.echo;
        over = h.over;
        sums = h.sums;
        whole_below = h.whole_below;
      }

      pub tags_along : (tags : S → ℕ) (count height : ℕ) → HasManyTags IsText Puts sum_of whole IsImage tags count height → HasManyTags Other Has sum_of whole Wider tags count height
      tags_along tags count height h = record {
        image = h.image;
        is_image = of_image h.image h.is_image;
        echo = echo_along h.image.productions.items h.image.start h.echo;
        over = h.over;
        nonterminal = h.nonterminal;
        sum = h.sum;
        of_sentence = h.of_sentence;
        tagged = h.tagged;
        whole_below = h.whole_below;
      }

      pub verdict_along : (Derives : Derivation → List ℕ → Type 0) (tags : S → ℕ) (limit : ℕ) (v : Verdict) → IsTextVerdict IsText Puts sum_of whole IsImage Derives tags limit v
          → IsTextVerdict Other Has sum_of whole Wider Derives tags limit v
      verdict_along Derives tags limit Yes all = λ text is. sum_along text true ((same text).1 is) (all text ((same text).1 is))
      verdict_along Derives tags limit (No d) h = not_whole_along Derives d h
      verdict_along Derives tags limit (Pairs count height) h = sums_along limit count height h
      verdict_along Derives tags limit (Tags count height) h = tags_along tags count height h
