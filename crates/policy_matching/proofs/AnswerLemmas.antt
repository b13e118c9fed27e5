-- What the reader tells of texts, and the answers by it.
use Rattle.std.proofs.Common.{◌≡◌, ◌<◌, ◌≤◌, ℕ, Bool, true, false, List, [], ◌∷◌, length, Option, Some, None, IfSome, IfNone, refl, sym, ◌∙◌, ap, subst, true≢false}
use Rattle.std.specs.List.{All, list_all}
use Rattle.std.proofs.lemmas.List.Elements.{All-head, All-tail}
use Rattle.text_base.specs.declared.letter.Letter.{Letter}
use Rattle.text_base.specs.declared.page_token.PageToken.{PageToken}
use Rattle.cfg_grammar.specs.declared.grammar.Grammar.{Grammar}
use Rattle.derivations.specs.declared.derivation.Derivation.{Derivation}
use Rattle.derivatives.specs.Expressions.{Expr, Matches}
use Rattle.derivatives.specs.Derivatives.{may_end, after, after_all}
use Rattle.derivatives.proofs.Ends.{empty_matched, ends_empty}
use Rattle.derivatives.proofs.Living.{is_derivative_by_all}
use Rattle.derivatives.proofs.NormalForms.{ends_there}
use Rattle.tag_sums.specs.Nesting.{nest_of, is_balanced, nest_count}
use Rattle.summary_decision.specs.Pairs.{tokens_in}
use Rattle.fst_core.specs.Items.{HasItems}
use Rattle.fst_core.proofs.Over.{has_items_over}
use Rattle.grammar_image.specs.declared.refusal.ImageRefusal.{ImageRefusal}
use Rattle.grammar_image.specs.declared.refusal.ImageRefusal.TheVariants.{Large, Memory}
use Rattle.grammar_image.specs.Refusals.{IsCause}
use Rattle.byte_readers.specs.Reading.{tokens_over}
use Rattle.echoing_machine.specs.Echoes.{EchoStep, EchoEnd, echo_of, IsEcho}
use Rattle.echoing_machine.proofs.EchoLemmas.{is_echo}
use Rattle.page_decision.specs.Echoes.{IsEchoing, PutsTokens}
use Rattle.page_decision.specs.Machines.{is_no_tag, PutsNoTags}
use Rattle.page_decision.specs.TextVerdicts.{IsDerivationOf, IsNotWhole, NoneFound}
use Rattle.page_decision.proofs.FoundLemmas.{all_nested}
use Rattle.policy_matching.specs.declared.rows.Row.{Row}
use Rattle.policy_matching.specs.Rows.{state_behind, told, told_at}
use Rattle.policy_matching.specs.Outside.{IsOutside}
use Rattle.policy_matching.specs.Matching.{IsTextOf, IsMiss, DerivativeStep}

-- the derivative by a text may end exactly where the text matches
ends_matched : (e : Expr) (text : List ℕ) → may_end (after_all text e) ≡ true → Matches e text
ends_matched e text h = (is_derivative_by_all e text [] text (ends_there text)).0 (empty_matched (after_all text e) h)

matched_ends : (e : Expr) (text : List ℕ) → Matches e text → may_end (after_all text e) ≡ true
matched_ends e text m = ends_empty (after_all text e) ((is_derivative_by_all e text [] text (ends_there text)).1 m)

balanced : (b : Bool) → is_balanced (nest_of (told b)) ≡ b
balanced true = refl
balanced false = refl

no_tag : (b : Bool) → list_all is_no_tag (told b) ≡ true
no_tag true = refl
no_tag false = refl

-- nothing is put out at a byte
abbrev pub no_puts : ℕ → ℕ → List PageToken
no_puts s b = []

module _ (rows : List Row) where
  -- what the machine of the reader puts out
  abbrev pub Puts : List ℕ → List PageToken → Type 0
  Puts = PutsTokens 0 (EchoStep (state_behind rows) no_puts (told_at rows)) (EchoEnd (state_behind rows) no_puts (told_at rows))

  law : IsEcho (state_behind rows) no_puts (told_at rows) 0
  law = is_echo (state_behind rows) no_puts (told_at rows) 0

  pub echoing : IsEchoing 0 (EchoStep (state_behind rows) no_puts (told_at rows)) (EchoEnd (state_behind rows) no_puts (told_at rows))
  echoing = record {
    copies = law.copies;
    adds_none = law.adds_none;
    total = λ text bytes. (echo_of (state_behind rows) no_puts (told_at rows) 0 text, (law.only text (echo_of (state_behind rows) no_puts (told_at rows) 0 text)).1 refl);
  }

  module _ (e : Expr) (is : IsOutside e rows) where
    told_over : (s : ℕ) (text : List ℕ) → s < length rows → All (λ (b : ℕ). b < 256) text
        → tokens_over (state_behind rows) no_puts (told_at rows) s text ≡ told (may_end (after_all text (is.stands s)))
    told_over s [] l bytes = is.ends s l
    told_over s (b ∷ bs) l bytes =
        let small : b < 256 = All-head (λ (c : ℕ). c < 256) b bs bytes in
        told_over (state_behind rows s b) bs (is.within s b l) (All-tail (λ (c : ℕ). c < 256) b bs bytes)
        ∙ ap (λ (d : Expr). told (may_end (after_all bs d))) (is.next s b l small)

    puts_told : (text : List ℕ) (tokens : List PageToken) → All (λ (b : ℕ). b < 256) text → Puts text tokens → tokens ≡ told (may_end (after_all text e))
    puts_told text tokens bytes put =
        sym put.2
        ∙ (ap tokens_in ((law.only text put.0).0 put.1)
        ∙ (law.tokens text ∙ (told_over 0 text is.some bytes ∙ ap (λ (d : Expr). told (may_end (after_all text d))) is.first)))

    module _ (grammar : Grammar) (fits : (text : List ℕ) → IsTextOf grammar text → All (λ (b : ℕ). b < 256) text) where
      no_tags : PutsNoTags (IsTextOf grammar) Puts
      no_tags text tokens there put = ap (list_all is_no_tag) (puts_told text tokens (fits text there) put) ∙ no_tag (may_end (after_all text e))

      sum_told : (text : List ℕ) (tokens : List PageToken) → IsTextOf grammar text → Puts text tokens → is_balanced (nest_of tokens) ≡ may_end (after_all text e)
      sum_told text tokens there put =
          ap (λ (ts : List PageToken). is_balanced (nest_of ts)) (puts_told text tokens (fits text there) put) ∙ balanced (may_end (after_all text e))

      is_miss : (d : Derivation) → IsNotWhole (IsTextOf grammar) Puts nest_of is_balanced (IsDerivationOf grammar) d → IsMiss e grammar d
      is_miss d h = record {
        text = h.text;
        is_text = h.is_text;
        derives = h.derives;
        misses = λ m. true≢false (sym (matched_ends e h.text m) ∙ (sym (sum_told h.text h.not_whole.tokens h.is_text h.not_whole.has) ∙ h.not_whole.sum));
      }

      all_match : (IsImage : Grammar → Type 0) (limit : ℕ) → 2 ≤ limit → NoneFound (IsTextOf grammar) Puts nest_of is_balanced IsImage nest_count limit
          → (text : List ℕ) → IsTextOf grammar text → Matches e text
      all_match IsImage limit two none text there =
          let h = all_nested (IsTextOf grammar) Puts no_tags IsImage limit two none text there in
          ends_matched e text (sym (sum_told text h.tokens there h.has) ∙ h.sum)

      has_items : (count : ℕ) → HasItems grammar.productions.items (EchoStep (state_behind rows) no_puts (told_at rows)) grammar.start 0 count
          → HasItems grammar.productions.items DerivativeStep grammar.start e count
      has_items =
          has_items_over grammar.productions.items (EchoStep (state_behind rows) no_puts (told_at rows)) DerivativeStep
          (λ s d. (s < length rows) × (is.stands s ≡ d)) over grammar.start 0 e (is.some, is.first)
          (λ s u d x y. is.one s u x.0 y.0 (x.1 ∙ sym y.1))
        where
          over : (s b u : ℕ) (letters : List Letter) (d : Expr) → EchoStep (state_behind rows) no_puts (told_at rows) s b u letters → (s < length rows) × (is.stands s ≡ d)
              → (f : Expr) × ((u < length rows) × (is.stands u ≡ f)) × DerivativeStep d b f letters
          over s b u letters d step h = (
            is.stands u,
            (subst (λ (n : ℕ). n < length rows) (sym step.0) (is.within s b h.0), refl),
            (λ small. ap is.stands step.0 ∙ (is.next s b h.0 small ∙ ap (after b) h.1), step.1),
          )

      -- The same by what is found.

      pub some_miss : (o : Option Derivation) (d : Derivation) → o ≡ Some d → IfSome o (IsNotWhole (IsTextOf grammar) Puts nest_of is_balanced (IsDerivationOf grammar))
          → IsMiss e grammar d
      some_miss (Some x) d at h = let same : x ≡ d = cc in is_miss d (subst (IsNotWhole (IsTextOf grammar) Puts nest_of is_balanced (IsDerivationOf grammar)) same h)
      some_miss None d at h = cc

      pub none_missed : (o : Option Derivation) → o ≡ None → (IsImage : Grammar → Type 0) (limit : ℕ) → 2 ≤ limit
          → IfNone o (NoneFound (IsTextOf grammar) Puts nest_of is_balanced IsImage nest_count limit) → (text : List ℕ) → IsTextOf grammar text → Matches e text
      none_missed None at IsImage limit two h = all_match IsImage limit two h
      none_missed (Some x) at IsImage limit two h = cc

      pub large_items : (refusal : ImageRefusal) (limit count : ℕ) → refusal ≡ Large count
          → IsCause grammar.productions.items (EchoStep (state_behind rows) no_puts (told_at rows)) grammar.start 0 limit refusal
          → (limit < count) × HasItems grammar.productions.items DerivativeStep grammar.start e count
      large_items (Large items) limit count at h = let same : items ≡ count = cc in subst (λ (n : ℕ). (limit < n) × HasItems grammar.productions.items DerivativeStep grammar.start e n) same (h.0, has_items items h.1)
      large_items Memory limit count at h = cc
