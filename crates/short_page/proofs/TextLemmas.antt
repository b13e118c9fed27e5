-- From an answer on an image to an answer on the texts.
use Rattle.std.proofs.Common.{◌≡◌, ℕ, ◌<◌, Bool, true, List, [], ◌∷◌, ◌++◌, length, min, refl, sym, ◌∙◌, ap, subst, arith, append-nil, true≢false}
use Rattle.std.specs.Prelude.{All}
use Rattle.text_base.specs.declared.letter.Letter.{Letter}
use Rattle.text_base.specs.declared.letter.Letter.TheVariants.{OfByte, OfToken}
use Rattle.text_base.specs.declared.page_token.PageToken.{PageToken}
use Rattle.cfg_grammar.specs.declared.symbol.Symbol.TheVariants.{Nt}
use Rattle.cfg_grammar.specs.declared.grammar.Grammar.{Grammar}
use Rattle.cfg_grammar.specs.Derives.{Derives}
use Rattle.derivations.specs.Bytes.{bytes_in}
use Rattle.derivations.specs.Nodes.{most}
use Rattle.derivations.specs.Lawful.{DerivationsDerive, byte_count}
use Rattle.fst_core.specs.Runs.{Runs, Relates}
use Rattle.fst_core.specs.Outputs.{DerivesText}
use Rattle.summary_decision.specs.Pairs.{tokens_in}
use Rattle.page_decision.specs.Echoes.{IsEchoing, PutsTokens, EchoTexts, IsMachineImage}
use Rattle.page_decision.specs.TextVerdicts.{IsDerivationOf}
use Rattle.page_decision.proofs.EchoLemmas.{echo_texts}
use Rattle.short_sentences.specs.declared.answer.ShortAnswer.{ShortAnswer}
use Rattle.short_sentences.specs.declared.answer.ShortAnswer.TheVariants.{Whole, Shortest, Pairs, Tags}
use Rattle.short_sentences.specs.ShortPairs as sentences
use Rattle.short_sentences.specs.ShortAnswers.{IsShortAnswer}
use Rattle.short_page.specs.LedBack.{HasDerived, IsLedBack}
use Rattle.short_page.specs.ShortTexts.{IsWholeText, AreShorterWhole, IsShortTextAnswer}

bytes_append : (v w : List Letter) → bytes_in (v ++ w) ≡ bytes_in v ++ bytes_in w
bytes_append [] w = refl
bytes_append (OfByte b ∷ v) w = ap (λ (bs : List ℕ). b ∷ bs) (bytes_append v w)
bytes_append (OfToken t ∷ v) w = bytes_append v w

-- the number of bytes is the length of the text that they are
byte_length : (w : List Letter) → length (bytes_in w) ≡ byte_count w
byte_length [] = refl
byte_length (OfByte b ∷ w) = let e = byte_length w in omega (arith, e)
byte_length (OfToken t ∷ w) = byte_length w

-- a derivation that is found is one
pub has_derived : {S : Type 0} (sum_of : List PageToken → S) (whole : S → Bool) (tags : S → ℕ) (image : Grammar) (limit : ℕ) (answer : ShortAnswer)
    → IsShortAnswer sum_of whole tags image.productions.items image.start limit answer → HasDerived image answer
has_derived sum_of whole tags image limit Whole h = tt
has_derived sum_of whole tags image limit (Shortest d) h = (h.sentence, h.derives)
has_derived sum_of whole tags image limit (Pairs count l) h = tt
has_derived sum_of whole tags image limit (Tags count l) h = tt

module _ {S : Type 0} (first : S) (steps : S → ℕ → S → List Letter → Type 0) (ends : S → List Letter → Type 0) (echoing : IsEchoing first steps ends) where
  -- what is put out along a text has its bytes
  run_copies : (s u : S) (text : List ℕ) (out : List Letter) → Runs steps s text u out → bytes_in out ≡ text
  run_copies s u [] out (same, none) = ap bytes_in none
  run_copies s u (byte ∷ text) out (t, here, rest, step, run, is) =
      ap bytes_in is ∙ (bytes_append here rest ∙ (ap (λ (bs : List ℕ). bs ++ bytes_in rest) (echoing.copies s t byte here step) ∙ ap (λ (bs : List ℕ). byte ∷ bs) (run_copies t u text rest run)))

  copies : (text : List ℕ) (letters : List Letter) → Relates first steps ends text letters → bytes_in letters ≡ text
  copies text letters (u, out, last, run, ended, is) =
      ap bytes_in is ∙ (bytes_append out last ∙ (ap (λ (bs : List ℕ). bytes_in out ++ bs) (echoing.adds_none u last ended) ∙ (append-nil (bytes_in out) ∙ run_copies first u text out run)))

  module _ (law : DerivationsDerive) {T : Type 0} (sum_of : List PageToken → T) (whole : T → Bool) (tags : T → ℕ) (grammar image : Grammar)
      (fits : (text : List ℕ) → DerivesText grammar.productions.items (Nt grammar.start) text → All (λ byte. byte < 256) text)
      (is : IsMachineImage grammar first steps ends image) where
    abbrev IsText : List ℕ → Type 0
    IsText = DerivesText grammar.productions.items (Nt grammar.start)

    abbrev HasTokens : List ℕ → List PageToken → Type 0
    HasTokens = PutsTokens first steps ends

    echo : EchoTexts IsText HasTokens image.productions.items image.start
    echo = echo_texts grammar.productions.items grammar.start first steps ends echoing fits image.productions.items image.start is.sentences

    -- a text is whole where each sentence of the image of as many bytes is
    whole_text : (text : List ℕ) → IsText text
        → ((w : List Letter) → byte_count w ≡ length text → Derives image.productions.items (Nt image.start) w → whole (sum_of (tokens_in w)) ≡ true)
        → IsWholeText IsText HasTokens sum_of whole text
    whole_text text is_text all = record {
      has =
          let s = echo.sentences text is_text in
          record {
            tokens = tokens_in s.0;
            has = subst (λ (t : List ℕ). HasTokens t (tokens_in s.0)) s.2 (echo.tokens s.0 s.1);
            sum = all s.0 (sym (byte_length s.0) ∙ ap length s.2) s.1;
          };
      only = λ h.
          let letters = h.has.0 in
          let derived = (is.sentences letters).1 (text, is_text, h.has.1) in
          let e = all letters (sym (byte_length letters) ∙ ap length (copies text letters h.has.1)) derived in
          true≢false (sym e ∙ (ap (λ (ts : List PageToken). whole (sum_of ts)) h.has.2 ∙ h.sum));
    }

    shorter_texts : (l : ℕ) → sentences.AreShorterWhole sum_of whole image.productions.items image.start l → AreShorterWhole IsText HasTokens sum_of whole l
    shorter_texts l all text is_text less = whole_text text is_text (λ w same derived. all w (omega (arith, same, less)) derived)

    -- an answer on the image is one on the texts
    pub text_answer : (limit : ℕ) (answer : ShortAnswer) → IsShortAnswer sum_of whole tags image.productions.items image.start limit answer
        → (led : ShortAnswer) → IsLedBack grammar image answer led
        → IsShortTextAnswer IsText HasTokens sum_of whole (IsMachineImage grammar first steps ends) (IsDerivationOf grammar) tags limit led
    text_answer limit Whole all led same =
        subst (IsShortTextAnswer IsText HasTokens sum_of whole (IsMachineImage grammar first steps ends) (IsDerivationOf grammar) tags limit) (sym same)
        (λ text is_text. whole_text text is_text (λ w e derived. all w derived))
    text_answer limit (Shortest d) h led (source, same, back) =
        let derived = law image.productions.items d.nodes.nodes.items image.start h.sentence h.derives in
        subst (IsShortTextAnswer IsText HasTokens sum_of whole (IsMachineImage grammar first steps ends) (IsDerivationOf grammar) tags limit) (sym same) (record {
          text = bytes_in h.sentence;
          is_text = echo.texts h.sentence derived;
          not_whole = record { tokens = tokens_in h.sentence; has = echo.tokens h.sentence derived; sum = h.not_whole };
          derives = back h.sentence h.derives;
          shortest = λ other is_other shorter few.
              let e = byte_length h.sentence in
              shorter_texts (min (byte_count h.sentence) most) h.shortest other is_other (omega (arith, e, shorter, few));
        })
    text_answer limit (Pairs count l) h led same =
        subst (IsShortTextAnswer IsText HasTokens sum_of whole (IsMachineImage grammar first steps ends) (IsDerivationOf grammar) tags limit) (sym same)
        (record { image = image; is_image = is; over = h.0; sums = h.1; whole_below = shorter_texts l h.2 })
    text_answer limit (Tags count l) h led same =
        let p = h.1 in
        subst (IsShortTextAnswer IsText HasTokens sum_of whole (IsMachineImage grammar first steps ends) (IsDerivationOf grammar) tags limit) (sym same)
        (record { image = image; is_image = is; over = h.0; nonterminal = p.0; sum = p.1; of_sentence = p.2; tagged = p.3; whole_below = shorter_texts l h.2 })
