-- From what a machine puts out over the texts of a grammar, and an answer on that, to an answer on the texts.
use Rattle.std.proofs.Common.{◌≡◌, ◌<◌, ◌↔◌, ℕ, Bool, List, [], ◌∷◌, ◌++◌, refl, sym, ◌∙◌, ap, subst, append-nil}
use Rattle.std.specs.Prelude.{All}
use Rattle.text_base.specs.declared.letter.Letter.{Letter}
use Rattle.text_base.specs.declared.letter.Letter.TheVariants.{OfByte, OfToken}
use Rattle.text_base.specs.declared.page_token.PageToken.{PageToken}
use Rattle.text_base.specs.declared.numbers.Nt as nt
use Rattle.cfg_grammar.specs.declared.symbol.Symbol.TheVariants.{Nt}
use Rattle.cfg_grammar.specs.declared.production.Production.{Production}
use Rattle.cfg_grammar.specs.declared.grammar.Grammar.{Grammar}
use Rattle.cfg_grammar.specs.Derives.{Derives}
use Rattle.derivations.specs.Lawful.{DerivationsDerive}
use Rattle.fst_core.specs.Runs.{Runs, Relates}
use Rattle.fst_core.specs.Outputs.{DerivesText, Outputs}
use Rattle.derivations.specs.Bytes.{bytes_in}
use Rattle.summary_decision.specs.declared.verdict.Verdict.{Verdict}
use Rattle.summary_decision.specs.declared.verdict.Verdict.TheVariants.{Yes, No, Pairs, Tags}
use Rattle.summary_decision.specs.Pairs.{tokens_in}
use Rattle.summary_decision.specs.Verdicts.{IsVerdict}
use Rattle.page_decision.specs.Echoes.{IsEchoing, PutsTokens, EchoTexts}
use Rattle.chart_grammar.specs.Sources.{AreSources, ArePutOut}
use Rattle.grammar_chart.specs.declared.keys.Passage.{Passage}
use Rattle.grammar_image.specs.Numbered.{NumberedSteps, NumberedEnds}
use Rattle.grammar_image.specs.Echoes.{IsSourcedImage}
use Rattle.grammar_image.proofs.EchoLemmas.{copies_from}
use Rattle.page_decision.specs.LedBack.{IsLedBack}
use Rattle.page_decision.specs.TextVerdicts.{IsDerivationOf, IsTextVerdict}

bytes_append : (v w : List Letter) → bytes_in (v ++ w) ≡ bytes_in v ++ bytes_in w
bytes_append [] w = refl
bytes_append (OfByte b ∷ v) w = ap (λ (bs : List ℕ). b ∷ bs) (bytes_append v w)
bytes_append (OfToken t ∷ v) w = bytes_append v w

module _ {S : Type 0} (productions : List Production) (start : nt.Nt) (first : S) (steps : S → ℕ → S → List Letter → Type 0) (ends : S → List Letter → Type 0)
    (echoing : IsEchoing first steps ends) (fits : (text : List ℕ) → DerivesText productions (Nt start) text → All (λ byte. byte < 256) text) where
  -- what is put out along a text has its bytes
  run_copies : (s u : S) (text : List ℕ) (out : List Letter) → Runs steps s text u out → bytes_in out ≡ text
  run_copies s u [] out (same, none) = ap bytes_in none
  run_copies s u (byte ∷ text) out (t, here, rest, step, run, is) =
      ap bytes_in is ∙ (bytes_append here rest ∙ (ap (λ (bs : List ℕ). bs ++ bytes_in rest) (echoing.copies s t byte here step) ∙ ap (λ (bs : List ℕ). byte ∷ bs) (run_copies t u text rest run)))

  copies : (text : List ℕ) (letters : List Letter) → Relates first steps ends text letters → bytes_in letters ≡ text
  copies text letters (u, out, last, run, ended, is) =
      ap bytes_in is ∙ (bytes_append out last ∙ (ap (λ (bs : List ℕ). bytes_in out ++ bs) (echoing.adds_none u last ended) ∙ (append-nil (bytes_in out) ∙ run_copies first u text out run)))

  -- a grammar of what an echoing machine puts out derives the texts with their tokens
  pub echo_texts : (image : List Production) (from : nt.Nt) → ((w : List Letter) → Derives image (Nt from) w ↔ Outputs productions (Nt start) first steps ends w)
      → EchoTexts (DerivesText productions (Nt start)) (PutsTokens first steps ends) image from
  echo_texts image from is = record {
    texts = λ letters derived. let out = (is letters).0 derived in
        subst (λ (t : List ℕ). DerivesText productions (Nt start) t) (sym (copies out.0 letters out.2)) out.1;
    tokens = λ letters derived. let out = (is letters).0 derived in
        (letters, subst (λ (t : List ℕ). Relates first steps ends t letters) (sym (copies out.0 letters out.2)) out.2, refl);
    sentences = λ text is_text. let out = echoing.total text (fits text is_text) in
        (out.0, (is out.0).1 (text, is_text, out.1), copies text out.0 out.1);
  }

-- an image under an echoing machine copies texts
pub sourced_image : {S : Type 0} (first : S) (steps : S → ℕ → S → List Letter → Type 0) (ends : S → List Letter → Type 0) (states : List S) (ps : List Production) (start : nt.Nt)
    (fs : List Passage) (sources : List ℕ) (qs : List Production) → IsEchoing first steps ends → AreSources ps start fs sources qs
    → ArePutOut start fs qs (NumberedSteps steps states) (NumberedEnds ends states) → IsSourcedImage ps start sources qs
sourced_image first steps ends states ps start fs sources qs echoing come put = record {
  passages = fs;
  come = come;
  copy = copies_from start fs qs (NumberedSteps steps states) (NumberedEnds ends states) (λ i byte j w (s, t, at, to, step). echoing.copies s t byte w step) (λ i w (s, at, ended). echoing.adds_none s w ended) put;
}

module _ (law : DerivationsDerive) {S : Type 0} (sum_of : List PageToken → S) (whole : S → Bool) (tags : S → ℕ) (IsText : List ℕ → Type 0) (HasTokens : List ℕ → List PageToken → Type 0)
    (IsImage : Grammar → Type 0) (image : Grammar) (is_image : IsImage image) (echo : EchoTexts IsText HasTokens image.productions.items image.start) where
  -- an answer on such a grammar is one on the texts
  pub text_verdict : (grammar : Grammar) (limit : ℕ) (v : Verdict) → IsVerdict sum_of whole tags image.productions.items image.start limit v → (led : Verdict) → IsLedBack grammar image v led
      → IsTextVerdict IsText HasTokens sum_of whole IsImage (IsDerivationOf grammar) tags limit led
  text_verdict grammar limit Yes all led is = subst (IsTextVerdict IsText HasTokens sum_of whole IsImage (IsDerivationOf grammar) tags limit) (sym is) (λ text is_text.
      let s = echo.sentences text is_text in
      record { tokens = tokens_in s.0; has = subst (λ (t : List ℕ). HasTokens t (tokens_in s.0)) s.2 (echo.tokens s.0 s.1); sum = all s.0 s.1 })
  text_verdict grammar limit (No d) (w, derived, wrong) led (source, is_led, back) =
      let is : Derives image.productions.items (Nt image.start) w = law image.productions.items d.nodes.nodes.items image.start w derived in
      subst (IsTextVerdict IsText HasTokens sum_of whole IsImage (IsDerivationOf grammar) tags limit) (sym is_led) (record {
        text = bytes_in w;
        is_text = echo.texts w is;
        not_whole = record { tokens = tokens_in w; has = echo.tokens w is; sum = wrong };
        derives = back w derived;
      })
  text_verdict grammar limit (Pairs count height) (over, sums, below) led is = subst (IsTextVerdict IsText HasTokens sum_of whole IsImage (IsDerivationOf grammar) tags limit) (sym is)
      (record { image = image; is_image = is_image; echo = echo; over = over; sums = sums; whole_below = below })
  text_verdict grammar limit (Tags count height) (over, (a, s, pair, tagged), below) led is = subst (IsTextVerdict IsText HasTokens sum_of whole IsImage (IsDerivationOf grammar) tags limit) (sym is)
      (record { image = image; is_image = is_image; echo = echo; over = over; nonterminal = a; sum = s; of_sentence = pair; tagged = tagged; whole_below = below })
