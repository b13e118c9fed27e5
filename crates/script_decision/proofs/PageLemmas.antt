-- The pages that a grammar derives are the loose pages of a program.
use Rattle.std.proofs.Common.{◌≡◌, ◌↔◌, ℕ, List, [], ◌∷◌, map, false, refl, sym, subst}
use Rattle.std.specs.Prelude.{Result, Ok, Err, IfErr}
use Rattle.text_base.specs.declared.numbers.Nt as nt
use Rattle.text_base.specs.declared.letter.Letter.{Letter}
use Rattle.text_base.specs.declared.letter.Letter.TheVariants.{OfByte}
use Rattle.cfg_grammar.specs.declared.symbol.Symbol.TheVariants.{Nt}
use Rattle.cfg_grammar.specs.declared.production.Production.{Production}
use Rattle.cfg_grammar.specs.declared.grammar.Grammar.{Grammar}
use Rattle.fst_core.specs.Outputs.{DerivesText}
use Rattle.script_meaning.specs.Programs.{PlainProgram}
use Rattle.dtd_model.specs.Table.{Table}
use Rattle.summary_decision.specs.declared.verdict.Verdict.{Verdict}
use Rattle.summary_decision.specs.declared.verdict.Verdict.TheVariants.{Yes, No, Pairs, Tags}
use Rattle.page_decision.specs.declared.goal.Goal.{Goal}
use Rattle.page_decision.specs.Echoes.{IsMachineImage}
use Rattle.page_decision.specs.PageVerdicts.{IsPageVerdict}
use Rattle.page_decision.specs.TextVerdicts.{IsDerivationOf}
use Rattle.page_decision.proofs.AlongLemmas.{page_verdict_along}
use Rattle.grammar_image.specs.declared.refusal.ImageRefusal.{ImageRefusal}
use Rattle.grammar_image.specs.declared.refusal.ImageRefusal.TheVariants.{Large, Memory}
use Rattle.grammar_image.specs.Refusals as images
use Rattle.loose_grammar.specs.declared.refusal.TheConstants.{ITEM_LIMIT}
use Rattle.loose_grammar.specs.Pages.{IsLoosePage, DerivePages, IsPageGrammar}
use Rattle.script_decision.specs.Answers.{by_pages, IsDerivationBy, IsPageImage, IsAnswerBy}
use Rattle.script_decision.specs.Searches.{IsSearched, none_loose, large_search, IsSearchedIn, none_derived, large_image}
use Rattle.script_decision.specs.Steps.{IsItemCause, answer_of, is_settled}

same_bytes : (u v : List ℕ) → map OfByte u ≡ map OfByte v → u ≡ v
same_bytes [] [] e = refl
same_bytes [] (b ∷ v) e = cc
same_bytes (a ∷ u) [] e = cc
same_bytes (a ∷ u) (b ∷ v) e =
    let rest : u ≡ v = same_bytes u v (cc) in
    let first : a ≡ b = cc in
    cc

module _ (program : PlainProgram) where
  module _ (productions : List Production) (start : nt.Nt) (are : DerivePages program productions start) where
    -- its texts are the loose pages
    pub texts_are_pages : (page : List ℕ) → DerivesText productions (Nt start) page ↔ IsLoosePage program page
    texts_are_pages page = (
      λ d. let h = (are (map OfByte page)).0 d in subst (λ (p : List ℕ). IsLoosePage program p) (sym (same_bytes page h.0 h.1)) h.2,
      λ loose. (are (map OfByte page)).1 (page, refl, loose),
    )

  -- a search in the grammar that is made of the program is one in its loose pages
  pub searched_on_program : (grammar : Grammar) (table : Table) → IsPageGrammar program grammar → IsSearchedIn table grammar → IsSearched table program
  searched_on_program grammar table is (none_derived none) =
      none_loose (λ page loose. none page ((texts_are_pages grammar.productions.items grammar.start is.pages page).1 loose))
  searched_on_program grammar table is (large_image count h) = large_search grammar count is h

  module _ {S : Type 0} (first : S) (steps : S → ℕ → S → List Letter → Type 0) (ends : S → List Letter → Type 0) where
    -- a verdict on the pages of the grammar that is made of the program is one on its loose pages
    pub verdict_on_program : (grammar : Grammar) → IsPageGrammar program grammar → (table : Table) (goal : Goal) (limit : ℕ) (v : Verdict)
        → IsPageVerdict table (DerivesText grammar.productions.items (Nt grammar.start)) (IsMachineImage grammar first steps ends) (IsDerivationOf grammar) goal limit v
        → IsPageVerdict table (IsLoosePage program) (IsPageImage first steps ends program) (IsDerivationBy program) goal limit v
    verdict_on_program grammar is table goal limit v h =
        page_verdict_along table (DerivesText grammar.productions.items (Nt grammar.start)) (IsLoosePage program) (texts_are_pages grammar.productions.items grammar.start is.pages)
        (IsMachineImage grammar first steps ends) (IsPageImage first steps ends program)
        (λ image of_grammar. record { grammar = grammar; of_program = is; of_grammar = of_grammar }) (IsDerivationOf grammar) (IsDerivationBy program) (λ d page h. (grammar, is, h)) goal limit v h

    pub answer_by_verdict : (table : Table) (goal : Goal) (limit : ℕ) (v : Verdict) → IsPageVerdict table (IsLoosePage program) (IsPageImage first steps ends program) (IsDerivationBy program) goal limit v
        → (is_settled (Ok v) ≡ false → IsSearched table program) → IsAnswerBy first steps ends goal table program limit (answer_of v)
    answer_by_verdict table goal limit Yes h s = h
    answer_by_verdict table goal limit (No d) h s = h
    answer_by_verdict table goal limit (Pairs count height) h s = (s refl, h)
    answer_by_verdict table goal limit (Tags count height) h s = (s refl, h)

  module _ {S : Type 0} (first : S) (steps : S → ℕ → S → List Letter → Type 0) where
    -- the image of the pages is too large
    pub pages_cause : (grammar : Grammar) (table : Table) (r : ImageRefusal) → IsPageGrammar program grammar → (is_settled (Err r) ≡ false → IsSearched table program)
        → images.IsCause grammar.productions.items steps grammar.start first ITEM_LIMIT r → IsItemCause first steps table program r
    pages_cause grammar table (Large items) is s h = (h.0, by_pages grammar is (s refl) h.1)
    pages_cause grammar table Memory is s h = tt

    -- so where the decision of the pages is refused
    pub cause_on_program : (grammar : Grammar) (table : Table) (result : Result Verdict ImageRefusal) → IsPageGrammar program grammar
        → (is_settled result ≡ false → IsSearchedIn table grammar)
        → IfErr result (images.IsCause grammar.productions.items steps grammar.start first ITEM_LIMIT) → IfErr result (IsItemCause first steps table program)
    cause_on_program grammar table (Ok v) is s h = tt
    cause_on_program grammar table (Err r) is s h = pages_cause grammar table r is (λ e. searched_on_program grammar table is (s e)) h
