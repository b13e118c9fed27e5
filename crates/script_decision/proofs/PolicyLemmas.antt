-- What is found of the pages of a grammar is an answer for the program.
use Rattle.std.proofs.Common.{ℕ, List, map, subst}
use Rattle.text_base.specs.declared.letter.Letter.TheVariants.{OfByte}
use Rattle.cfg_grammar.specs.declared.grammar.Grammar.{Grammar}
use Rattle.derivations.specs.declared.derivation.Derivation.{Derivation}
use Rattle.derivatives.specs.Expressions.{Matches}
use Rattle.page_policy.specs.Patterns.{Pattern}
use Rattle.page_policy.specs.Forms.{form_of, FormsMatchWhatFits}
use Rattle.policy_matching.specs.Matching.{IsTextOf, IsMiss}
use Rattle.script_meaning.specs.Programs.{PlainProgram}
use Rattle.loose_grammar.specs.Pages.{IsPageGrammar}
use Rattle.script_decision.specs.declared.showing_pages.ShownPage.{ShownPage}
use Rattle.script_decision.specs.Shows.{Shows}
use Rattle.script_decision.proofs.PageLemmas.{texts_are_pages}
use Rattle.script_decision.proofs.ShownLemmas.{ShowsEach, own_bytes}
use Rattle.script_decision.specs.declared.policy_answer.PolicyAnswer.{PolicyAnswer}
use Rattle.script_decision.specs.declared.policy_answer.PolicyAnswer.TheVariants as answer
use Rattle.script_decision.specs.PolicyAnswers.{EachFits, IsShownMiss, IsPolicyAnswer, RunsFit, SaysOfRuns}

pub each_fits : (p : Pattern) (program : PlainProgram) (grammar : Grammar) → FormsMatchWhatFits → IsPageGrammar program grammar
    → ((text : List ℕ) → IsTextOf grammar text → Matches (form_of p) text) → EachFits p program
each_fits p program grammar law is all page loose =
    (law p page).0 (all page ((texts_are_pages program grammar.productions.items grammar.start is.pages page).1 loose))

pub shown_miss : (p : Pattern) (program : PlainProgram) (grammar : Grammar) (derivation : Derivation) (shown : ShownPage) → FormsMatchWhatFits → IsPageGrammar program grammar
    → ShowsEach derivation shown → IsMiss (form_of p) grammar derivation → IsShownMiss p program shown
shown_miss p program grammar derivation shown law is each miss = record {
  page = miss.text;
  loose = (texts_are_pages program grammar.productions.items grammar.start is.pages miss.text).0 miss.is_text;
  misses = λ f. miss.misses ((law p miss.text).1 f);
  shows = subst (λ (page : List ℕ). Shows page shown) (own_bytes miss.text) (each grammar.productions.items grammar.start (map OfByte miss.text) miss.derives);
}

pub says_of_runs : (p : Pattern) (program : PlainProgram) → (EachFits p program → RunsFit p program) → (a : PolicyAnswer) → IsPolicyAnswer p program a → SaysOfRuns p program a
says_of_runs p program law answer.Yes h = law h
says_of_runs p program law (answer.No shown) h = tt
says_of_runs p program law (answer.Items count) h = tt
says_of_runs p program law (answer.States count) h = tt
