-- What is shown of the page of a derivation is shown of a loose page that is not good.
use Rattle.std.proofs.Common.{◌≡◌, ℕ, List, [], ◌∷◌, map, refl, ap, subst}
use Rattle.text_base.specs.declared.letter.Letter.{Letter}
use Rattle.text_base.specs.declared.letter.Letter.TheVariants.{OfByte}
use Rattle.text_base.specs.declared.numbers.Nt as nt
use Rattle.cfg_grammar.specs.declared.production.Production.{Production}
use Rattle.derivations.specs.declared.derivation.Derivation.{Derivation}
use Rattle.derivations.specs.Stands.{IsDerivation}
use Rattle.derivations.specs.Bytes.{bytes_in}
use Rattle.script_meaning.specs.Programs.{PlainProgram}
use Rattle.dtd_model.specs.Table.{Table}
use Rattle.page_decision.specs.declared.goal.Goal.{Goal}
use Rattle.script_decision.specs.Answers.{IsCounterexample}
use Rattle.script_decision.specs.declared.showing_pages.ShownPage.{ShownPage}
use Rattle.script_decision.specs.Shows.{Shows}
use Rattle.script_decision.specs.Shown.{IsShownCounterexample}

-- this is shown of the bytes of each sentence that the derivation is one of
abbrev pub ShowsEach : Derivation → ShownPage → Type 0
ShowsEach derivation shown = (ps : List Production) (left : nt.Nt) (w : List Letter) → IsDerivation ps derivation.nodes.nodes.items left w → Shows (bytes_in w) shown

-- a text has its own bytes
pub own_bytes : (text : List ℕ) → bytes_in (map OfByte text) ≡ text
own_bytes [] = refl
own_bytes (b ∷ text) = ap (λ (bs : List ℕ). b ∷ bs) (own_bytes text)

pub shown_counterexample : (goal : Goal) (table : Table) (program : PlainProgram) (derivation : Derivation) (shown : ShownPage) → ShowsEach derivation shown
    → IsCounterexample goal table program derivation → IsShownCounterexample goal table program shown
shown_counterexample goal table program derivation shown each is = record {
  page = is.page;
  loose = is.is_page;
  bad = is.bad;
  shows = let (grammar, of_program, derived) = is.derives in
      subst (λ (page : List ℕ). Shows page shown) (own_bytes is.page) (each grammar.productions.items grammar.start (map OfByte is.page) derived);
}
