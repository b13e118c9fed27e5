-- What the answer for a program and a pattern says of the loose pages and of the runs, and why there is none.
use Rattle.std.specs.Prelude.{◌≡◌, ◌<◌, ℕ, List, ⊤}
use Rattle.cfg_grammar.specs.declared.grammar.Grammar.{Grammar}
use Rattle.fst_core.specs.Items.{HasItems}
use Rattle.page_policy.specs.Patterns.{Pattern, Fits}
use Rattle.page_policy.specs.Forms.{form_of}
use Rattle.policy_matching.specs.Matching.{DerivativeStep}
use Rattle.policy_matching.specs.Outside.{HasDerivatives}
use Rattle.policy_matching.specs.declared.refusal.TheConstants.{STATE_LIMIT}
use Rattle.script_meaning.specs.Programs.{PlainProgram}
use Rattle.script_meaning.specs.Requests.{PlainRequest, Admitted}
use Rattle.script_meaning.specs.Runs.{Ended}
use Rattle.script_meaning.specs.Meaning.{meaning}
use Rattle.program_lowering.specs.Short.{HasLongText}
use Rattle.loose_grammar.specs.declared.refusal.TheConstants.{ITEM_LIMIT}
use Rattle.loose_grammar.specs.Pages.{IsLoosePage, IsPageGrammar}
use Rattle.loose_grammar.specs.Refusals.{HasLargeImage}
use Rattle.script_decision.specs.declared.showing_pages.ShownPage.{ShownPage}
use Rattle.script_decision.specs.Shows.{Shows}
use Rattle.script_decision.specs.declared.policy_answer.PolicyAnswer.{PolicyAnswer}
use Rattle.script_decision.specs.declared.policy_answer.PolicyAnswer.TheVariants as answer
use Rattle.script_decision.specs.declared.policy_refusal.MatchRefusal.{MatchRefusal}
use Rattle.script_decision.specs.declared.policy_refusal.MatchRefusal.TheVariants as refusal

-- each loose page of the program fits the pattern
abbrev pub EachFits : Pattern → PlainProgram → Type 0
EachFits p program = (page : List ℕ) → IsLoosePage program page → Fits p page

-- this is shown of a loose page that does not fit
pub record IsShownMiss (p : Pattern) (program : PlainProgram) (shown : ShownPage) : Type 0 where
  pub page : List ℕ
  pub loose : IsLoosePage program page
  pub misses : Fits p page → ⊥
  pub shows : Shows page shown

-- one image has at least so many items: that of an operation of the system that is made of the program, or that of the grammar of loose
-- pages that is made of it, under the machine of the derivatives of the pattern's expression
pub data HasManyItems (p : Pattern) (program : PlainProgram) (count : ℕ) : Type 0 where
  by_operation : HasLargeImage program count → HasManyItems p program count
  by_pages : (grammar : Grammar) → IsPageGrammar program grammar
      → HasItems grammar.productions.items DerivativeStep grammar.start (form_of p) count → HasManyItems p program count

-- yes: each loose page fits; no: what is shown of one that does not; a stated count that is passed: of items, of derivatives of the
-- pattern's expression
abbrev pub IsPolicyAnswer : Pattern → PlainProgram → PolicyAnswer → Type 0
IsPolicyAnswer p program answer.Yes = EachFits p program
IsPolicyAnswer p program (answer.No shown) = IsShownMiss p program shown
IsPolicyAnswer p program (answer.Items count) = (ITEM_LIMIT < count) × HasManyItems p program count
IsPolicyAnswer p program (answer.States count) = (STATE_LIMIT < count) × HasDerivatives (form_of p) count

-- every run of the program, for every admitted request and every number of units, that ends prints a page that fits
abbrev pub RunsFit : Pattern → PlainProgram → Type 0
RunsFit p program = (request : PlainRequest) (units : ℕ)
    → Admitted request → (meaning program request units).end ≡ Ended → Fits p (meaning program request units).printed

-- what an answer says of the program's runs: a yes, that they fit
abbrev pub SaysOfRuns : Pattern → PlainProgram → PolicyAnswer → Type 0
SaysOfRuns p program answer.Yes = RunsFit p program
SaysOfRuns p program _ = ⊤

-- the program is refused, for this reason; want of memory says nothing
abbrev pub IsMatchRefusal : PlainProgram → MatchRefusal → Type 0
IsMatchRefusal program refusal.LongText = HasLongText program
IsMatchRefusal program refusal.Memory = ⊤
