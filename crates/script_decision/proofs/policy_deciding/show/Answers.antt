use Rattle.std.proofs.Common.{sym, subst}
use Rattle.loose_grammar.specs.declared.refusal.TheConstants.{ITEM_LIMIT}
use Rattle.page_policy.specs.Forms.{form_of}
use Rattle.policy_matching.specs.Matching.{IsAnswer}
use Rattle.script_decision.specs.PolicyAnswers.{IsPolicyAnswer, by_pages}
use Rattle.script_decision.proofs.PolicyLemmas.{each_fits, shown_miss}
use Rattle.script_decision.proofs.policy_deciding.show.Goals.{in-All, in-Miss+in_ok-show_page-in-Miss, in-Items, in-States}
use Rattle.script_decision.proofs.policy_deciding.show.Goals as goal

pub returns : goal.returns
returns c p program grammar of is = elim c.match-found.branch [
  | in-All w ↦ subst (IsPolicyAnswer p program) (sym w.result-is)
      (each_fits p program grammar c.forms_match_what_fits.ensures of (subst (IsAnswer (form_of p) grammar ITEM_LIMIT) w.in-All.is is))
  | in-Miss+in_ok-show_page-in-Miss w ↦ subst (IsPolicyAnswer p program) (sym w.result-is)
      (shown_miss p program grammar _ _ c.forms_match_what_fits.ensures of w.in_ok-show_page-in-Miss.ensures (subst (IsAnswer (form_of p) grammar ITEM_LIMIT) w.in-Miss.is is))
  | in-Items w ↦ subst (IsPolicyAnswer p program) (sym w.result-is)
      (let h = subst (IsAnswer (form_of p) grammar ITEM_LIMIT) w.in-Items.is is in (h.0, by_pages grammar of h.1))
  | in-States w ↦ subst (IsPolicyAnswer p program) (sym w.result-is) (subst (IsAnswer (form_of p) grammar ITEM_LIMIT) w.in-States.is is)
]
