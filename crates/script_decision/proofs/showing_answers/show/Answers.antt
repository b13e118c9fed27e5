use Rattle.std.proofs.Common.{sym, subst}
use Rattle.script_decision.specs.Decision.{IsAnswerOf}
use Rattle.script_decision.specs.Shown.{IsShownAnswer}
use Rattle.script_decision.proofs.ShownLemmas.{shown_counterexample}
use Rattle.script_decision.proofs.showing_answers.show.Goals.{in-Yes, in-No+in_ok-show_page-in-No, in-Pairs, in-Tags, in-Items}
use Rattle.script_decision.proofs.showing_answers.show.Goals as goal

pub returns-clause-answer : goal.returns-clause-answer
returns-clause-answer c goal table program limit is = elim c.match-answer.branch [
  | in-Yes w ↦ subst (IsShownAnswer goal table program limit) (sym w.result-is) (subst (IsAnswerOf goal table program limit) w.in-Yes.is is)
  | in-No+in_ok-show_page-in-No w ↦ subst (IsShownAnswer goal table program limit) (sym w.result-is)
      (shown_counterexample goal table program _ _ w.in_ok-show_page-in-No.ensures (subst (IsAnswerOf goal table program limit) w.in-No.is is))
  | in-Pairs w ↦ subst (IsShownAnswer goal table program limit) (sym w.result-is) (subst (IsAnswerOf goal table program limit) w.in-Pairs.is is)
  | in-Tags w ↦ subst (IsShownAnswer goal table program limit) (sym w.result-is) (subst (IsAnswerOf goal table program limit) w.in-Tags.is is)
  | in-Items w ↦ subst (IsShownAnswer goal table program limit) (sym w.result-is) (subst (IsAnswerOf goal table program limit) w.in-Items.is is)
]
