use Rattle.std.proofs.Common.{sym, subst}
use Rattle.script_decision.specs.ShortestAnswers.{IsShortestAnswer}
use Rattle.script_decision.specs.ShortestBelow.{IsFound}
use Rattle.script_decision.proofs.ShortestLemmas.{each_good, shown_shortest, many_sums, many_tags}
use Rattle.script_decision.proofs.shortest_deciding.show.Goals.{in-Whole, in-Shortest+in_ok-show_page-in-Shortest, in-Pairs, in-Tags}
use Rattle.script_decision.proofs.shortest_deciding.show.Goals as goal

pub returns : goal.returns
returns c asked table program ways grammar limit are is_grammar is = elim c.match-found.branch [
  | in-Whole w ↦ subst (IsShortestAnswer asked table program limit) (sym w.result-is) (each_good asked table program ways are grammar is_grammar (subst (IsFound asked table ways grammar limit) w.in-Whole.is is))
  | in-Shortest+in_ok-show_page-in-Shortest w ↦ subst (IsShortestAnswer asked table program limit) (sym w.result-is)
      (shown_shortest asked table program ways are grammar is_grammar _ _ w.in_ok-show_page-in-Shortest.ensures (subst (IsFound asked table ways grammar limit) w.in-Shortest.is is))
  | in-Pairs w ↦ subst (IsShortestAnswer asked table program limit) (sym w.result-is) (many_sums asked table program ways are grammar is_grammar asked limit _ _ (subst (IsFound asked table ways grammar limit) w.in-Pairs.is is))
  | in-Tags w ↦ subst (IsShortestAnswer asked table program limit) (sym w.result-is) (many_tags asked table program ways are grammar is_grammar asked _ _ (subst (IsFound asked table ways grammar limit) w.in-Tags.is is))
]
