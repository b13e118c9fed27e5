use Rattle.std.proofs.Common.{sym, subst}
use Rattle.script_decision.specs.ShortestBelow.{IsFound, IsBelow}
use Rattle.script_decision.proofs.ShortestLemmas.{good_below, bad_below}
use Rattle.script_decision.proofs.shortest_searching.show_below.Goals.{in-Whole, in-Shortest+in_ok-show_page-in-Shortest, in-Pairs, in-Tags}
use Rattle.script_decision.proofs.shortest_searching.show_below.Goals as goal

pub returns : goal.returns
returns c asked table program ways grammar cut most limit are is_grammar is_cut is = elim c.match-found.branch [
  | in-Whole w ↦ subst (IsBelow asked table program most) (sym w.result-is) (good_below asked table program ways are grammar is_grammar most cut is_cut (subst (IsFound asked table ways cut limit) w.in-Whole.is is))
  | in-Shortest+in_ok-show_page-in-Shortest w ↦ subst (IsBelow asked table program most) (sym w.result-is)
      (bad_below asked table program ways are grammar is_grammar most cut is_cut _ _ w.in_ok-show_page-in-Shortest.ensures (subst (IsFound asked table ways cut limit) w.in-Shortest.is is))
  | in-Pairs w ↦ subst (IsBelow asked table program most) (sym w.result-is) tt
  | in-Tags w ↦ subst (IsBelow asked table program most) (sym w.result-is) tt
]
