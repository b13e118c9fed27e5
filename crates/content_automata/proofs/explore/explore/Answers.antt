use Rattle.content_automata.proofs.TableLemmas.{keeps_both}
use Rattle.content_automata.proofs.ExploreLemmas.{rows_more, rows_pushed, at_most, all_rows}
use Rattle.std.proofs.Common.{arith}
use Rattle.content_automata.proofs.MoveLemmas.{sum_kept, sum_all, over_too_many}
use Rattle.content_automata.specs.Views.{shapes_of}
use Rattle.content_automata.proofs.explore.explore.Goals as goal

pub states-preserved : goal.states-preserved
states-preserved c =
    let was = c.states.invariant in
    let made = c.in-Ok.ensures in
    record {
      rows = rows_more _ _ _ _ _ _ _ was.rows made.keeps made.row (rows_pushed _ _ _ c.in-Ok-push.ensures.items);
      within = at_most _ _ _ _ _ made.keeps made.row;
      few = made.few was.few;
      keeps = keeps_both _ _ _ was.keeps made.keeps;
      reached = made.reached;
      moves = sum_kept _ _ _ _ _ made.keeps (let w = c.states-test.true in grind (arith, w, c.len.ensures)) c.in_ok-moves.ensures.sum;
      few_moves = c.in_ok-moves.ensures.few;
    }

pub returns-clause-rows : goal.returns-clause-rows
returns-clause-rows c = all_rows _ _ _ _ c.states.invariant.rows c.states.invariant.within (rw c.len.ensures.len at c.states-test.false)

pub returns-clause-moves : goal.returns-clause-moves
returns-clause-moves c = sum_all _ _ _ _ _ (rw c.len.ensures.len at c.states-test.false) c.states.invariant.moves c.states.invariant.few_moves

pub returns-in-Err-clause-limit : goal.returns-in-Err-clause-limit
returns-in-Err-clause-limit c = over_too_many (shapes_of c.args.models.now) _ _ c.in-Err.ensures.limit
