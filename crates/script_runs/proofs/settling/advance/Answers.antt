use Rattle.script_runs.proofs.SettleLemmas.{moves_as, ready_as, moves_left, moves_turn, moves_step, moves_over}
use Rattle.script_runs.proofs.settling.advance.Goals as goal

pub returns-in_ok-moved-in-Block : goal.returns-in_ok-moved-in-Block
returns-in_ok-moved-in-Block c = moves_as _ _ _ _ _ _ _ c.in-Block.is (c.in_ok-moved-in-Block.ensures _ _)

pub returns-in_ok-moved-in-Left : goal.returns-in_ok-moved-in-Left
returns-in_ok-moved-in-Left c = moves_as _ _ _ _ _ _ _ c.in-Left.is (moves_left _ _ _ _ _ _ c.in_ok-moved-in-Left.ensures)

pub returns-in-Turn : goal.returns-in-Turn
returns-in-Turn c = moves_as _ _ _ _ _ _ _ c.in-Turn.is (moves_turn _ _ c.args.pending.now _ (ready_as c.args.pending.now _ _ c.in-Turn.is c.requires))

pub returns-in-Step : goal.returns-in-Step
returns-in-Step c = moves_as _ _ _ _ _ _ _ c.in-Step.is (moves_step _ _ c.args.pending.now _ _ _ (ready_as c.args.pending.now _ _ c.in-Step.is c.requires))

pub returns-in-Over : goal.returns-in-Over
returns-in-Over c = moves_as _ _ _ _ _ _ _ c.in-Over.is (moves_over _ _ c.args.pending.now _)
