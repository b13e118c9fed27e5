use Rattle.std.proofs.Common.{inr, ◌+◌}
use Rattle.content_automata.specs.Views.{shapes_of}
use Rattle.content_automata.proofs.MoveLemmas.{sum_more, sum_below}
use Rattle.content_automata.proofs.explore.counted.Goals as goal

pub returns-clause-sum : goal.returns-clause-sum
returns-clause-sum c = sum_more _ _ _ _ _ _ c.requires.within c.requires.sum c.in_ok-moves_of_state.ensures c.in_ok-sum.ensures

pub returns-then-sum-gt-MOVE_LIMIT-clause-limit : goal.returns-then-sum-gt-MOVE_LIMIT-clause-limit
returns-then-sum-gt-MOVE_LIMIT-clause-limit c =
    let made = sum_more (shapes_of c.args.models.now) c.args.keys.now.keys c.args.at _ _ _ c.requires.within c.requires.sum c.in_ok-moves_of_state.ensures c.in_ok-sum.ensures in
    inr (c.if-sum-gt-MOVE_LIMIT.true, sum_below (shapes_of c.args.models.now) c.args.keys.now.keys (c.args.at + 1) c.in_ok-sum.sum made, c.requires.apart)
