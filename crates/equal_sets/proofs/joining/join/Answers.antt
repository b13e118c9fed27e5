use Rattle.std.proofs.Common.{arith}
use Rattle.equal_sets.proofs.SetLemmas.{so_far_joined, settled_below}
use Rattle.equal_sets.proofs.joining.join.Goals as goal

pub may_join-requires-clause-second : goal.may_join-requires-clause-second
may_join-requires-clause-second c =
    let lt = settled_below c.args.sets.now.done.items c.args.b (c.may_stand.ensures c.if-not-may_stand.false).settled in
    omega (arith, lt, c.requires.so_far.long)

pub returns : goal.returns
returns c =
    so_far_joined c.args.rows.now c.args.sets.now.of.items c.args.sets.now.done.items c.args.a c.args.b c.requires.below c.requires.unsettled c.requires.so_far
    (c.may_stand.ensures c.if-not-may_stand.false) (c.may_join.ensures c.if-not-may_join.false)
