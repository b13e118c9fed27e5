use Rattle.std.proofs.Common.{arith, subst}
use Rattle.derivations.specs.Stacked.{pending}
use Rattle.derivations.proofs.StackLemmas.{Descends, popped, went_down}
use Rattle.derivations.proofs.walking.next_byte.Goals as goal

pub down-init : goal.down-init
down-init c = record {
  descends = popped _ _ _ _ c.requires.stacked c.in-Some.ensures.items;
  room = omega (arith, c.requires.room, c.pop.ensures.capacity);
}

pub down-preserved : goal.down-preserved
down-preserved c =
    let f = c.go_down-piece.ensures.fork in
    let all = pending c.args.forks.now c.args.stack.now.items in
    record {
      descends = went_down _ all _ _ c.in-Fork.place f.0 _ c.requires.lawful
          (subst (Descends c.args.forks.now all c.down.stack.items) c.in-Fork.is c.down.invariant.descends) f.1 f.2 f.3;
      room = omega (arith, c.down.invariant.room, c.go_down-piece.ensures.room);
    }
