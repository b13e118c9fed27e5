use Rattle.std.proofs.Common.{◌<◌, length, vec_capacity}
use Rattle.derivations.specs.Forks.{rank}
use Rattle.derivations.specs.Stacked.{pending}
use Rattle.derivations.proofs.StackLemmas.{Descends}
use Rattle.derivations.proofs.walking.next_byte.Given as goal

abbrev pub invariant-down : goal.invariant-down
invariant-down l = record { descends : Descends l.forks (pending l.forks l.fn.stack.items) l.stack.items l.piece; room : length l.forks < vec_capacity l.stack }

abbrev pub decreases-down : goal.decreases-down
decreases-down l = rank l.piece
