use Rattle.std.proofs.Common.{◌≤◌, ◌-◌, length}
use Rattle.dyck_balance.specs.Meeting.{MeetsFrom}
use Rattle.dyck_balance.proofs.join.matched.Given as goal

abbrev pub invariant-loop-pairs : goal.invariant-loop-pairs
invariant-loop-pairs l =
    record {
      within : l.pairs ≤ length l.openers;
      also : l.pairs ≤ length l.closers;
      meets : MeetsFrom l.openers l.closers l.pairs;
    }

abbrev pub decreases-loop-pairs : goal.decreases-loop-pairs
decreases-loop-pairs l = length l.openers - l.pairs
