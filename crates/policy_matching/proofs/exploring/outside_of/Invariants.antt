use Rattle.std.proofs.Common.{◌-◌, length}
use Rattle.derivatives.specs.Standing.{expr_at, Grows}
use Rattle.policy_matching.specs.Outside.{AreRows}
use Rattle.policy_matching.proofs.exploring.outside_of.Given as goal

abbrev pub invariant-loop-alloc : goal.invariant-loop-alloc
invariant-loop-alloc l =
    record {
      grows : Grows l.initial.arena l.arena;
      rows : AreRows (expr_at l.initial.arena l.root) l.arena l.places.keys l.rows.items;
    }

abbrev pub decreases-loop-alloc : goal.decreases-loop-alloc
decreases-loop-alloc l = 9223372036854775808 - length l.rows.items
