use Rattle.std.proofs.Common.{◌≤◌, ◌-◌}
use Rattle.derivatives.specs.Standing.{expr_at, Grows}
use Rattle.policy_matching.specs.Outside.{AreRuns, Reaches}
use Rattle.policy_matching.proofs.exploring.runs_of.Given as goal

abbrev pub invariant-loop-next : goal.invariant-loop-next
invariant-loop-next l =
    record {
      most : l.next ≤ 256;
      grows : Grows l.initial.arena l.arena;
      reaches : Reaches l.initial.arena l.arena l.initial.places.keys l.places.keys l.place;
      runs : AreRuns l.arena l.places.keys (expr_at l.initial.arena l.place) l.next l.runs.items;
    }

abbrev pub decreases-loop-next : goal.decreases-loop-next
decreases-loop-next l = 256 - l.next
