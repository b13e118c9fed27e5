use Rattle.std.proofs.Common.{◌≤◌, ◌+◌, ◌-◌}
use Rattle.echoing_machine.specs.Groups.{AreMovesBelow}
use Rattle.echoing_machine.proofs.machine.moves_by.Given as goal

abbrev pub invariant-loop-next : goal.invariant-loop-next
invariant-loop-next g l =
    record {
      least : l.fn.range.lo ≤ l.next;
      most : l.next ≤ l.fn.range.hi + 1;
      moves : AreMovesBelow (g.R.ByteReader.next l.reader l.state) (g.R.ByteReader.puts l.reader l.state) l.fn.range.lo l.next l.moves.items;
    }

abbrev pub decreases-loop-next : goal.decreases-loop-next
decreases-loop-next g l = 256 - l.next
