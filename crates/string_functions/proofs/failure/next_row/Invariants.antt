use Rattle.std.proofs.Common.{◌+◌, ◌≤◌}
use Rattle.string_functions.specs.Failure.{IsBorder}
use Rattle.string_functions.proofs.FailureLemmas.{Noted}
use Rattle.string_functions.proofs.failure.next_row.Given as goal

abbrev pub invariant-loop-part : goal.invariant-loop-part
invariant-loop-part l =
    record { noted : Noted l.pattern l.at (l.part + 1) l.row.items; border : IsBorder l.pattern l.at l.part }

abbrev pub decreases-loop-part : goal.decreases-loop-part
decreases-loop-part l = l.part
