use Rattle.std.proofs.Common.{length}
use Rattle.piece_reasons.proofs.Fronts.{IsBehind}
use Rattle.piece_reasons.proofs.remarks.stray.Given as goal

abbrev pub invariant-loop-left : goal.invariant-loop-left
invariant-loop-left l = IsBehind l.text l.left

abbrev pub decreases-loop-left : goal.decreases-loop-left
decreases-loop-left l = length l.left
