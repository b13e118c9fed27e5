use Rattle.std.proofs.Common.{◌≡◌, length}
use Rattle.flow_lowering.specs.View.{progress}
use Rattle.flow_lowering.specs.Drafts.{filled}
use Rattle.flow_lowering.proofs.exits.fill_exits.Given as goal

-- what is left to replace and what is replaced is all
abbrev pub invariant-loop-exit : goal.invariant-loop-exit
invariant-loop-exit l = filled (record { stop = l.stop.0; again = l.again.0 }) l.exits.items (progress l.points)
    ≡ filled (record { stop = l.stop.0; again = l.again.0 }) l.fn.exits.items (progress l.initial.points)

abbrev pub decreases-loop-exit : goal.decreases-loop-exit
decreases-loop-exit l = length l.exits.items
