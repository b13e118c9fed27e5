use Rattle.std.proofs.Common.{List, length, drop, ◌≤◌}
use Rattle.page_policy.specs.Machine.{PlainPart, state_of}
use Rattle.page_policy.specs.Views.{AreParts}
use Rattle.page_policy.specs.Built.{HoldsIn}
use Rattle.page_policy.proofs.building.build.Given as goal

-- the parts from here on are put
abbrev pub invariant-loop-left : goal.invariant-loop-left
invariant-loop-left l = (l.left ≤ length l.parts) × ((xs : List PlainPart) → AreParts l.parts xs → HoldsIn l.building (state_of (drop l.left xs)))

abbrev pub decreases-loop-left : goal.decreases-loop-left
decreases-loop-left l = l.left
