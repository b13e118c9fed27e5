use Rattle.std.proofs.Common.{◌≡◌, length}
use Rattle.strong_components.specs.Search.{kept}
use Rattle.strong_components.proofs.opening.join.Given as goal

abbrev pub invariant-loop-start : goal.invariant-loop-start
invariant-loop-start l = kept l.place l.starts ≡ kept l.place l.initial.starts

abbrev pub decreases-loop-start : goal.decreases-loop-start
decreases-loop-start l = length l.starts
