use Rattle.std.proofs.Common.{◌≡◌, ◌≤◌, ◌-◌, true, length}
use Rattle.grammar_image.specs.Marks.{marked_at, AreClosedFrom}
use Rattle.grammar_image.proofs.marking.under_root.Given as goal

abbrev pub invariant-loop-place : goal.invariant-loop-place
invariant-loop-place l = record {
  long : length l.marks.items ≡ length l.nodes;
  within : l.place ≤ length l.nodes;
  root : marked_at l.marks.items (length l.nodes - 1) ≡ true;
  closed : AreClosedFrom l.place l.nodes l.marks.items;
}

abbrev pub decreases-loop-place : goal.decreases-loop-place
decreases-loop-place l = l.place
