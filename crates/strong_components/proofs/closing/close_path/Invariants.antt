use Rattle.std.proofs.Common.{◌≡◌, ◌≤◌, take, length}
use Rattle.strong_components.specs.Search.{Closes}
use Rattle.strong_components.proofs.closing.close_path.Given as goal

abbrev pub invariant-loop-path : goal.invariant-loop-path
invariant-loop-path l = record {
  start : l.start ≤ length l.path.items;
  path : l.path.items ≡ take (length l.path.items) l.initial.path.items;
  shorter : length l.path.items ≤ length l.initial.path.items;
  closes : Closes l.initial.marks.items l.initial.path.items (length l.path.items) l.number l.marks.items;
}

abbrev pub decreases-loop-path : goal.decreases-loop-path
decreases-loop-path l = length l.path.items
