use Rattle.std.proofs.Common.{◌≡◌, ◌≤◌, length}
use Rattle.program_files.specs.View.{files_of}
use Rattle.program_sizes.specs.Bodies.{IsTableOfFirst}
use Rattle.program_sizes.proofs.table.table_of.Given as goal

abbrev pub invariant-loop-place : goal.invariant-loop-place
invariant-loop-place l = record {
  first : IsTableOfFirst (files_of l.files) l.order l.place-index l.table.items;
  size : length l.table.items ≡ length (files_of l.files);
  within : l.place-index ≤ length l.order;
}
