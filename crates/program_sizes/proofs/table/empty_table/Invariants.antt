use Rattle.std.proofs.Common.{◌≡◌, length}
use Rattle.program_sizes.proofs.table.empty_table.Given as goal

abbrev pub invariant-loop-count : goal.invariant-loop-count
invariant-loop-count l = length l.table.items ≡ l._count
