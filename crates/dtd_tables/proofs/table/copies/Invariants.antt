use Rattle.std.proofs.Common.{◌≡◌, map}
use Rattle.dtd_tables.proofs.table.copies.Given as goal

abbrev pub invariant-loop-name : goal.invariant-loop-name
invariant-loop-name l = l.list.items ≡ map (λ b. b.now) l.yielded
