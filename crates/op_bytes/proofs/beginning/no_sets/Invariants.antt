use Rattle.std.proofs.Common.{◌≡◌, All, length}
use Rattle.text_base.specs.ByteSet.{no_bytes}
use Rattle.op_bytes.proofs.beginning.no_sets.Given as goal

abbrev pub invariant-loop : goal.invariant-loop
invariant-loop l = record { len : length l.sets.items ≡ l.counter; none : All (λ set. set ≡ no_bytes) l.sets.items }
