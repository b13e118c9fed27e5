use Rattle.std.proofs.Common.{◌≡◌, drop}
use Rattle.number_kinds.specs.Kinds as spec
use Rattle.number_kinds.proofs.kinds.kind_in.Given as goal

abbrev pub invariant-loop-last : goal.invariant-loop-last
invariant-loop-last l = spec.kind_in (drop l.last-index l.rows) l.number ≡ spec.kind_in l.rows l.number
