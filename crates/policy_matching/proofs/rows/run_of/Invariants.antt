use Rattle.std.proofs.Common.{◌≡◌, drop}
use Rattle.policy_matching.specs.Rows as spec
use Rattle.policy_matching.proofs.rows.run_of.Given as goal

abbrev pub invariant-loop-run : goal.invariant-loop-run
invariant-loop-run l = spec.run_of l.byte (drop l.run-index l.runs) ≡ spec.run_of l.byte l.runs
