use Rattle.std.proofs.Common.{◌≡◌, ◌<◌, ℕ, Some, slice_get}
use Rattle.op_system.specs.declared.system.OpRule.{OpRule}
use Rattle.op_bytes.specs.Cycles.{IsInCycle}
use Rattle.resolving.proofs.resolution.needed_sets.Given as goal

abbrev pub invariant-loop-rule : goal.invariant-loop-rule
invariant-loop-rule l = (i : ℕ) (rule : OpRule) → i < l.rule-index → slice_get l.s.ops.items i ≡ Some rule → IsInCycle l.s rule → ⊥
