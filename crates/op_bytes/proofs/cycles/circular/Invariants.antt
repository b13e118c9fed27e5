use Rattle.std.proofs.Common.{◌≡◌, ◌↔◌, ℕ, Bool, Some, slice_get, length}
use Rattle.std.specs.Prelude.{IsTrue}
use Rattle.op_system.specs.declared.system.OpRule.{OpRule}
use Rattle.op_bytes.specs.Cycles.{IsInCycle}
use Rattle.op_bytes.proofs.cycles.circular.Given as goal

abbrev pub invariant-loop-rule : goal.invariant-loop-rule
invariant-loop-rule l = record {
  size : length l.marks.items ≡ l.rule-index;
  exact : (i : ℕ) (rule : OpRule) (mark : Bool) → slice_get l.s.ops.items i ≡ Some rule → slice_get l.marks.items i ≡ Some mark → IsTrue mark ↔ IsInCycle l.s rule;
}
