use Rattle.std.proofs.Common.{subst}
use Rattle.op_system.specs.declared.system.OpSystem.{OpSystem}
use Rattle.equal_sets.specs.Joined.{IsJoined}
use Rattle.equal_sets.proofs.writing.join_equal.Goals as goal

pub returns : goal.returns
returns c = subst (λ (s : OpSystem). IsJoined s c.system_of.result) c.in_ok-rows.ensures.system c.system_of.ensures
