use Rattle.std.proofs.Common.{◌≡◌, ◌++◌, drop}
use Rattle.op_bytes.specs.Work.{uses_of}
use Rattle.op_bytes.proofs.uses.add_productions.Given as goal

abbrev pub invariant-loop-p : goal.invariant-loop-p
invariant-loop-p l = l.uses.items ++ uses_of (drop l.p-index l.productions) ≡ l.initial.uses.items ++ uses_of l.productions
