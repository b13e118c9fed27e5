-- The machine of an operation that is known by its variant.
use Rattle.std.proofs.Common.{◌≡◌, Result, IfOk, sym, subst}
use Rattle.text_base.specs.declared.memory.NoMemory.{NoMemory}
use Rattle.op_system.specs.Rel.{Rel}
use Rattle.op_system.specs.Size.{size_of}
use Rattle.op_system.specs.declared.op.Op.{Op}
use Rattle.fst_core.specs.declared.table.Table.{Table}
use Rattle.string_ops.specs.Listed.{IsMachine}

pub machine_at : (r : Result Table NoMemory) (op known : Op) → op ≡ known → IfOk r (λ t. IsMachine t (size_of known) (Rel known)) → IfOk r (λ t. IsMachine t (size_of op) (Rel op))
machine_at r op known e h = subst (λ (x : Op). IfOk r (λ t. IsMachine t (size_of x) (Rel x))) (sym e) h
