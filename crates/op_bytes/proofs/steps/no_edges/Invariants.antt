use Rattle.std.proofs.Common.{◌≡◌, [], All, vec_len}
use Rattle.op_bytes.proofs.steps.no_edges.Given as goal

abbrev pub invariant-loop : goal.invariant-loop
invariant-loop l = record { len : vec_len l.edges ≡ l.counter; empty : All (λ targets. targets.items ≡ []) l.edges.items }
