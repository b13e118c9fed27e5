use Rattle.std.proofs.Common.{◌≡◌, vec_len}
use Rattle.op_bytes.specs.Steps.{AddsEdges, IsFirstStep}
use Rattle.op_bytes.proofs.steps.add_productions.Given as goal

abbrev pub invariant-loop-p : goal.invariant-loop-p
invariant-loop-p l = record { len : vec_len l.edges ≡ vec_len l.initial.edges; adds : AddsEdges l.initial.edges.items l.edges.items (IsFirstStep l.productions l.p-index) }
