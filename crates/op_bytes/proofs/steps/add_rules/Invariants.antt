use Rattle.std.proofs.Common.{◌≡◌, vec_len}
use Rattle.op_bytes.specs.Steps.{AddsEdges, IsFirstRule}
use Rattle.op_bytes.proofs.steps.add_rules.Given as goal

abbrev pub invariant-loop-rule : goal.invariant-loop-rule
invariant-loop-rule l = record { len : vec_len l.edges ≡ vec_len l.initial.edges; adds : AddsEdges l.initial.edges.items l.edges.items (IsFirstRule l.rules l.rule-index) }
