use Rattle.std.proofs.Common.{List, length, subst, arith}
use Rattle.cfg_grammar.specs.declared.production.Production.{Production}
use Rattle.op_system.specs.declared.system.OpRule.{OpRule}
use Rattle.op_bytes.specs.Steps.{AddsEdges, IsFirstStep, IsFirstRule}
use Rattle.op_bytes.proofs.EdgeLemmas.{all_steps, steps_within}
use Rattle.op_bytes.proofs.steps.steps.Goals as goal

pub returns-clause-exact : goal.returns-clause-exact
returns-clause-exact c =
    all_steps c.in_ok-edges.edges.items c.add_productions.new.edges.items c.add_rules.new.edges.items c.args.s.now.grammar.productions.items c.args.s.now.ops.items c.in_ok-edges.ensures.none
    (subst (λ (ps : List Production). AddsEdges c.in_ok-edges.edges.items c.add_productions.new.edges.items (IsFirstStep ps (length ps))) c.as_slice.ensures.value c.in_ok-add_productions.ensures.adds)
    (subst (λ (rs : List OpRule). AddsEdges c.add_productions.new.edges.items c.add_rules.new.edges.items (IsFirstRule rs (length rs))) c.as_slice-2.ensures.value c.in_ok-add_rules.ensures.adds)

pub returns-clause-within : goal.returns-clause-within
returns-clause-within c =
    steps_within c.add_rules.new.edges.items c.args.s.now.grammar.count c.args.s.now.grammar.productions.items c.args.s.now.ops.items
    (omega (arith, c.in_ok-add_rules.ensures.len, c.in_ok-add_productions.ensures.len, c.in_ok-edges.ensures.len, c.add_rules.new.edges.ok.0))
    c.args.s.now.grammar.below c.args.s.now.rules_below
    (all_steps c.in_ok-edges.edges.items c.add_productions.new.edges.items c.add_rules.new.edges.items c.args.s.now.grammar.productions.items c.args.s.now.ops.items c.in_ok-edges.ensures.none
    (subst (λ (ps : List Production). AddsEdges c.in_ok-edges.edges.items c.add_productions.new.edges.items (IsFirstStep ps (length ps))) c.as_slice.ensures.value c.in_ok-add_productions.ensures.adds)
    (subst (λ (rs : List OpRule). AddsEdges c.add_productions.new.edges.items c.add_rules.new.edges.items (IsFirstRule rs (length rs))) c.as_slice-2.ensures.value c.in_ok-add_rules.ensures.adds))
