use Rattle.std.proofs.Common.{List, length, subst}
use Rattle.cfg_grammar.specs.declared.production.Production.{Production}
use Rattle.op_system.specs.declared.system.OpRule.{OpRule}
use Rattle.op_bytes.specs.Work.{Gains, HasRange, HasLiteral}
use Rattle.op_bytes.proofs.GainLemmas.{first_sets_are}
use Rattle.op_bytes.proofs.sets.first_sets.Goals as goal

pub returns : goal.returns
returns c =
    first_sets_are c.args.s.now c.in_ok-sets.sets.items c.add_ranges.new.sets.items c.add_literals.new.sets.items c.in_ok-sets.ensures.len c.in_ok-sets.ensures.none
    (subst (λ (ps : List Production). Gains c.in_ok-sets.sets.items (HasRange ps (length ps)) c.add_ranges.new.sets.items) c.as_slice.ensures.value c.add_ranges.ensures)
    (subst (λ (rs : List OpRule). Gains c.add_ranges.new.sets.items (HasLiteral rs (length rs)) c.add_literals.new.sets.items) c.as_slice-2.ensures.value c.add_literals.ensures)
