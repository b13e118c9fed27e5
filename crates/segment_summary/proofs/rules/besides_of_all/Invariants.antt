use Rattle.std.proofs.Common.{◌≡◌, map, take}
use Rattle.dtd_model.specs.Table.{Rule, rule_of}
use Rattle.page_automata.specs.PageAutomaton as spec
use Rattle.segment_summary.proofs.rules.besides_of_all.Given as goal

abbrev pub invariant-loop-element : goal.invariant-loop-element
invariant-loop-element l = l.besides.items ≡ map (λ (r : Rule). spec.besides_of r.holding) (map rule_of (take l.element-index l.elements))
