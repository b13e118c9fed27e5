use Rattle.std.proofs.Common.{◌≡◌, ◌+◌, drop, map}
use Rattle.dtd_model.specs.declared.dtd.ElementRule.{ElementRule}
use Rattle.dtd_model.specs.Table.{holding_of}
use Rattle.content_automata.specs.Shapes.{shape}
use Rattle.content_automata.specs.Counts.{pairs_in}
use Rattle.content_automata.proofs.counts.all_pairs.Given as goal

abbrev pub invariant-loop-element : goal.invariant-loop-element
invariant-loop-element l =
    l.sum + pairs_in (map (λ (r : ElementRule). shape (holding_of r.content)) (drop l.element-index l.elements)) ≡ pairs_in (map (λ (r : ElementRule). shape (holding_of r.content)) l.elements)
