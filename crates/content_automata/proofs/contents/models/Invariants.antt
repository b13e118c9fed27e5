use Rattle.std.proofs.Common.{◌≡◌, map, take}
use Rattle.dtd_model.specs.declared.dtd.ElementRule.{ElementRule}
use Rattle.dtd_model.specs.Table.{holding_of}
use Rattle.content_automata.specs.Shapes.{shape}
use Rattle.content_automata.specs.Views.{shapes_of}
use Rattle.content_automata.proofs.contents.models.Given as goal

abbrev pub invariant-loop-element : goal.invariant-loop-element
invariant-loop-element l = shapes_of l.models.items ≡ map (λ (r : ElementRule). shape (holding_of r.content)) (take l.element-index l.elements)
