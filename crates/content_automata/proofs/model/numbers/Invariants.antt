use Rattle.std.proofs.Common.{◌≡◌, map, take}
use Rattle.text_base.specs.declared.numbers.Elem.{Elem}
use Rattle.content_automata.proofs.model.numbers.Given as goal

abbrev pub invariant-loop-element : goal.invariant-loop-element
invariant-loop-element l = l.numbers.items ≡ map (λ (e : Elem). e.0) (take l.element-index l.elements)
