use Rattle.way_reader.proofs.Pushing.{HasElements}
use Rattle.way_reader.proofs.starting.Numbers.push_elements.Given as goal

-- with the elements from this one on it is all of them
abbrev pub invariant-loop-element : goal.invariant-loop-element
invariant-loop-element l = HasElements l.self.numbers.now l.self.elements l.initial.ways.items l.ways.items l.element
