use Rattle.content_automata.specs.Shapes.{state_behind}
use Rattle.content_automata.specs.Views.{shape_of}
use Rattle.content_automata.proofs.TableLemmas.{Filled}
use Rattle.content_automata.proofs.table.cells.Given as goal

abbrev pub invariant-loop-behind : goal.invariant-loop-behind
invariant-loop-behind l = Filled l.fn.keys.keys l.keys.keys l.element l.count (state_behind l.count (shape_of l.model) l.flags) l.cells.items l.behind-index
