use Rattle.std.proofs.Common.{◌≡◌, ◌++◌, drop}
use Rattle.content_automata.specs.Ascending as plain
use Rattle.content_automata.proofs.sets.ascending.Given as goal

-- with what is left it is all
abbrev pub invariant-loop-number : goal.invariant-loop-number
invariant-loop-number l = l.found.items ++ plain.ascending l.least l.bound (drop l.number-index l.numbers) ≡ plain.ascending 0 l.bound l.numbers
