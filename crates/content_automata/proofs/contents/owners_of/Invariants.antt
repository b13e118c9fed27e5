use Rattle.std.proofs.Common.{◌≡◌, map, take}
use Rattle.content_automata.specs.Tables.{Key}
use Rattle.content_automata.proofs.contents.owners_of.Given as goal

abbrev pub invariant-loop-number : goal.invariant-loop-number
invariant-loop-number l = l.owners.items ≡ map (λ (k : Key). k.0) (take l.number l.keys.keys)
