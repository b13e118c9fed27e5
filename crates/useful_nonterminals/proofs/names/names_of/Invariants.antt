use Rattle.std.proofs.Common.{◌≡◌, ◌≤◌, length}
use Rattle.useful_nonterminals.specs.Naming.{IsNaming}
use Rattle.useful_nonterminals.proofs.names.names_of.Given as goal

abbrev pub invariant-loop-number : goal.invariant-loop-number
invariant-loop-number l = record { naming : IsNaming l.useful l.start l.names.items l.count; all : length l.names.items ≡ l.number; few : l.count ≤ l.number }
