use Rattle.std.proofs.Common.{◌≡◌, ◌++◌, drop}
use Rattle.useful_nonterminals.specs.Naming.{named_productions}
use Rattle.useful_nonterminals.proofs.trimming.named_productions.Given as goal

abbrev pub invariant-loop-production : goal.invariant-loop-production
invariant-loop-production l = l.named.items ++ named_productions l.names (drop l.production-index l.productions) ≡ named_productions l.names l.productions
