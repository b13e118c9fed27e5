use Rattle.std.proofs.Common.{◌≡◌, ◌++◌, drop}
use Rattle.useful_nonterminals.specs.Rules.{steps_of}
use Rattle.useful_nonterminals.proofs.useful.all_steps.Given as goal

abbrev pub invariant-loop-production : goal.invariant-loop-production
invariant-loop-production l = l.steps.items ++ steps_of l.marks (drop l.production-index l.productions) ≡ steps_of l.marks l.productions
