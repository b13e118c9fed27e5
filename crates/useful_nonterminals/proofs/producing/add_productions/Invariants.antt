use Rattle.std.proofs.Common.{◌≡◌, ◌++◌, drop}
use Rattle.useful_nonterminals.specs.Rules.{facts_of, rules_of}
use Rattle.useful_nonterminals.proofs.producing.add_productions.Given as goal

abbrev pub invariant-loop-production : goal.invariant-loop-production
invariant-loop-production l =
    record {
      facts : l.facts.items ++ facts_of (drop l.production-index l.productions) ≡ l.initial.facts.items ++ facts_of l.productions;
      rules : l.rules.items ++ rules_of (drop l.production-index l.productions) ≡ l.initial.rules.items ++ rules_of l.productions;
    }
