use Rattle.std.proofs.Common.{◌≡◌, ◌++◌, drop, map}
use Rattle.page_decision.specs.TokenGrammars.{production_without_bytes}
use Rattle.page_decision.proofs.token_grammar.all_without_bytes.Given as goal

abbrev pub invariant-loop-production : goal.invariant-loop-production
invariant-loop-production l =
    l.made.items ++ map production_without_bytes (drop l.production-index l.productions) ≡ map production_without_bytes l.productions
