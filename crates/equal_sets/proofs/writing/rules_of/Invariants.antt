use Rattle.std.proofs.Common.{take}
use Rattle.equal_sets.specs.Written.{AreRulesOf}
use Rattle.equal_sets.proofs.writing.rules_of.Given as goal

abbrev pub invariant-loop-rule : goal.invariant-loop-rule
invariant-loop-rule l = AreRulesOf l.sets (take l.rule-index l.rules) l.made.items
