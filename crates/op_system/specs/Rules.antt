-- Which nonterminals the rules of a system speak of: those below a count.
use Rattle.std.specs.Prelude.{ℕ, Bool, ◌&&◌, nat_lt, List, IsTrue}
use Rattle.std.specs.List.{list_all}
use Rattle.op_system.specs.declared.system.OpRule.{OpRule}

-- both nonterminals of the rule, that of the outputs and that of the inputs, are below the count
abbrev pub rule_below : ℕ → OpRule → Bool
rule_below count rule = nat_lt rule.left.0 count && nat_lt rule.operand.0 count

-- each nonterminal of the rules is below the count
abbrev pub RulesAreBelow : ℕ → List OpRule → Type 0
RulesAreBelow count rules = IsTrue (list_all (rule_below count) rules)
