-- Productions and rules by the sets. No public clause cites this.
use Rattle.std.specs.Prelude.{◌≡◌, ◌≤◌, ◌+◌, ◌⊎◌, List, length, Contains}
use Rattle.text_base.specs.declared.numbers.Nt as nt
use Rattle.cfg_grammar.specs.declared.production.Production.{Production}
use Rattle.op_system.specs.declared.system.OpRule.{OpRule}
use Rattle.equal_sets.specs.Sets.{set_of, production_of, rule_of}

-- the production is among the new ones, which are the old ones beside it
pub record PutsProduction (old new : List Production) (p : Production) : Type 0 where
  pub keeps : (q : Production) → Contains old q → Contains new q
  pub has : Contains new p
  pub only : (q : Production) → Contains new q → Contains old q ⊎ (q ≡ p)
  pub few : length new ≤ length old + 1

-- the production is one of a nonterminal that stands for itself, by the sets
pub record IsProductionOf (sets : List nt.Nt) (productions : List Production) (p : Production) : Type 0 where
  pub from : Production
  pub among : Contains productions from
  pub still : set_of sets from.left ≡ from.left
  pub is : p ≡ production_of sets from

-- there are those, and no other, at most as many
pub record AreProductionsOf (sets : List nt.Nt) (productions made : List Production) : Type 0 where
  pub only : (p : Production) → Contains made p → IsProductionOf sets productions p
  pub all : (p : Production) → Contains productions p → set_of sets p.left ≡ p.left → Contains made (production_of sets p)
  pub few : length made ≤ length productions

-- the rule is one of a nonterminal that stands for itself, by the sets
pub record IsRuleOf (sets : List nt.Nt) (rules : List OpRule) (r : OpRule) : Type 0 where
  pub from : OpRule
  pub among : Contains rules from
  pub still : set_of sets from.left ≡ from.left
  pub is : r ≡ rule_of sets from

-- there are those, and no other, at most as many
pub record AreRulesOf (sets : List nt.Nt) (rules made : List OpRule) : Type 0 where
  pub only : (r : OpRule) → Contains made r → IsRuleOf sets rules r
  pub all : (r : OpRule) → Contains rules r → set_of sets r.left ≡ r.left → Contains made (rule_of sets r)
  pub few : length made ≤ length rules
