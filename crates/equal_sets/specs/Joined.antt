-- The system in which sets that are equal by their rows are one.
use Rattle.std.specs.Prelude.{◌≡◌, ◌≤◌, ◌↔◌, ℕ, List, length, Contains}
use Rattle.text_base.specs.declared.numbers.Nt as nt
use Rattle.cfg_grammar.specs.declared.symbol.Symbol.TheVariants.{Nt}
use Rattle.cfg_grammar.specs.declared.production.Production.{Production}
use Rattle.op_system.specs.declared.system.OpRule.{OpRule}
use Rattle.op_system.specs.declared.system.OpSystem.{OpSystem}
use Rattle.op_bytes.specs.Texts.{TextOf}
use Rattle.op_bytes.specs.Cycles.{IsInCycle}
use Rattle.equal_sets.specs.Sets.{set_of, production_of, rule_of}

-- the production is one of the system by the sets
pub record IsOfProduction (sets : List nt.Nt) (s : OpSystem) (p : Production) : Type 0 where
  pub from : Production
  pub among : Contains s.grammar.productions.items from
  pub is : p ≡ production_of sets from

-- the rule is one of the system by the sets, and is in a cycle exactly where that is
pub record IsOfRule (sets : List nt.Nt) (s joined : OpSystem) (r : OpRule) : Type 0 where
  pub from : OpRule
  pub among : Contains s.ops.items from
  pub is : r ≡ rule_of sets from
  pub cycle : IsInCycle joined r ↔ IsInCycle s from

-- one nonterminal stands for each of the system, with exactly its texts; there are no productions and no rules but those of the system by
-- these, no more of them, and operations in cycles stay what they are
pub record IsJoined (s joined : OpSystem) : Type 0 where
  pub sets : List nt.Nt
  pub many : length sets ≡ s.grammar.count
  pub count : joined.grammar.count ≡ s.grammar.count
  pub start : joined.start ≡ set_of sets s.start
  pub texts : (a : nt.Nt) (w : List ℕ) → TextOf joined (Nt (set_of sets a)) w ↔ TextOf s (Nt a) w
  pub productions : (p : Production) → Contains joined.grammar.productions.items p → IsOfProduction sets s p
  pub rules : (r : OpRule) → Contains joined.ops.items r → IsOfRule sets s joined r
  pub few_productions : length joined.grammar.productions.items ≤ length s.grammar.productions.items
  pub few_rules : length joined.ops.items ≤ length s.ops.items
