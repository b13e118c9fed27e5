-- Which operations of a system are in a cycle, and numbers of nonterminals by which they are told.
use Rattle.std.specs.Prelude.{◌≡◌, ◌≤◌, ◌↔◌, ℕ, Bool, List, length, Some, slice_get, IsTrue}
use Rattle.text_base.specs.declared.numbers.Nt as nt
use Rattle.cfg_grammar.specs.declared.symbol.Symbol.TheVariants.{Nt}
use Rattle.op_system.specs.declared.system.OpRule.{OpRule}
use Rattle.op_system.specs.declared.system.OpSystem.{OpSystem}
use Rattle.least_sets.specs.Sets.{DependsOn, IsCircular}
use Rattle.op_bytes.specs.Texts.{RowOf}

-- each nonterminal has a number: it depends on none with a higher one, and those with one number depend on each other
pub record AreNumbers (s : OpSystem) (numbers : List ℕ) : Type 0 where
  pub size : length numbers ≡ s.grammar.count
  pub falls : (a b : nt.Nt) (n m : ℕ) → DependsOn (RowOf s) (Nt a) (Nt b) → slice_get numbers a.0 ≡ Some n → slice_get numbers b.0 ≡ Some m
      → m ≤ n
  pub joined : (a b : nt.Nt) (n : ℕ) → slice_get numbers a.0 ≡ Some n → slice_get numbers b.0 ≡ Some n → DependsOn (RowOf s) (Nt a) (Nt b)

-- the rule's operation is in a cycle
abbrev pub IsInCycle : OpSystem → OpRule → Type 0
IsInCycle s rule = IsCircular (RowOf s) (Nt rule.left) rule.op (Nt rule.operand)

-- for each rule, whether its operation is in a cycle
pub record AreCircular (s : OpSystem) (marks : List Bool) : Type 0 where
  pub size : length marks ≡ length s.ops.items
  pub exact : (i : ℕ) (rule : OpRule) (mark : Bool) → slice_get s.ops.items i ≡ Some rule → slice_get marks i ≡ Some mark
      → IsTrue mark ↔ IsInCycle s rule
