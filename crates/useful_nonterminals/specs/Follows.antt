-- What follows from facts by rules: the least set of numbers (Dowling and Gallier, Linear-time algorithms for testing the
-- satisfiability of propositional Horn formulae, 1984).
use Rattle.std.specs.Prelude.{◌≡◌, ◌<◌, ℕ, Bool, true, List, Some, slice_get, Contains}
use Rattle.useful_nonterminals.specs.declared.rule.Rule.{Rule}

-- a fact follows, and the conclusion of a rule whose premises follow
pub data Follows (facts : List ℕ) (rules : List Rule) : ℕ → Type 0 where
  by_fact : (n : ℕ) → Contains facts n → Follows facts rules n
  by_rule : (a b n : ℕ) → Contains rules (record { first = a; second = b; conclusion = n }) → Follows facts rules a → Follows facts rules b
      → Follows facts rules n

-- the rule speaks of numbers below a count
pub record IsRuleBelow (count : ℕ) (rule : Rule) : Type 0 where
  pub first : rule.first < count
  pub second : rule.second < count
  pub conclusion : rule.conclusion < count

-- the number is marked
abbrev pub IsMarked : List Bool → ℕ → Type 0
IsMarked marks n = slice_get marks n ≡ Some true
