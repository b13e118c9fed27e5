-- Which nonterminals a nonterminal of a system names.
use Rattle.std.specs.Prelude.{◌≡◌, ◌<◌, ◌⊎◌, ◌↔◌, ℕ, List, Some, slice_get, Contains}
use Rattle.smallvec.specs.SmallVec.{SmallVec}
use Rattle.strong_components.specs.Edges.{HasEdge}
use Rattle.cfg_grammar.specs.declared.symbol.Symbol.TheVariants.{Nt}
use Rattle.cfg_grammar.specs.declared.production.Production.{Production}
use Rattle.cfg_grammar.specs.Below.{symbols_of}
use Rattle.op_system.specs.declared.system.OpRule.{OpRule}

-- the second stands on the right of a production of the first, or is the operand of a rule of it
pub data IsStep (productions : List Production) (rules : List OpRule) (from to : ℕ) : Type 0 where
  by_production : (p : Production) → Contains productions p → p.left.0 ≡ from → Contains (symbols_of p.right) (Nt (record { 0 = to }))
      → IsStep productions rules from to
  by_rule : (r : OpRule) → Contains rules r → r.left.0 ≡ from → r.operand.0 ≡ to → IsStep productions rules from to

-- to the edges that were there some are added, and nothing else
abbrev pub AddsEdges : List (SmallVec ℕ) → List (SmallVec ℕ) → (ℕ → ℕ → Type 0) → Type 0
AddsEdges old new P = (a b : ℕ) → HasEdge new a b ↔ (HasEdge old a b ⊎ P a b)

-- the edge is one of the first productions
pub record IsFirstStep (productions : List Production) (n from to : ℕ) : Type 0 where
  pub place : ℕ
  pub production : Production
  pub before : place < n
  pub at : slice_get productions place ≡ Some production
  pub left : production.left.0 ≡ from
  pub right : Contains (symbols_of production.right) (Nt (record { 0 = to }))

-- the edge is one of the first rules
pub record IsFirstRule (rules : List OpRule) (n from to : ℕ) : Type 0 where
  pub place : ℕ
  pub rule : OpRule
  pub before : place < n
  pub at : slice_get rules place ≡ Some rule
  pub left : rule.left.0 ≡ from
  pub operand : rule.operand.0 ≡ to
