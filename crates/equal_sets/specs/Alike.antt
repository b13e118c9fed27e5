-- When two nonterminals have the same rows by the sets, or one takes over the other. No public clause cites this.
use Rattle.std.specs.Prelude.{◌≡◌, ◌<◌, ◌↔◌, ℕ, List, length, Some, slice_get, slice_index_or, Contains}
use Rattle.text_base.specs.declared.numbers.Nt as nt
use Rattle.cfg_grammar.specs.declared.symbol.Symbol.TheVariants.{Nt}
use Rattle.cfg_grammar.specs.declared.production.Right.TheVariants.{One}
use Rattle.cfg_grammar.specs.declared.production.Production.{Production}
use Rattle.op_system.specs.declared.system.OpRule.{OpRule}
use Rattle.op_system.specs.declared.system.OpSystem.{OpSystem}
use Rattle.op_bytes.specs.Cycles.{IsInCycle}
use Rattle.equal_sets.specs.Sets.{set_of, right_of}

-- the number of a nonterminal, 0 where it has none
abbrev pub number_of : List ℕ → nt.Nt → ℕ
number_of numbers a = slice_index_or numbers a.0 0

-- the productions at the places have one right side by the sets
pub record AreAlikeAt (productions : List Production) (sets : List nt.Nt) (i j : ℕ) : Type 0 where
  pub first : Production
  pub second : Production
  pub first_at : slice_get productions i ≡ Some first
  pub second_at : slice_get productions j ≡ Some second
  pub alike : right_of sets first.right ≡ right_of sets second.right

-- the rules have one operation on one operand by the sets, and both are in a cycle or none is
pub record AreSame (s : OpSystem) (sets : List nt.Nt) (first second : OpRule) : Type 0 where
  pub op : first.op ≡ second.op
  pub operand : set_of sets first.operand ≡ set_of sets second.operand
  pub cycle : IsInCycle s first ↔ IsInCycle s second

-- so have those at the places
pub record AreSameAt (s : OpSystem) (sets : List nt.Nt) (i j : ℕ) : Type 0 where
  pub first : OpRule
  pub second : OpRule
  pub first_at : slice_get s.ops.items i ≡ Some first
  pub second_at : slice_get s.ops.items j ≡ Some second
  pub same : AreSame s sets first second

-- two lists are as long, and what stands at one place of both is related
pub record ArePaired (P : ℕ → ℕ → Type 0) (xs ys : List ℕ) : Type 0 where
  pub long : length xs ≡ length ys
  pub each : (k i j : ℕ) → slice_get xs k ≡ Some i → slice_get ys k ≡ Some j → P i j

-- the second nonterminal has a production with the same right side by the sets
pub record HasRight (s : OpSystem) (sets : List nt.Nt) (b : nt.Nt) (p : Production) : Type 0 where
  pub other : Production
  pub among : Contains s.grammar.productions.items other
  pub left : other.left ≡ b
  pub alike : right_of sets p.right ≡ right_of sets other.right

-- so it has for each production of the first
abbrev pub HasRights : OpSystem → List nt.Nt → nt.Nt → nt.Nt → Type 0
HasRights s sets a b = (p : Production) → Contains s.grammar.productions.items p → p.left ≡ a → HasRight s sets b p

-- the second nonterminal has a rule that is the same by the sets
pub record HasRule (s : OpSystem) (sets : List nt.Nt) (b : nt.Nt) (r : OpRule) : Type 0 where
  pub other : OpRule
  pub among : Contains s.ops.items other
  pub left : other.left ≡ b
  pub same : AreSame s sets r other

-- so it has for each rule of the first
abbrev pub HasRules : OpSystem → List nt.Nt → nt.Nt → nt.Nt → Type 0
HasRules s sets a b = (r : OpRule) → Contains s.ops.items r → r.left ≡ a → HasRule s sets b r

-- both have the same rows by the sets
pub record IsEqual (s : OpSystem) (sets : List nt.Nt) (a b : nt.Nt) : Type 0 where
  pub rights : HasRights s sets a b
  pub rights_back : HasRights s sets b a
  pub rules : HasRules s sets a b
  pub rules_back : HasRules s sets b a

-- the right side of the production is one nonterminal with a lower number than the first, for which the second stands
pub record IsLower (numbers : List ℕ) (sets : List nt.Nt) (a b : nt.Nt) (p : Production) : Type 0 where
  pub to : nt.Nt
  pub right : p.right ≡ One (Nt to)
  pub stands : set_of sets to ≡ b
  pub lower : number_of numbers to < number_of numbers a

-- so is that of the production at the place
pub record LeadsLower (s : OpSystem) (numbers : List ℕ) (sets : List nt.Nt) (a b : nt.Nt) (place : ℕ) : Type 0 where
  pub production : Production
  pub at : slice_get s.grammar.productions.items place ≡ Some production
  pub is : IsLower numbers sets a b production

-- the first takes over sets for which the second stands, one at least, and nothing else
pub record IsAlias (s : OpSystem) (numbers : List ℕ) (sets : List nt.Nt) (a b : nt.Nt) : Type 0 where
  pub some : Production
  pub among : Contains s.grammar.productions.items some
  pub left : some.left ≡ a
  pub lower : (p : Production) → Contains s.grammar.productions.items p → p.left ≡ a → IsLower numbers sets a b p
  pub no_rule : (r : OpRule) → Contains s.ops.items r → r.left ≡ a → ⊥
