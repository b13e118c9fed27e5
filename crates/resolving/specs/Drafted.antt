-- Drafts step by step: to the productions of a system its operations are added one after another, each once.
use Rattle.std.specs.Prelude.{◌≡◌, ◌<◌, ◌≤◌, ◌+◌, ◌↔◌, ℕ, Bool, List, [], ◌∷◌, length, Some, slice_get, Contains}
use Rattle.std.specs.List.{sum_by}
use Rattle.text_base.specs.ByteSet.{Has}
use Rattle.cfg_grammar.specs.declared.symbol.Symbol.TheVariants.{Nt}
use Rattle.cfg_grammar.specs.declared.production.Production.{Production}
use Rattle.cfg_grammar.specs.declared.grammar.Grammar.{Grammar}
use Rattle.op_system.specs.Rel.{Rel}
use Rattle.op_system.specs.Size.{size_of}
use Rattle.op_system.specs.declared.system.OpRule.{OpRule}
use Rattle.op_system.specs.declared.system.OpSystem.{OpSystem}
use Rattle.fst_core.specs.Tables.{TableStep, TableStop}
use Rattle.fst_core.specs.declared.table.Table.{Table}
use Rattle.string_ops.specs.Listed.{IsMachine}
use Rattle.fst_core.specs.Items.{HasItems}
use Rattle.fst_core.specs.Weight.{IsSmall}
use Rattle.op_bytes.specs.Texts.{ByteOf}
use Rattle.op_bytes.specs.Cycles.{IsInCycle}
use Rattle.resolving.specs.Resolved.{AreExact}
use Rattle.resolving.specs.Drafts.{AddsAny, AddsImage, IsImage}

-- an operation that was added: its place among those of the system, and the nonterminals and productions that came with it, at most
pub record Added : Type 0 where
  pub place : ℕ
  pub nonterminals : ℕ
  pub productions : ℕ

-- the operation at the place was added
abbrev pub HasAdded : List Added → ℕ → Type 0
HasAdded added place = (a : Added) × Contains added a × (a.place ≡ place)

-- the rule is that of the place, and was not added
pub record IsNext (s : OpSystem) (added : List Added) (place : ℕ) (rule : OpRule) : Type 0 where
  pub at : slice_get s.ops.items place ≡ Some rule
  pub fresh : HasAdded added place → ⊥

-- a rule in a cycle is added: all texts over its bytes, by one nonterminal and at most 130 productions
pub record AddsTexts (s : OpSystem) (ps : List Production) (count : ℕ) (rule : OpRule) (after : List Production) : Type 0 where
  pub in_cycle : IsInCycle s rule
  pub set : List Bool
  pub bytes : (b : ℕ) → b < 256 → Has set b ↔ ByteOf s (Nt rule.left) b
  pub adds : AddsAny ps rule.left (record { 0 = count }) set after
  pub few : length after ≤ length ps + 130

-- the grammar is the image of what the productions derive for the operand, under a machine of the operation, and is small for it
pub record IsImageOf (ps : List Production) (rule : OpRule) (image : Grammar) : Type 0 where
  pub table : Table
  pub machine : IsMachine table (size_of rule.op) (Rel rule.op)
  pub is : IsImage ps rule.operand table image
  pub small : IsSmall ps (TableStep table.moves.items) (TableStop table.ends.items) rule.operand table.start image.count
      (length image.productions.items)

-- a rule in no cycle is added, whose operand the productions derive exactly: its image, and one production more
pub record AddsOperation (s : OpSystem) (ps : List Production) (count : ℕ) (rule : OpRule) (image : Grammar) (after : List Production) :
    Type 0 where
  pub in_no_cycle : IsInCycle s rule → ⊥
  pub exact : AreExact s ps (Nt rule.operand)
  pub is_image : IsImageOf ps rule image
  pub adds : AddsImage ps rule.left count image after
  pub few : length after ≤ length ps + (1 + length image.productions.items)

-- the productions, over so many nonterminals, are those of the system and of these operations, the last added first
pub data Drafted (s : OpSystem) : List Production → ℕ → List Added → Type 0 where
  begins : Drafted s s.grammar.productions.items s.grammar.count []
  by_texts : (ps after : List Production) (count place : ℕ) (added : List Added) (rule : OpRule) → Drafted s ps count added
      → IsNext s added place rule → AddsTexts s ps count rule after
      → Drafted s after (count + 1) (record { place = place; nonterminals = 1; productions = 130 } ∷ added)
  by_image : (ps after : List Production) (count place : ℕ) (added : List Added) (rule : OpRule) (image : Grammar)
      → Drafted s ps count added → IsNext s added place rule → AddsOperation s ps count rule image after
      → Drafted s after (count + image.count)
      (record { place = place; nonterminals = image.count; productions = 1 + length image.productions.items } ∷ added)

-- the grammar is a draft with all operations of the system; its nonterminals are those of the system and of each operation, and so are, at
-- most, its productions
pub record IsResolved (s : OpSystem) (g : Grammar) : Type 0 where
  pub start : g.start ≡ s.start
  pub added : List Added
  pub drafted : Drafted s g.productions.items g.count added
  pub all : (place : ℕ) → place < length s.ops.items → HasAdded added place
  pub many : length added ≡ length s.ops.items
  pub nonterminals : g.count ≡ s.grammar.count + sum_by (λ a. a.nonterminals) added
  pub productions : length g.productions.items ≤ length s.grammar.productions.items + sum_by (λ a. a.productions) added

-- an operation in no cycle is to be added to a draft that derives its operand exactly, and its image, under a machine of it, has at least
-- so many items
pub record IsTooLarge (s : OpSystem) (items : ℕ) : Type 0 where
  pub productions : List Production
  pub count : ℕ
  pub added : List Added
  pub drafted : Drafted s productions count added
  pub place : ℕ
  pub rule : OpRule
  pub next : IsNext s added place rule
  pub in_no_cycle : IsInCycle s rule → ⊥
  pub exact : AreExact s productions (Nt rule.operand)
  pub table : Table
  pub machine : IsMachine table (size_of rule.op) (Rel rule.op)
  pub many : HasItems productions (TableStep table.moves.items) rule.operand table.start items
