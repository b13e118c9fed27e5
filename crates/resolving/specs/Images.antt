-- How an image is made and added to a draft. No public clause cites this.
use Rattle.std.specs.Prelude.{◌≡◌, ◌<◌, ◌≤◌, ◌+◌, ◌⊎◌, ℕ, true, List, length, Some, slice_get, Contains}
use Rattle.text_base.specs.declared.numbers.Nt as nt
use Rattle.cfg_grammar.specs.declared.symbol.Symbol.{Symbol}
use Rattle.cfg_grammar.specs.declared.symbol.Symbol.TheVariants.{Nt}
use Rattle.cfg_grammar.specs.declared.production.Production.{Production}
use Rattle.cfg_grammar.specs.declared.grammar.Grammar.{Grammar}
use Rattle.cfg_grammar.specs.Below.{symbols_of}
use Rattle.cfg_grammar.specs.Tokens.{production_without_token}
use Rattle.op_system.specs.Rel.{Rel}
use Rattle.op_system.specs.Size.{size_of}
use Rattle.op_system.specs.declared.system.OpRule.{OpRule}
use Rattle.fst_core.specs.declared.table.Table.{Table}
use Rattle.fst_core.specs.Tables.{TableStep}
use Rattle.string_ops.specs.Listed.{IsMachine}
use Rattle.grammar_image.specs.declared.refusal.ImageRefusal.{ImageRefusal}
use Rattle.grammar_image.specs.declared.refusal.ImageRefusal.TheVariants.{Large, Memory}
use Rattle.fst_core.specs.Items.{HasItems}
use Rattle.resolving.specs.Drafts.{AddsImage, moved}
use Rattle.resolving.specs.declared.draft.Draft.{Draft}
use Rattle.resolving.specs.Draft.{IsIndexed}

-- the number of the symbol fits 64 bits where it is so much higher
abbrev pub FitsSymbol : ℕ → Symbol → Type 0
FitsSymbol base symbol = (a : nt.Nt) → symbol ≡ Nt a → base + a.0 < 18446744073709551616

-- so do all numbers of the production
pub record FitsProduction (base : ℕ) (p : Production) : Type 0 where
  pub left : base + p.left.0 < 18446744073709551616
  pub right : (a : nt.Nt) → Contains (symbols_of p.right) (Nt a) → base + a.0 < 18446744073709551616

-- the production is one of these without a page token, with higher numbers
pub record IsMovedOf (base : ℕ) (qs : List Production) (p : Production) : Type 0 where
  pub from : Production
  pub among : Contains qs from
  pub plain : production_without_token from ≡ true
  pub is : p ≡ moved base from

-- the first n of the productions without a page token are put with higher numbers, and no other, at most n
pub record AddsProductions (base : ℕ) (qs : List Production) (n : ℕ) (old new : Draft) : Type 0 where
  pub indexed : IsIndexed new
  pub count : length new.chains.last.items ≡ length old.chains.last.items
  pub few : length new.productions.items ≤ length old.productions.items + n
  pub keeps : (p : Production) → Contains old.productions.items p → Contains new.productions.items p
  pub only : (p : Production) → Contains new.productions.items p → Contains old.productions.items p ⊎ IsMovedOf base qs p
  pub has : (k : ℕ) (q : Production) → k < n → slice_get qs k ≡ Some q → production_without_token q ≡ true
      → Contains new.productions.items (moved base q)

-- the sentences of the image without page tokens are added to the texts of a nonterminal, by its nonterminals, at most its productions, and
-- one production
pub record AddsMoved (left : nt.Nt) (image : Grammar) (old new : Draft) : Type 0 where
  pub indexed : IsIndexed new
  pub count : length new.chains.last.items ≡ length old.chains.last.items + image.count
  pub few : length new.productions.items ≤ length old.productions.items + (1 + length image.productions.items)
  pub adds : AddsImage old.productions.items left (length old.chains.last.items) image new.productions.items

-- the image of what the productions derive for the operand has at least so many items, under a machine of the operation
pub record HasManyItems (ps : List Production) (rule : OpRule) (items : ℕ) : Type 0 where
  pub table : Table
  pub machine : IsMachine table (size_of rule.op) (Rel rule.op)
  pub many : HasItems ps (TableStep table.moves.items) rule.operand table.start items

-- why there is no such image
abbrev pub IsImageCause : List Production → OpRule → ℕ → ImageRefusal → Type 0
IsImageCause ps rule limit (Large items) = (limit < items) × HasManyItems ps rule items
IsImageCause ps rule limit Memory = Unit {0}
