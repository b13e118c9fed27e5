-- A system of productions and operations as a table of sets over its symbols.
use Rattle.std.specs.Prelude.{ℕ, List, [], ◌∷◌, Contains}
use Rattle.text_base.specs.declared.byte_range.ByteRange.{ByteRange}
use Rattle.text_base.specs.declared.numbers.Nt as nt
use Rattle.text_base.specs.ByteRange.{InRange}
use Rattle.cfg_grammar.specs.declared.symbol.Symbol.{Symbol}
use Rattle.cfg_grammar.specs.declared.symbol.Symbol.TheVariants.{Range, Nt}
use Rattle.cfg_grammar.specs.declared.production.Right.TheVariants.{Empty, One, Two}
use Rattle.cfg_grammar.specs.declared.production.Production.{Production}
use Rattle.op_system.specs.declared.op.Op.{Op}
use Rattle.op_system.specs.declared.system.OpRule.{OpRule}
use Rattle.least_sets.specs.Forms.{Form, text_form, same_form, join_form, apply_form}

-- a range has each of its bytes, a nonterminal what its productions join, and the outputs of its rules
pub data SystemRow (productions : List Production) (rules : List OpRule) : Symbol → Form Symbol → Type 0 where
  of_range : (r : ByteRange) (b : ℕ) → InRange r b → SystemRow productions rules (Range r) (text_form (b ∷ []))
  of_empty : (left : nt.Nt) → Contains productions (record { left = left; right = Empty })
      → SystemRow productions rules (Nt left) (text_form [])
  of_one : (left : nt.Nt) (a : Symbol) → Contains productions (record { left = left; right = One a })
      → SystemRow productions rules (Nt left) (same_form a)
  of_two : (left : nt.Nt) (a b : Symbol) → Contains productions (record { left = left; right = Two a b })
      → SystemRow productions rules (Nt left) (join_form a b)
  of_rule : (left operand : nt.Nt) (op : Op) → Contains rules (record { left = left; op = op; operand = operand })
      → SystemRow productions rules (Nt left) (apply_form op (Nt operand))
