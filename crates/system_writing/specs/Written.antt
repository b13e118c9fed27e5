-- What it means that productions and rules are written for the rows of parts.
use Rattle.std.specs.Prelude.{◌≡◌, ℕ, true, List, [], ◌∷◌, Some, Contains, slice_get}
use Rattle.text_base.specs.declared.byte_range.ByteRange.{ByteRange}
use Rattle.text_base.specs.declared.numbers.Nt as nt
use Rattle.cfg_grammar.specs.declared.symbol.Symbol.{Symbol}
use Rattle.cfg_grammar.specs.declared.symbol.Symbol.TheVariants.{Range, Nt}
use Rattle.cfg_grammar.specs.declared.production.Right.{Right}
use Rattle.cfg_grammar.specs.declared.production.Right.TheVariants.{Empty, One, Two}
use Rattle.cfg_grammar.specs.declared.production.Production.{Production}
use Rattle.op_system.specs.declared.op.Op.{Op}
use Rattle.op_system.specs.declared.system.OpRule.{OpRule}
use Rattle.least_sets.specs.Forms.{Form, text_form, same_form, join_form, apply_form}
use Rattle.system_writing.specs.Parts.{Part, end_part, range_part, is_set}

-- a symbol stands for a part: a nonterminal for the part that is listed at its number, and a range for itself, or for a byte of a text
pub data Denotes {N : Type 0} (parts : List (Part N)) : Part N → Symbol → Type 0 where
  listed : (p : Part N) (n : nt.Nt) → slice_get parts n.0 ≡ Some p → Denotes parts p (Nt n)
  range : (r : ByteRange) → Denotes parts (range_part r) (Range r)
  byte : (b : ℕ) (r : ByteRange) → r.lo ≡ b → r.hi ≡ b → Denotes parts (end_part (b ∷ [])) (Range r)

-- a right side stands for a form
pub data IsRight {N : Type 0} (parts : List (Part N)) : Form (Part N) → Right → Type 0 where
  empty : IsRight parts (text_form []) Empty
  one : (p : Part N) (s : Symbol) → Denotes parts p s → IsRight parts (same_form p) (One s)
  two : (p q : Part N) (s t : Symbol) → Denotes parts p s → Denotes parts q t → IsRight parts (join_form p q) (Two s t)

-- each production stands for a row of the part at its left side, each rule for an operation of it, and each row of a listed part has its
-- production or rule; sets are listed once
pub record IsWritten {N : Type 0} (Row : Part N → Form (Part N) → Type 0) (parts : List (Part N)) (productions : List Production)
    (rules : List OpRule) : Type 0 where
  pub once : (p : Part N) (n m : ℕ) → is_set p ≡ true → slice_get parts n ≡ Some p → slice_get parts m ≡ Some p → n ≡ m
  pub each_production : (left : nt.Nt) (right : Right) → Contains productions (record { left = left; right = right })
      → (p : Part N) × (f : Form (Part N)) × (slice_get parts left.0 ≡ Some p) × Row p f × IsRight parts f right
  pub each_rule : (left operand : nt.Nt) (op : Op) → Contains rules (record { left = left; op = op; operand = operand })
      → (p : Part N) × (q : Part N) × (slice_get parts left.0 ≡ Some p) × (slice_get parts operand.0 ≡ Some q) × Row p (apply_form op q)
  pub all_empty : (p : Part N) (n : nt.Nt) → slice_get parts n.0 ≡ Some p → Row p (text_form [])
      → Contains productions (record { left = n; right = Empty })
  pub all_same : (p q : Part N) (n : nt.Nt) → slice_get parts n.0 ≡ Some p → Row p (same_form q)
      → (s : Symbol) × Denotes parts q s × Contains productions (record { left = n; right = One s })
  pub all_join : (p q r : Part N) (n : nt.Nt) → slice_get parts n.0 ≡ Some p → Row p (join_form q r)
      → (s : Symbol) × (t : Symbol) × Denotes parts q s × Denotes parts r t × Contains productions (record { left = n; right = Two s t })
  pub all_apply : (p q : Part N) (op : Op) (n : nt.Nt) → slice_get parts n.0 ≡ Some p → Row p (apply_form op q)
      → (m : nt.Nt) × (slice_get parts m.0 ≡ Some q) × Contains rules (record { left = n; op = op; operand = m })
  -- a byte alone is a range, and no part at a number
  pub no_byte : (b n : ℕ) → slice_get parts n ≡ Some (end_part (b ∷ [])) → ⊥
  pub no_range : (r : ByteRange) (n : ℕ) → slice_get parts n ≡ Some (range_part r) → ⊥
