-- Which productions stand for the rows of the grammar.
use Rattle.std.specs.Prelude.{◌≡◌, ◌≤◌, ℕ, List, Option, Some, None, Contains}
use Rattle.text_base.specs.declared.byte_range.ByteRange.{ByteRange}
use Rattle.cfg_grammar.specs.declared.symbol.Symbol.TheVariants.{Range, Nt}
use Rattle.cfg_grammar.specs.declared.production.Right.{Right}
use Rattle.cfg_grammar.specs.declared.production.Right.TheVariants.{Empty, One, Two}
use Rattle.cfg_grammar.specs.declared.production.Production.{Production}
use Rattle.given_texts.specs.declared.text_rows.TheConstants.{ROWS, ENDS}

-- a nonterminal, the first and the last byte of a range, and the nonterminal behind it, if there is one
abbrev pub Row : Type 0
Row = ℕ × ℕ × ℕ × Option ℕ

-- the range has a byte
abbrev pub IsOrdered : Row → Type 0
IsOrdered row = row.1 ≤ row.2

-- a range alone, or before a nonterminal
abbrev pub right_with : ByteRange → Option ℕ → Right
right_with r None = One (Range r)
right_with r (Some n) = Two (Range r) (Nt (record { 0 = n }))

-- the production stands for the row
abbrev pub IsFor : Row → Production → Type 0
IsFor row p = (p.left.0 ≡ row.0) × (r : ByteRange) × (r.lo ≡ row.1) × (r.hi ≡ row.2) × (p.right ≡ right_with r row.3)

-- each row has its production, and each production is that of a row
pub record AreFor (rows : List Row) (ps : List Production) : Type 0 where
  pub each : (p : Production) → Contains ps p → (row : Row) × Contains rows row × IsFor row p
  pub all : (row : Row) → Contains rows row → (p : Production) × Contains ps p × IsFor row p

-- the nonterminal derives the empty text
abbrev pub end_production : ℕ → Production
end_production n = record { left = record { 0 = n }; right = Empty }

-- any number of characters is any number of them and one more
abbrev pub more_characters : Production
more_characters = record { left = record { 0 = 0 }; right = Two (Nt (record { 0 = 0 })) (Nt (record { 0 = 1 })) }

-- what the productions of the grammar are
pub data IsOne : Production → Type 0 where
  an_end : (n : ℕ) → Contains ENDS n → IsOne (end_production n)
  more : IsOne more_characters
  a_row : (row : Row) (p : Production) → Contains ROWS row → IsFor row p → IsOne p

-- the productions of the grammar: those of the ends, that of one more character, those of the rows, and no other
pub record AreAll (ps : List Production) : Type 0 where
  pub each : (p : Production) → Contains ps p → IsOne p
  pub ends : (n : ℕ) → Contains ENDS n → Contains ps (end_production n)
  pub more : Contains ps more_characters
  pub rows : (row : Row) → Contains ROWS row → (p : Production) × Contains ps p × IsFor row p
