-- The rows of the grammar on a few bytes: which production stands for a row, and which does not.
use Rattle.std.proofs.Common.{Some, refl, arith}
use Rattle.std.specs.Prelude.{Contains}
use Rattle.text_base.specs.declared.byte_range.ByteRange.{ByteRange}
use Rattle.cfg_grammar.specs.declared.symbol.Symbol.TheVariants.{Range, Nt}
use Rattle.cfg_grammar.specs.declared.production.Right.TheVariants.{One, Two}
use Rattle.given_texts.specs.declared.text_rows.TheConstants.{ROWS, ENDS}
use Rattle.given_texts.specs.Rows.{IsFor}

abbrev leads : ByteRange
leads = record { lo = 0xC2; hi = 0xDF; ordered = omega arith }

-- the first bytes of two
of_two : IsFor (1, 0xC2, 0xDF, Some 2) (record { left = record { 0 = 1 }; right = Two (Range leads) (Nt (record { 0 = 2 })) })
of_two = (refl, leads, refl, refl, refl)

is_a_row : Contains ROWS (1, 0xC2, 0xDF, Some 2)
is_a_row = (3, omega arith, refl)

-- one byte alone is none of its productions
not_alone : IsFor (1, 0xC2, 0xDF, Some 2) (record { left = record { 0 = 1 }; right = One (Range leads) }) → ⊥
not_alone h = cc

-- a text may be empty
texts_end : Contains ENDS 0
texts_end = (0, omega arith, refl)
