-- Lines of productions, and near misses.
use Rattle.std.proofs.Common.{◌≡◌, [], ◌∷◌, refl, codes, arith}
use Rattle.std.specs.Fmt.{digits}
use Rattle.hex.specs.Hex.{encode_with}
use Rattle.text_base.specs.declared.byte_range.ByteRange.{ByteRange}
use Rattle.cfg_grammar.specs.declared.symbol.Symbol.TheVariants.{Range, Nt}
use Rattle.cfg_grammar.specs.declared.production.Right.TheVariants.{Empty, One, Two}
use Rattle.derivations.specs.Text.{written_number, range_text, line_text, grammar_text}

abbrev small : ByteRange
small = record { lo = 97; hi = 122; ordered = omega arith }

-- the start and 0 change places, the others stay
start_is_zero : written_number 7 7 ≡ 0
start_is_zero = refl

zero_is_start : written_number 7 0 ≡ 7
zero_is_start = refl

others_stay : written_number 7 3 ≡ 3
others_stay = refl

-- digits are of lower case, two a byte
all_bytes : range_text 10 255 ≡ codes "0a-ff"
unfolding encode_with
all_bytes = refl

range_and_number : line_text 7 (record { left = record { 0 = 7 }; right = Two (Range small) (Nt (record { 0 = 10 })) }) ≡ codes "n0 = 61-7a n10\n"
unfolding encode_with digits
range_and_number = refl

empty_right : grammar_text 0 (record { left = record { 0 = 2 }; right = Empty } ∷ record { left = record { 0 = 0 }; right = One (Nt (record { 0 = 2 })) } ∷ []) ≡ codes "n2 =\nn0 = n2\n"
unfolding digits
empty_right = refl
