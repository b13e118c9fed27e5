-- The definitions on the grammar of `a` any number of times: 0 is empty, or 1 and then 0; 1 is `a`.
use Rattle.std.proofs.Common.{◌≡◌, ℕ, true, false, List, [], ◌∷◌, refl, arith}
use Rattle.std.specs.List.{Contains}
use Rattle.text_base.specs.declared.byte_range.ByteRange.{ByteRange}
use Rattle.text_base.specs.declared.page_token.PageToken.TheVariants.{Blank}
use Rattle.cfg_grammar.specs.declared.symbol.Symbol.{Symbol}
use Rattle.cfg_grammar.specs.declared.symbol.Symbol.TheVariants.{Range, Token, Nt}
use Rattle.text_base.specs.declared.letter.Letter.TheVariants.{OfByte}
use Rattle.cfg_grammar.specs.declared.production.Right.TheVariants.{Empty, One, Two}
use Rattle.cfg_grammar.specs.declared.production.Production.{Production}
use Rattle.cfg_grammar.specs.Below.{production_below, symbols_of}
use Rattle.cfg_grammar.specs.Tokens.{production_without_token}
use Rattle.cfg_grammar.specs.Derives.{Derives, by_range, by_empty, by_one, by_two, DerivesIn}

abbrev letter : ByteRange
letter = record { lo = 97; hi = 97; ordered = omega arith }

abbrev letters : List Production
letters =
    record { left = record { 0 = 0 }; right = Empty } ∷ record { left = record { 0 = 0 }; right = Two (Nt (record { 0 = 1 })) (Nt (record { 0 = 0 })) } ∷ record { left = record { 0 = 1 }; right = One (Range letter) } ∷ []

derives_nothing : Derives letters (Nt (record { 0 = 0 })) []
derives_nothing = by_empty (record { 0 = 0 }) (0, omega arith, refl)

derives_one : Derives letters (Nt (record { 0 = 0 })) (OfByte 97 ∷ [])
derives_one =
    by_two (record { 0 = 0 }) (Nt (record { 0 = 1 })) (Nt (record { 0 = 0 })) (OfByte 97 ∷ []) [] (1, omega arith, refl)
    (by_one (record { 0 = 1 }) (Range letter) (OfByte 97 ∷ []) (2, omega arith, refl) (by_range letter 97 (omega arith, omega arith)))
    derives_nothing

-- all are below two, and one is not below one
is_below_two : production_below 2 (record { left = record { 0 = 0 }; right = Two (Nt (record { 0 = 1 })) (Nt (record { 0 = 0 })) }) ≡ true
is_below_two = refl

is_not_below_one : production_below 1 (record { left = record { 0 = 0 }; right = Two (Nt (record { 0 = 1 })) (Nt (record { 0 = 0 })) }) ≡ false
is_not_below_one = refl

has_a_token : production_without_token (record { left = record { 0 = 0 }; right = Two (Range letter) (Token Blank) }) ≡ false
has_a_token = refl
