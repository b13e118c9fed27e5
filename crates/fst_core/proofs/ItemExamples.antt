-- The definitions on a grammar and a machine, with near misses. The grammar has the one text `ab`: 0 is 1 and then
-- `b`, 1 is `a`. The machine puts out each byte twice, and counts the bytes that it has read.
use Rattle.std.proofs.Common.{◌≡◌, ℕ, suc, List, [], ◌∷◌, refl, arith}
use Rattle.text_base.specs.declared.byte_range.ByteRange.{ByteRange}
use Rattle.text_base.specs.declared.letter.Letter.{Letter}
use Rattle.text_base.specs.declared.letter.Letter.TheVariants.{OfByte}
use Rattle.cfg_grammar.specs.declared.symbol.Symbol.TheVariants.{Range, Nt}
use Rattle.cfg_grammar.specs.declared.production.Right.TheVariants.{One, Two}
use Rattle.cfg_grammar.specs.declared.production.Production.{Production}
use Rattle.cfg_grammar.specs.Derives.{Derives, by_range, by_one, by_two}
use Rattle.fst_core.specs.Outputs.{Outputs, Leads, DerivesText}
use Rattle.fst_core.specs.Items.{IsItem, ReadsTo, Enters, at_start, by_item}
use Rattle.fst_core.specs.Weight.{IsUnit, last}

abbrev a : ByteRange
a = record { lo = 97; hi = 97; ordered = omega arith }

abbrev b : ByteRange
b = record { lo = 98; hi = 98; ordered = omega arith }

abbrev text_ab : List Production
text_ab =
    record { left = record { 0 = 0 }; right = Two (Nt (record { 0 = 1 })) (Range b) } ∷ record { left = record { 0 = 1 }; right = One (Range a) } ∷ []

abbrev twice : ℕ → ℕ → ℕ → List Letter → Type 0
twice s byte t letters = (t ≡ suc s) × (letters ≡ OfByte byte ∷ OfByte byte ∷ [])

abbrev at_two : ℕ → List Letter → Type 0
at_two s letters = (s ≡ 2) × (letters ≡ OfByte 33 ∷ [])

derives_a : Derives text_ab (Nt (record { 0 = 1 })) (OfByte 97 ∷ [])
derives_a = by_one (record { 0 = 1 }) (Range a) (OfByte 97 ∷ []) (1, omega arith, refl) (by_range a 97 (omega arith, omega arith))

derives_ab : DerivesText text_ab (Nt (record { 0 = 0 })) (97 ∷ 98 ∷ [])
derives_ab =
    by_two (record { 0 = 0 }) (Nt (record { 0 = 1 })) (Range b) (OfByte 97 ∷ []) (OfByte 98 ∷ []) (0, omega arith, refl) derives_a
    (by_range b 98 (omega arith, omega arith))

-- each byte twice, and what the end puts out
puts_out : Outputs text_ab (Nt (record { 0 = 0 })) 0 twice at_two (OfByte 97 ∷ OfByte 97 ∷ OfByte 98 ∷ OfByte 98 ∷ OfByte 33 ∷ [])
puts_out = (
  97 ∷ 98 ∷ [],
  derives_ab,
  (
    2,
    OfByte 97 ∷ OfByte 97 ∷ OfByte 98 ∷ OfByte 98 ∷ [],
    OfByte 33 ∷ [],
    (1, OfByte 97 ∷ OfByte 97 ∷ [], OfByte 98 ∷ OfByte 98 ∷ [], (refl, refl), (2, OfByte 98 ∷ OfByte 98 ∷ [], [], (refl, refl), (refl, refl), refl), refl),
    (refl, refl),
    refl,
  ),
)

-- 1 leads from 0 to 1
leads_one : Leads text_ab twice 0 (Nt (record { 0 = 1 })) 1
leads_one = (97 ∷ [], OfByte 97 ∷ OfByte 97 ∷ [], derives_a, (1, OfByte 97 ∷ OfByte 97 ∷ [], [], (refl, refl), (refl, refl), refl))

-- the first production with its first symbol read
half_read : IsItem text_ab twice (record { 0 = 0 }) 0 (record { place = 0; entry = 0; after = 1 ∷ [] })
half_read =
    record {
      production = record { left = record { 0 = 0 }; right = Two (Nt (record { 0 = 1 })) (Range b) };
      placed = refl;
      entered = at_start;
      read = (leads_one, tt);
    }

-- behind the first symbol the machine comes to the range
comes_to_b : Enters text_ab twice (record { 0 = 0 }) 0 (Range b) 1
comes_to_b =
    by_item 0 (record { left = record { 0 = 0 }; right = Two (Nt (record { 0 = 1 })) (Range b) }) 0 (1 ∷ []) 1 (Range b) refl at_start (leads_one, tt) refl refl

-- no more symbols are read than the production has
not_three : (s t u : ℕ) → ReadsTo text_ab twice 0 (Nt (record { 0 = 1 }) ∷ Range b ∷ []) (s ∷ t ∷ u ∷ []) → ⊥
not_three s t u h = h.1.1

-- the second letter that the end puts out is no unit: there is one letter
no_second : IsUnit text_ab twice at_two (record { 0 = 0 }) 0 (last 2 (OfByte 33 ∷ []) 1) → ⊥
no_second u = absurd (omega (arith, u.2))
