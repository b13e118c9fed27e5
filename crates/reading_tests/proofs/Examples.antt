-- Statements of the small language: how they are derived, how they are not, and where others go wrong.
use Rattle.std.proofs.Common.{◌≡◌, ℕ, List, [], ◌∷◌, refl, sym, arith}
use Rattle.lr_tables.specs.declared.event.Event as event
use Rattle.lr_tables.specs.Grammars.{IsDerived, IsFirstWrong}
use Rattle.lr_tables.specs.Machine.{Read, run}
use Rattle.lr_tables.proofs.Sound.{is_sound}
use Rattle.lr_tables.proofs.Complete.{is_complete, moves_of, tables_of}
use Rattle.lr_tables.proofs.Placed.{is_placed}
use Rattle.reading_tests.specs.Certificate.{certificate}
use Rattle.reading_tests.specs.Small.{small}
use Rattle.reading_tests.proofs.AreGood.{are_good, are_checked}

abbrev token : event.Event
token = event.TheVariants.Token

abbrev by : ℕ → event.Event
by p = event.TheVariants.Rule p

-- NUMBER + NUMBER * NUMBER;
abbrev sum : List ℕ
sum = 16 ∷ 12 ∷ 16 ∷ 13 ∷ 16 ∷ 4 ∷ []

-- the product (rule 13) is a part of the sum (rule 12)
abbrev product_inside : List event.Event
product_inside = by 1 ∷ token ∷ by 17 ∷ token ∷ token ∷ by 17 ∷ token ∷ token ∷ by 17 ∷ by 13 ∷ by 12 ∷ token ∷ by 4 ∷ by 2 ∷ by 0 ∷ []

sum_is_read : run small 40 [] sum ≡ Read product_inside
unfolding run small
sum_is_read = refl

sum_is_derived : IsDerived small.grammar sum product_inside
sum_is_derived = is_sound small (moves_of small certificate are_good) 40 sum product_inside sum_is_read

-- and not the sum a part of the product
abbrev sum_inside : List event.Event
sum_inside = by 1 ∷ token ∷ by 17 ∷ token ∷ token ∷ by 17 ∷ by 12 ∷ token ∷ token ∷ by 17 ∷ by 13 ∷ token ∷ by 4 ∷ by 2 ∷ by 0 ∷ []

only_so : (es : List event.Event) → IsDerived small.grammar sum es → Read es ≡ Read product_inside
unfolding run small
only_so es d = sym (is_complete small certificate (tables_of small certificate are_good) sum es d 40 (omega arith))

differ : Read sum_inside ≡ Read product_inside → ⊥
differ e = cc

not_sum_inside : IsDerived small.grammar sum sum_inside → ⊥
not_sum_inside d = differ (only_so sum_inside d)

-- if (a) if (b) c; else d;
abbrev nested : List ℕ
nested = 2 ∷ 5 ∷ 15 ∷ 6 ∷ 2 ∷ 5 ∷ 15 ∷ 6 ∷ 15 ∷ 4 ∷ 3 ∷ 15 ∷ 4 ∷ []

-- the else (rule 8) is within the inner if (rule 5), and the outer one has none (rule 7)
nested_is_read : run small 60 [] nested ≡ Read (by 1 ∷ token ∷ token ∷ token ∷ by 16 ∷ token ∷ token ∷ token ∷ token ∷ by 16 ∷ token ∷ token ∷ by 16 ∷ token ∷ by 4 ∷ token ∷ token ∷ by 16 ∷ token ∷ by 4 ∷ by 8 ∷ by 5 ∷ by 7 ∷ by 5 ∷ by 2 ∷ by 0 ∷ [])
unfolding run small
nested_is_read = refl

-- NUMBER == NUMBER == NUMBER; goes wrong at its second ==, though a == stands behind each of the numbers before
twice_is_wrong : IsFirstWrong small.grammar (16 ∷ 11 ∷ 16 ∷ 11 ∷ 16 ∷ 4 ∷ []) 3
unfolding run small
twice_is_wrong = is_placed small are_checked 40 (16 ∷ 11 ∷ 16 ∷ 11 ∷ 16 ∷ 4 ∷ []) (11 ∷ 16 ∷ 4 ∷ []) refl

-- echo NUMBER goes wrong at its end
short_is_wrong : IsFirstWrong small.grammar (1 ∷ 16 ∷ []) 2
unfolding run small
short_is_wrong = is_placed small are_checked 40 (1 ∷ 16 ∷ []) [] refl

-- (NUMBER; goes wrong at the semicolon, before which the machine still reduces
open_is_wrong : IsFirstWrong small.grammar (5 ∷ 16 ∷ 4 ∷ []) 2
unfolding run small
open_is_wrong = is_placed small are_checked 40 (5 ∷ 16 ∷ 4 ∷ []) (4 ∷ []) refl
