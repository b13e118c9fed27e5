-- The decimal form of a number in range is an integer literal of that number.
use Rattle.std.proofs.Common.{◌≡◌, ◌∙◌, ℕ, suc, zero, ◌+◌, ◌*◌, ◌-◌, ◌/◌, ◌%◌, ◌^◌, ◌<◌, ◌≤◌, Bool, true, false, List, [], ◌∷◌, ◌++◌, length, get_or, refl, arith, fold, lit<}
use Rattle.std.specs.Prelude.{nat_eq}
use Rattle.std.specs.List.{list_all}
use Rattle.std.specs.Fmt.{decimal}
use Rattle.std.proofs.lemmas.Fmt.{decimal_by_steps, decimal_nonempty, decimal_digit, first_decimal}
use Rattle.std.proofs.lemmas.Bool.Decides.{nat_tests}
use Rattle.lexical_grammar.specs.Characters.{is_digit, value_of, largest}
use Rattle.lexical_grammar.specs.Words.{has_leading_zero}
use Rattle.lexical_grammar.specs.Spelled.{IsInteger}
use Rattle.spellable.proofs.Halves.{halves}

abbrev Writes : ℕ → List ℕ → Type 0
Writes n ds = (list_all is_digit ds ≡ true) × (value_of ds ≡ n)

digit_is : (n : ℕ) → n < 10 → is_digit (48 + n) ≡ true
digit_is n h = grind (arith, nat_tests)

all_more : (p : ℕ → Bool) (xs : List ℕ) (d : ℕ) → list_all p xs ≡ true → p d ≡ true → list_all p (xs ++ d ∷ []) ≡ true
all_more p [] d all one = rw one refl
all_more p (x ∷ xs) d all one = let both = halves (p x) (list_all p xs) all in rw both.0 (all_more p xs d both.1 one)

fold_more : (f : ℕ → ℕ → ℕ) (z : ℕ) (xs : List ℕ) (d : ℕ) → fold f z (xs ++ d ∷ []) ≡ f (fold f z xs) d
fold_more f z [] d = refl
fold_more f z (x ∷ xs) d = fold_more f (f z x) xs d

of_digit : (n : ℕ) → n < 10 → Writes n ((48 + n) ∷ [])
of_digit n h = (rw (digit_is n h) refl, omega arith)

last_value : (n v : ℕ) → v ≡ n / 10 → 10 * v + ((48 + n % 10) - 48) ≡ n
last_value n v e = omega arith

of_more : (n : ℕ) (ds : List ℕ) → 10 ≤ n → Writes (n / 10) ds → Writes n (ds ++ ((48 + n % 10) ∷ []))
of_more n ds h w =
    let small : n % 10 < 10 = omega arith
    in (all_more is_digit ds (48 + n % 10) w.0 (digit_is (n % 10) small), fold_more (λ n d. 10 * n + (d - 48)) 0 ds (48 + n % 10) ∙ last_value n (value_of ds) w.1)

writes : (n : ℕ) → n < 2 ^ 64 → Writes n (decimal n)
writes n h = decimal_by_steps Writes of_digit of_more n h

apart : (a b : ℕ) → a < b → nat_eq a b ≡ false
apart a b h = grind (arith, nat_tests)

no_zero : (ds : List ℕ) → 48 < get_or ds 0 0 → has_leading_zero ds ≡ false
no_zero [] h = refl
no_zero (b ∷ more) h = rw (apart 48 b h) refl

decimal_no_zero : (n : ℕ) → n < 2 ^ 64 → has_leading_zero (decimal n) ≡ false
decimal_no_zero zero h = rw (decimal_digit 0 (lit< tt)) refl
decimal_no_zero (suc n) h = no_zero (decimal (suc n)) (first_decimal (suc n) (omega arith) h)

integer_of : (ds : List ℕ) → list_all is_digit ds ≡ true → 0 < length ds → has_leading_zero ds ≡ false → value_of ds ≤ largest → IsInteger ds
integer_of [] all some lead small = absurd (omega arith)
integer_of (b ∷ more) all some lead small = let both = halves (is_digit b) (list_all is_digit more) all in (both.0, both.1, lead, small)

in_range : (n : ℕ) → n ≤ largest → n < 2 ^ 64
in_range n h = omega arith

pub decimal_integer : (n : ℕ) → n ≤ largest → IsInteger (decimal n)
decimal_integer n h =
    let w = writes n (in_range n h)
    in integer_of (decimal n) w.0 (decimal_nonempty n (in_range n h)) (decimal_no_zero n (in_range n h)) (rw w.1 h)

pub decimal_value : (n : ℕ) → n ≤ largest → value_of (decimal n) ≡ n
decimal_value n h = (writes n (in_range n h)).1
