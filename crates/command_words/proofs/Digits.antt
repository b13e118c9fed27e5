-- Digits, as std reads them.
use Rattle.std.proofs.Common.{◌≡◌, ◌<◌, ◌≤◌, ◌^◌, ◌&&◌, ℕ, Bool, true, false, List, [], ◌∷◌, length, nat_lt, refl, sym, subst, arith, true≢false, le-ltb, ltb-true, ne_eqb, None}
use Rattle.std.specs.List.{list_all}
use Rattle.std.specs.Char.{digit_value}
use Rattle.std.specs.Str.Parse.{AllDigits, IsNumeral, digits_value, without_leading_plus}
use Rattle.std.proofs.lemmas.Str.Parse.{IsNumeralModel, digits_value_short}
use Rattle.command_words.specs.Asked.{is_digit, number_of}

and_true : (a b : Bool) → (a && b) ≡ true → (a ≡ true) × (b ≡ true)
and_true true b e = (refl, e)
and_true false b e = absurd (true≢false (sym e))

low : (c : ℕ) → is_digit c ≡ true → 47 < c
low c e = ltb-true 47 c (and_true _ _ e).0

high : (c : ℕ) → is_digit c ≡ true → c < 58
high c e = ltb-true c 58 (and_true _ _ e).1

digit_small : (c : ℕ) → is_digit c ≡ true → digit_value c < 10
digit_small c e =
    let above = low c e in
    let below = high c e in
    rw (le-ltb c 48 (omega (arith, above)), (and_true (nat_lt 47 c) (nat_lt c 58) e).1) (omega (arith, above, below))

pub all_digits : (text : List ℕ) → list_all is_digit text ≡ true → AllDigits 10 text
all_digits [] e = tt
all_digits (c ∷ cs) e = let p = and_true (is_digit c) _ e in (digit_small c p.0, all_digits cs p.1)

own : IsNumeralModel (AllDigits 10) (digits_value 10)
own = record { to = λ ds d. d; from = λ ds d. d; same = λ ds d. refl }

no_plus : (c : ℕ) (cs : List ℕ) → is_digit c ≡ true → without_leading_plus (c ∷ cs) ≡ c ∷ cs
no_plus c cs e = let above = low c e in rw (ne_eqb c 43 (omega (arith, above))) refl

-- digits, of which there are few, write a number of 32 bits
pub few_digits : (text : List ℕ) → 0 < length text → length text ≤ 8 → list_all is_digit text ≡ true
    → IsNumeral 10 (without_leading_plus text) × (digits_value 10 (without_leading_plus text) < 2 ^ 32)
few_digits [] some few e = absurd (omega (arith, some))
few_digits (c ∷ cs) some few e =
    let all = all_digits (c ∷ cs) e in
    let short = digits_value_short own (c ∷ cs) 8 all few in
    subst (λ (t : List ℕ). IsNumeral 10 t × (digits_value 10 t < 2 ^ 32)) (sym (no_plus c cs (and_true (is_digit c) _ e).0))
    ((some, all), omega (arith, short))

-- so what std does not read has no digits
pub none_read : (text : List ℕ) → length text ≤ 8 → list_all is_digit text ≡ true
    → (IsNumeral 10 (without_leading_plus text) × (digits_value 10 (without_leading_plus text) < 2 ^ 32) → ⊥) → None ≡ number_of text
none_read [] few e unread = refl
none_read (c ∷ cs) few e unread = absurd (unread (few_digits (c ∷ cs) (omega arith) few e))
