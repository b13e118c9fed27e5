-- The sign and the digits that a text begins with.
use Rattle.std.proofs.Common.{◌≡◌, ℕ, zero, suc, ◌+◌, ◌<◌, ◌≤◌, ℤ, pos, Bool, true, false, not, ◌==◌, ◌&&◌, ◌||◌, cond, if◌then◌else◌, nat_lt, ◌⊎◌, inl, inr, ⊎_elim, List, [], ◌∷◌, ◌++◌, length, take, drop, Result, Ok, Err, refl, sym, ◌∙◌, ap, subst, arith, append-nil, length-append}
use Rattle.std.proofs.lemmas.Bool.Decides.{nat_tests}
use Rattle.std.proofs.lemmas.Bool.{cases_Bool, lt-ltb}
use Rattle.std.proofs.lemmas.List.Sums.{take_while-cons}
use Rattle.std.proofs.lemmas.List.Folds.{length-prefix_len}
use Rattle.std.specs.Char.{is_ascii_digit}
use Rattle.std.specs.List.{list_all, prefix_len, take_while}
use Rattle.std.specs.Str.Parse.{without_leading_sign, signed_digits_value}
use Rattle.plain_values.specs.Numeric.{numeric, is_numeral, are_digits, is_in_range}
use Rattle.plain_values.specs.Grammar.{IsSign, IsLnum, IsNumberText, IsIntegerText}
use Rattle.plain_values.specs.Arithmetic.{in_64_bits}
use Rattle.plain_values.specs.Intval.{leading_digits, behind_digits, leading_sign, number_in_front}
use Rattle.plain_values.specs.declared.numeric.Numeric.{Numeric}
use Rattle.plain_values.specs.declared.fault.Fault.{Fault}
use Rattle.plain_values.specs.declared.fault.Fault.TheVariants.{Float}
use Rattle.plain_values.proofs.NumericLaws.{integer_to, long_to}
use Rattle.php_builtins.specs.Front.{outcome}

sign_splits : (body : List ℕ) → body ≡ leading_sign body ++ without_leading_sign body
sign_splits [] = refl
sign_splits (b ∷ bs) = by (b == 45) (b == 43)
  where
    by : (v w : Bool) → b ∷ bs ≡ (if w || v then b ∷ [] else []) ++ cond v bs (drop (cond w 1 0) (b ∷ bs))
    by true true = refl
    by true false = refl
    by false true = refl
    by false false = refl

sign_is : (body : List ℕ) → IsSign (leading_sign body)
sign_is [] = inl refl
sign_is (b ∷ bs) = by (b == 43) (b == 45) refl refl
  where
    by : (v w : Bool) → (b == 43) ≡ v → (b == 45) ≡ w → IsSign (if v || w then b ∷ [] else [])
    by true w e f = inr (inl (ap (λ (x : ℕ). x ∷ []) (grind (arith, nat_tests, e))))
    by false true e f = inr (inr (ap (λ (x : ℕ). x ∷ []) (grind (arith, nat_tests, f))))
    by false false e f = inl refl

take_behind : (s u : List ℕ) (n : ℕ) → take (length s + n) (s ++ u) ≡ s ++ take n u
take_behind [] u n = let e : 0 + n ≡ n = omega arith in ap (λ (k : ℕ). take k u) e
take_behind (x ∷ s) u n = let e : suc (length s) + n ≡ suc (length s + n) = omega arith in ap (λ (k : ℕ). take k (x ∷ (s ++ u))) e ∙ ap (λ (t : List ℕ). x ∷ t) (take_behind s u n)

pub front_is : (body : List ℕ) → take (length (leading_sign body) + prefix_len is_ascii_digit (without_leading_sign body)) body ≡ leading_sign body ++ leading_digits (without_leading_sign body)
front_is body =
    let n : ℕ = length (leading_sign body) + prefix_len is_ascii_digit (without_leading_sign body) in
    ap (take n) (sign_splits body) ∙ take_behind (leading_sign body) (without_leading_sign body) (prefix_len is_ascii_digit (without_leading_sign body))

leading_are : (t : List ℕ) → are_digits (leading_digits t) ≡ true
leading_are [] = refl
leading_are (b ∷ bs) = ap are_digits (take_while-cons is_ascii_digit b bs) ∙ by (leading_are bs) (is_ascii_digit b) refl
  where
    by : are_digits (leading_digits bs) ≡ true → (v : Bool) → is_ascii_digit b ≡ v → are_digits (cond v (b ∷ take_while is_ascii_digit bs) []) ≡ true
    by rest true e = ap (λ (v : Bool). v && are_digits (leading_digits bs)) e ∙ rest
    by rest false e = refl

leading_numeral : (t : List ℕ) → (prefix_len is_ascii_digit t ≡ 0 → ⊥) → IsLnum (leading_digits t)
leading_numeral t some =
    let count : length (leading_digits t) ≡ prefix_len is_ascii_digit t = length-prefix_len is_ascii_digit t in
    ap (λ (v : Bool). v && are_digits (leading_digits t)) (lt-ltb 0 (length (leading_digits t)) (omega (arith, count, some))) ∙ leading_are t

integer_text : (body : List ℕ) → (prefix_len is_ascii_digit (without_leading_sign body) ≡ 0 → ⊥) → IsIntegerText (leading_sign body ++ leading_digits (without_leading_sign body)) (number_in_front body)
integer_text body some =
    let front : List ℕ = leading_sign body ++ leading_digits (without_leading_sign body) in (
      front,
      record {
        blanks = [];
        sign = leading_sign body;
        rest = leading_digits (without_leading_sign body);
        more_blanks = [];
        parts = sym (append-nil front);
        signed_parts = refl;
        before = refl;
        behind = refl;
        signed = sign_is body;
        asked = leading_numeral (without_leading_sign body) some;
      },
      refl,
    )

pub front_number : (body : List ℕ) → (prefix_len is_ascii_digit (without_leading_sign body) ≡ 0 → ⊥) → outcome (numeric (leading_sign body ++ leading_digits (without_leading_sign body))) ≡ in_64_bits (number_in_front body)
front_number body some = by (is_in_range (number_in_front body)) refl
  where
    front : List ℕ
    front = leading_sign body ++ leading_digits (without_leading_sign body)

    by : (v : Bool) → is_in_range (number_in_front body) ≡ v → outcome (numeric (leading_sign body ++ leading_digits (without_leading_sign body))) ≡ in_64_bits (number_in_front body)
    by true e = ap outcome (integer_to (leading_sign body ++ leading_digits (without_leading_sign body)) (number_in_front body) (integer_text body some) e) ∙ ap (λ (v : Bool). if v then Ok (number_in_front body) else Err Float) (sym e)
    by false e = ap outcome (long_to (leading_sign body ++ leading_digits (without_leading_sign body)) (number_in_front body) (integer_text body some) e) ∙ ap (λ (v : Bool). if v then Ok (number_in_front body) else Err Float) (sym e)

-- without a digit the number is 0
sign_alone : (s : List ℕ) → IsSign s → in_64_bits (signed_digits_value 10 (s ++ [])) ≡ Ok (pos 0)
sign_alone s h = ⊎_elim
    (λ e. ap (λ (t : List ℕ). in_64_bits (signed_digits_value 10 (t ++ []))) e)
    (λ h. ⊎_elim
    (λ e. ap (λ (t : List ℕ). in_64_bits (signed_digits_value 10 (t ++ []))) e)
    (λ e. ap (λ (t : List ℕ). in_64_bits (signed_digits_value 10 (t ++ []))) e)
    h)
    h

pub no_digit : (body : List ℕ) → prefix_len is_ascii_digit (without_leading_sign body) ≡ 0 → Ok (pos 0) ≡ in_64_bits (number_in_front body)
no_digit body none =
    sym (ap (λ (n : ℕ). in_64_bits (signed_digits_value 10 (leading_sign body ++ take n (without_leading_sign body)))) none ∙ sign_alone (leading_sign body) (sign_is body))

pub digits_behind : (t : List ℕ) → drop (prefix_len is_ascii_digit t) t ≡ behind_digits t
digits_behind t = ap (λ (n : ℕ). drop n t) (sym (length-prefix_len is_ascii_digit t))

pub sum_length : (u v : List ℕ) → prefix_len is_ascii_digit u + prefix_len is_ascii_digit v ≡ length (leading_digits u ++ leading_digits v)
sum_length u v = omega (arith, length-append (leading_digits u) (leading_digits v), length-prefix_len is_ascii_digit u, length-prefix_len is_ascii_digit v)
