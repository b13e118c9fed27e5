-- The decimal forms of integers are integer texts, and texts of XML's characters.
use Rattle.std.proofs.Common.{◌≡◌, ◌≤◌, ◌<◌, ◌+◌, ◌%◌, ◌/◌, ◌^◌, ℕ, zero, suc, ℤ, pos, negsuc, Bool, true, false, ◌&&◌, List, [], ◌∷◌, ◌++◌, length, refl, sym, ap, subst, ◌∙◌, arith}
use Rattle.std.specs.Char.{is_ascii_digit}
use Rattle.std.specs.Fmt.{decimal, signed_decimal}
use Rattle.std.specs.List.{list_all}
use Rattle.std.specs.Str.{IsAscii}
use Rattle.std.proofs.lemmas.Bool.Decides.{nat_tests}
use Rattle.std.proofs.lemmas.Bool.{ltb-true}
use Rattle.std.proofs.lemmas.Fmt.{decimal_by_steps, length-decimal-le, IsAscii-decimal}
use Rattle.std.proofs.lemmas.List.Folds.{list_all-append}
use Rattle.std.proofs.lemmas.Str.{chars-IsAscii, IsUtf8-from_ascii}
use Rattle.xml_text.specs.Characters.{is_character}
use Rattle.xml_text.specs.Texts.{IsText}
use Rattle.plain_values.specs.Numeric.{is_in_range}
use Rattle.least_sets.specs.Integers.{IsCounting, IsInteger, zero_text, above, below}

record Digits (n : ℕ) (ds : List ℕ) : Type 0 where
  first : ℕ
  more : List ℕ
  is : ds ≡ first ∷ more
  digit : is_ascii_digit first ≡ true
  counting : 1 ≤ n → 49 ≤ first
  digits : list_all is_ascii_digit more ≡ true
  none : n ≡ 0 → ds ≡ 48 ∷ []
  one : n ≡ 1 → ds ≡ 49 ∷ []

digit_is : (k : ℕ) → k < 10 → is_ascii_digit (48 + k) ≡ true
digit_is k h = grind (arith, nat_tests, h)

digit_most : (d : ℕ) → is_ascii_digit d ≡ true → d ≤ 57
digit_most d h = grind (arith, nat_tests, h)

one_digit : (n : ℕ) → n < 10 → Digits n ((48 + n) ∷ [])
one_digit n l = record { first = 48 + n; more = []; is = refl; digit = digit_is n l; counting = λ h. omega (arith, h); digits = refl; none = λ e. ap (λ n. (48 + n) ∷ []) e; one = λ e. ap (λ n. (48 + n) ∷ []) e }

all_push : (ds : List ℕ) (d : ℕ) → list_all is_ascii_digit ds ≡ true → is_ascii_digit d ≡ true → list_all is_ascii_digit (ds ++ d ∷ []) ≡ true
all_push ds d h g = list_all-append is_ascii_digit ds (d ∷ []) ∙ ap (λ b. b && (is_ascii_digit d && true)) h ∙ ap (λ b. b && true) g

more_digits : (n : ℕ) (ds : List ℕ) → 10 ≤ n → Digits (n / 10) ds → Digits n (ds ++ ((48 + n % 10) ∷ []))
more_digits n ds l h = record {
  first = h.first;
  more = h.more ++ (48 + n % 10) ∷ [];
  is = ap (λ ds. ds ++ (48 + n % 10) ∷ []) h.is;
  digit = h.digit;
  counting = λ i. h.counting (omega (arith, l));
  digits = all_push h.more (48 + n % 10) h.digits (digit_is (n % 10) (omega arith));
  none = λ e. absurd (omega (arith, l, e));
  one = λ e. absurd (omega (arith, l, e));
}

digits_of : (n : ℕ) → n < 2 ^ 64 → Digits n (decimal n)
digits_of = decimal_by_steps Digits one_digit more_digits

counting : (n : ℕ) → 1 ≤ n → n ≤ 2 ^ 63 → IsCounting (decimal n)
counting n h l =
    let d = digits_of n (omega (arith, l)) in
    let short = length-decimal-le 19 n (omega arith) (omega (arith, l)) (omega (arith, l)) in
    let long : length (decimal n) ≡ suc (length d.more) = ap length d.is in
    record { first = d.first; more = d.more; is = d.is; least = d.counting h; most = digit_most d.first d.digit; digits = d.digits; few = omega (arith, short, long) }

pub integer_is : (z : ℤ) → is_in_range z ≡ true → IsInteger (signed_decimal z)
integer_is (pos zero) h = subst IsInteger (sym ((digits_of 0 (omega arith)).none refl)) zero_text
integer_is (pos (suc n)) h = let l = ltb-true (suc n) (2 ^ 63) h in above (decimal (suc n)) (counting (suc n) (omega arith) (omega (arith, l)))
integer_is (negsuc n) h = let l = ltb-true n (2 ^ 63) h in below (decimal (suc n)) (counting (suc n) (omega arith) (omega (arith, l)))

-- digits are characters
digit_character : (d : ℕ) → is_ascii_digit d ≡ true → is_character d ≡ true
digit_character d h = grind (arith, nat_tests, h)

and_parts : (a b : Bool) → (a && b) ≡ true → (a ≡ true) × (b ≡ true)
and_parts true b e = (refl, e)
and_parts false b e = cc

all_characters : (ds : List ℕ) → list_all is_ascii_digit ds ≡ true → list_all is_character ds ≡ true
all_characters [] h = refl
all_characters (d ∷ ds) h = let parts = and_parts (is_ascii_digit d) (list_all is_ascii_digit ds) h in ap (λ b. b && list_all is_character ds) (digit_character d parts.0) ∙ all_characters ds parts.1

decimal_characters : (n : ℕ) → n < 2 ^ 64 → list_all is_character (decimal n) ≡ true
decimal_characters n l =
    let d = digits_of n l in
    ap (list_all is_character) d.is ∙ ap (λ b. b && list_all is_character d.more) (digit_character d.first d.digit) ∙ all_characters d.more d.digits

text_of_ascii : (t : List ℕ) → IsAscii t → list_all is_character t ≡ true → IsText t
text_of_ascii t a h = record { utf8 = IsUtf8-from_ascii t a; characters = ap (list_all is_character) (chars-IsAscii t a) ∙ h }

minus_ascii : (t : List ℕ) → IsAscii t → IsAscii (45 ∷ t)
minus_ascii t a zero = omega arith
minus_ascii t a (suc i) = a i

pub integer_text : (z : ℤ) → is_in_range z ≡ true → IsText (signed_decimal z)
integer_text (pos n) h = let l = ltb-true n (2 ^ 63) h in text_of_ascii (decimal n) (IsAscii-decimal n (omega (arith, l))) (decimal_characters n (omega (arith, l)))
integer_text (negsuc n) h =
    let l = ltb-true n (2 ^ 63) h in
    text_of_ascii (45 ∷ decimal (suc n)) (minus_ascii (decimal (suc n)) (IsAscii-decimal (suc n) (omega (arith, l)))) (decimal_characters (suc n) (omega (arith, l)))

pub decimal_none : signed_decimal (pos 0) ≡ 48 ∷ []
decimal_none = (digits_of 0 (omega arith)).none refl

pub decimal_one : signed_decimal (pos 1) ≡ 49 ∷ []
decimal_one = (digits_of 1 (omega arith)).one refl
