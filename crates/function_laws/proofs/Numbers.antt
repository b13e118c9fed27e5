-- Integers of 64 bits.
use Rattle.std.proofs.Common.{◌≡◌, ◌≤◌, ◌<◌, ◌^◌, ℕ, zero, suc, ℤ, pos, negsuc, ◌+ℤ◌, ◌-ℤ◌, ◌*ℤ◌, neg_ℤ, Bool, true, false, if◌then◌else◌, List, Result, Ok, Err, refl, sym, subst, arith}
use Rattle.std.specs.Prelude.{int_div, int_rem, unsigned_abs}
use Rattle.std.specs.Ordering.{int_eq}
use Rattle.std.proofs.lemmas.Bool.{ltb-true, lt-ltb}
use Rattle.std.proofs.lemmas.Int.{rem_below}
use Rattle.plain_values.specs.Plain.{Plain, null, flag, int, text, array}
use Rattle.plain_values.specs.Outcome.{go_on}
use Rattle.std.specs.Str.Parse.{without_leading_sign}
use Rattle.plain_values.specs.Numeric.{numeric, is_in_range, skip_blanks}
use Rattle.plain_values.specs.Arithmetic.{number_in, number_of, in_64_bits, integer, of_numbers, unless_zero, sum_of, difference_of, product_of, remainder_of, quotient_of, negation_of, increment_of, decrement_of}
use Rattle.plain_values.specs.Intval.{text_integer, is_exponent_form, number_in_front, integer_of}
use Rattle.plain_values.specs.Lawful.{IsValue, HasValues}
use Rattle.plain_values.specs.declared.fault.Fault.{Fault}
use Rattle.plain_values.specs.declared.fault.Fault.TheVariants as fault
use Rattle.plain_values.specs.declared.numeric.Numeric.{Numeric}
use Rattle.plain_values.specs.declared.numeric.Numeric.TheVariants.{Integer, Float, Other}
use Rattle.plain_values.proofs.NumericLaws.{integer_from}
use Rattle.function_laws.proofs.Texts.{number_value}

same_number : (r : Result ℤ Fault) (z w : ℤ) → r ≡ Ok z → r ≡ Ok w → z ≡ w
same_number r z w h e = cc

ok_number : (z w : ℤ) → number_of (int z) ≡ Ok w → z ≡ w
ok_number z w e = same_number (number_of (int z)) z w refl e

-- a number that passes the test
pub in_64 : (z w : ℤ) → in_64_bits z ≡ Ok w → (w ≡ z) × (is_in_range z ≡ true)
in_64 z w e = by (is_in_range z) refl e
  where
    by : (b : Bool) → is_in_range z ≡ b → (if b then Ok z else Err fault.Float) ≡ Ok w → (w ≡ z) × (is_in_range z ≡ true)
    by true h g = (cc, h)
    by false h g = cc

pub range_64 : (z w : ℤ) → in_64_bits z ≡ Ok w → is_in_range w ≡ true
range_64 z w e = let h = in_64 z w e in subst (λ (z : ℤ). is_in_range z ≡ true) (sym h.0) h.1

-- an integer of a result
pub integer_value : (r : Result ℤ Fault) (v : Plain) → ((z : ℤ) → r ≡ Ok z → is_in_range z ≡ true) → integer r ≡ Ok v → IsValue v
integer_value (Err f) v h e = cc
integer_value (Ok z) v h e = let is : v ≡ int z = cc in subst IsValue (sym is) (number_value z (h z refl))

number_in_range : (t : List ℕ) (n : Numeric) (z : ℤ) → numeric t ≡ n → number_in n ≡ Ok z → is_in_range z ≡ true
number_in_range t (Integer x) z h e = let is : z ≡ x = cc in subst (λ (z : ℤ). is_in_range z ≡ true) (sym is) (integer_from t x h).1
number_in_range t Float z h e = cc
number_in_range t Other z h e = cc

-- an operand is in range
pub number_range : (v : Plain) (z : ℤ) → HasValues v → number_of v ≡ Ok z → is_in_range z ≡ true
number_range null z h e = subst (λ (z : ℤ). is_in_range z ≡ true) (ok_number (pos 0) z e) refl
number_range (flag false) z h e = subst (λ (z : ℤ). is_in_range z ≡ true) (ok_number (pos 0) z e) refl
number_range (flag true) z h e = subst (λ (z : ℤ). is_in_range z ≡ true) (ok_number (pos 1) z e) refl
number_range (int y) z h e = subst (λ (z : ℤ). is_in_range z ≡ true) (ok_number y z e) h
number_range (text t) z h e = number_in_range t (numeric t) z refl e
number_range (array ps) z h e = cc

of_two : (op : ℤ → ℤ → Result ℤ Fault) (a b v : Plain) → ((x y z : ℤ) → number_of a ≡ Ok x → number_of b ≡ Ok y → op x y ≡ Ok z → is_in_range z ≡ true) → of_numbers op a b ≡ Ok v → IsValue v
of_two op a b v h e = by_first (number_of a) refl e
  where
    by_second : (x : ℤ) → number_of a ≡ Ok x → (r : Result ℤ Fault) → number_of b ≡ r → go_on r (λ y. integer (op x y)) ≡ Ok v → IsValue v
    by_second x i (Err f) j g = cc
    by_second x i (Ok y) j g = integer_value (op x y) v (λ z k. h x y z i j k) g

    by_first : (r : Result ℤ Fault) → number_of a ≡ r → go_on r (λ x. go_on (number_of b) (λ y. integer (op x y))) ≡ Ok v → IsValue v
    by_first (Err f) i g = cc
    by_first (Ok x) i g = by_second x i (number_of b) refl g

pub sum_value : (a b v : Plain) → sum_of a b ≡ Ok v → IsValue v
sum_value a b v e = of_two (λ x y. in_64_bits (x +ℤ y)) a b v (λ x y z i j k. range_64 (x +ℤ y) z k) e

pub difference_value : (a b v : Plain) → difference_of a b ≡ Ok v → IsValue v
difference_value a b v e = of_two (λ x y. in_64_bits (x -ℤ y)) a b v (λ x y z i j k. range_64 (x -ℤ y) z k) e

pub product_value : (a b v : Plain) → product_of a b ≡ Ok v → IsValue v
product_value a b v e = of_two (λ x y. in_64_bits (x *ℤ y)) a b v (λ x y z i j k. range_64 (x *ℤ y) z k) e

not_zero : (d z : ℤ) (r : Result ℤ Fault) → unless_zero d r ≡ Ok z → (r ≡ Ok z) × (int_eq d (pos 0) ≡ false)
not_zero d z r e = by (int_eq d (pos 0)) refl e
  where
    by : (b : Bool) → int_eq d (pos 0) ≡ b → (if b then Err fault.ZeroDivisor else r) ≡ Ok z → (r ≡ Ok z) × (int_eq d (pos 0) ≡ false)
    by true h g = cc
    by false h g = (g, h)

some_abs : (d : ℤ) → int_eq d (pos 0) ≡ false → 0 < unsigned_abs d
some_abs (pos zero) h = cc
some_abs (pos (suc n)) h = omega arith
some_abs (negsuc n) h = omega arith

abs_range : (d : ℤ) → is_in_range d ≡ true → unsigned_abs d ≤ 2 ^ 63
abs_range (pos n) h = let l = ltb-true n (2 ^ 63) h in omega (arith, l)
abs_range (negsuc n) h = let l = ltb-true n (2 ^ 63) h in omega (arith, l)

range_abs : (d : ℤ) → unsigned_abs d < 2 ^ 63 → is_in_range d ≡ true
range_abs (pos n) h = lt-ltb n (2 ^ 63) (omega (arith, h))
range_abs (negsuc n) h = lt-ltb n (2 ^ 63) (omega (arith, h))

pub remainder_value : (a b v : Plain) → HasValues b → remainder_of a b ≡ Ok v → IsValue v
remainder_value a b v hb e = of_two (λ x y. unless_zero y (Ok (int_rem x y))) a b v (λ x y z i j k.
    let n = not_zero y z (Ok (int_rem x y)) k in
    let is : z ≡ int_rem x y = sym (ok_number (int_rem x y) z n.0) in
    let below = rem_below x y (some_abs y n.1) in
    let most = abs_range y (number_range b y hb j) in
    subst (λ (z : ℤ). is_in_range z ≡ true) (sym is) (range_abs (int_rem x y) (omega (arith, below, most)))) e

pub quotient_value : (a b v : Plain) → quotient_of a b ≡ Ok v → IsValue v
quotient_value a b v e = of_two (λ x y. unless_zero y (in_64_bits (int_div x y))) a b v (λ x y z i j k. range_64 (int_div x y) z (not_zero y z (in_64_bits (int_div x y)) k).0) e

pub negation_value : (a v : Plain) → negation_of a ≡ Ok v → IsValue v
negation_value a v e = by (number_of a) e
  where
    by : (r : Result ℤ Fault) → go_on r (λ x. integer (in_64_bits (neg_ℤ x))) ≡ Ok v → IsValue v
    by (Err f) g = cc
    by (Ok x) g = integer_value (in_64_bits (neg_ℤ x)) v (λ z k. range_64 (neg_ℤ x) z k) g

pub increment_value : (a v : Plain) → increment_of a ≡ Ok v → IsValue v
increment_value null v e = cc
increment_value (flag b) v e = cc
increment_value (int z) v e = integer_value (in_64_bits (z +ℤ pos 1)) v (λ w k. range_64 (z +ℤ pos 1) w k) e
increment_value (text t) v e = cc
increment_value (array ps) v e = cc

pub decrement_value : (a v : Plain) → decrement_of a ≡ Ok v → IsValue v
decrement_value null v e = cc
decrement_value (flag b) v e = cc
decrement_value (int z) v e = integer_value (in_64_bits (z -ℤ pos 1)) v (λ w k. range_64 (z -ℤ pos 1) w k) e
decrement_value (text t) v e = cc
decrement_value (array ps) v e = cc

text_range : (t : List ℕ) (z : ℤ) → text_integer t ≡ Ok z → is_in_range z ≡ true
text_range t z e = let body = skip_blanks t in by (is_exponent_form (without_leading_sign body)) (number_in_front body) e
  where
    by : (b : Bool) (n : ℤ) → (if b then Err fault.Float else in_64_bits n) ≡ Ok z → is_in_range z ≡ true
    by true n g = cc
    by false n g = range_64 n z g

pub intval_value : (a v : Plain) → HasValues a → integer_of a ≡ Ok v → IsValue v
intval_value null v h e = let is : v ≡ int (pos 0) = cc in subst IsValue (sym is) (number_value (pos 0) refl)
intval_value (flag false) v h e = let is : v ≡ int (pos 0) = cc in subst IsValue (sym is) (number_value (pos 0) refl)
intval_value (flag true) v h e = let is : v ≡ int (pos 1) = cc in subst IsValue (sym is) (number_value (pos 1) refl)
intval_value (int z) v h e = let is : v ≡ int z = cc in subst IsValue (sym is) (number_value z h)
intval_value (text t) v h e = integer_value (text_integer t) v (text_range t) e
intval_value (array ps) v h e = cc
