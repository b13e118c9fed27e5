-- Signs, digits and the parts of a number.
use Rattle.std.proofs.Common.{◌≡◌, ℕ, suc, ◌+◌, Bool, true, false, not, ◌&&◌, ◌||◌, ◌==◌, cond, nat_lt, inl, inr, ⊎_elim, List, [], ◌∷◌, ◌++◌, length, take, drop, refl, sym, ◌∙◌, ap, subst, arith}
use Rattle.std.specs.Char.{is_ascii_digit}
use Rattle.std.specs.Cmp.{first_so, second_so}
use Rattle.std.specs.List.{list_any, position_or_len, before_first, after_first}
use Rattle.std.specs.Str.Parse.{without_leading_sign}
use Rattle.std.proofs.lemmas.Bool.Decides.{nat_tests}
use Rattle.std.proofs.Math.Seq.{take-append_seam, drop-append-add}
use Rattle.plain_values.specs.Numeric.{is_dot, is_exponent_mark, are_digits}
use Rattle.plain_values.specs.Grammar.{IsSign, IsLnum}

-- a text is a sign or none, and the rest
pub signed_parts : (body : List ℕ) → (sign : List ℕ) × IsSign sign × (body ≡ sign ++ without_leading_sign body)
signed_parts [] = ([], inl refl, refl)
signed_parts (b ∷ bs) = by (b == 45) (b == 43) refl refl
  where
    by : (v w : Bool) → (b == 45) ≡ v → (b == 43) ≡ w → (sign : List ℕ) × IsSign sign × (b ∷ bs ≡ sign ++ cond v bs (drop (cond w 1 0) (b ∷ bs)))
    by true w e f = (45 ∷ [], inr (inr refl), ap (λ (x : ℕ). x ∷ bs) (grind (arith, nat_tests)))
    by false true e f = (43 ∷ [], inr (inl refl), ap (λ (x : ℕ). x ∷ bs) (grind (arith, nat_tests)))
    by false false e f = ([], inl refl, refl)

-- the first byte is no sign
abbrev pub is_unsigned : List ℕ → Bool
is_unsigned [] = true
is_unsigned (b ∷ bs) = not (b == 45) && not (b == 43)

unsigned_itself : (rest : List ℕ) → is_unsigned rest ≡ true → without_leading_sign rest ≡ rest
unsigned_itself [] h = refl
unsigned_itself (b ∷ bs) h = by (b == 45) (b == 43) h
  where
    by : (v w : Bool) → (not v && not w) ≡ true → cond v bs (drop (cond w 1 0) (b ∷ bs)) ≡ b ∷ bs
    by true w e = cc
    by false true e = cc
    by false false e = refl

pub sign_off : (sign rest : List ℕ) → IsSign sign → is_unsigned rest ≡ true → without_leading_sign (sign ++ rest) ≡ rest
sign_off sign rest s h = ⊎_elim
    (λ e. ap (λ (x : List ℕ). without_leading_sign (x ++ rest)) e ∙ unsigned_itself rest h)
    (λ t. ⊎_elim (λ e. ap (λ (x : List ℕ). without_leading_sign (x ++ rest)) e) (λ e. ap (λ (x : List ℕ). without_leading_sign (x ++ rest)) e) t)
    s

pub digit_unsigned : (d : ℕ) → is_ascii_digit d ≡ true → (not (d == 45) && not (d == 43)) ≡ true
digit_unsigned d h = grind (arith, nat_tests)

-- no digit passes a test that passes none from 48 to 57
pub digits_without : (test : ℕ → Bool) → ((d : ℕ) → is_ascii_digit d ≡ true → test d ≡ false) → (ds : List ℕ) → are_digits ds ≡ true → list_any test ds ≡ false
digits_without test apart [] h = refl
digits_without test apart (d ∷ ds) h = by (test d) (apart d (first_so (is_ascii_digit d) (are_digits ds) h)) (digits_without test apart ds (second_so (is_ascii_digit d) (are_digits ds) h))
  where
    by : (v : Bool) → v ≡ false → list_any test ds ≡ false → (v || list_any test ds) ≡ false
    by true e rest = cc
    by false e rest = rest

pub digit_no_dot : (d : ℕ) → is_ascii_digit d ≡ true → is_dot d ≡ false
digit_no_dot d h = grind (arith, nat_tests)

pub digit_no_mark : (d : ℕ) → is_ascii_digit d ≡ true → is_exponent_mark d ≡ false
digit_no_mark d h = grind (arith, nat_tests)

pub lnum_digits : (ds : List ℕ) → IsLnum ds → are_digits ds ≡ true
lnum_digits ds h = second_so (nat_lt 0 (length ds)) (are_digits ds) h

pub lnum_unsigned : (ds : List ℕ) → IsLnum ds → is_unsigned ds ≡ true
lnum_unsigned [] h = refl
lnum_unsigned (d ∷ ds) h = digit_unsigned d (first_so (is_ascii_digit d) (are_digits ds) (lnum_digits (d ∷ ds) h))

-- the first place of a byte that passes, where none before it does
place_behind : (test : ℕ → Bool) (front : List ℕ) (b : ℕ) (back : List ℕ) → list_any test front ≡ false → test b ≡ true → position_or_len test (front ++ b ∷ back) ≡ length front
place_behind test [] b back h g = by (test b) g
  where
    by : (v : Bool) → v ≡ true → cond (not v) (1 + position_or_len test back) 0 ≡ 0
    by true e = refl
    by false e = cc
place_behind test (a ∷ front) b back h g = by (test a) h (place_behind test front b back)
  where
    by : (v : Bool) → (v || list_any test front) ≡ false → (list_any test front ≡ false → test b ≡ true → position_or_len test (front ++ b ∷ back) ≡ length front) → cond (not v) (1 + position_or_len test (front ++ b ∷ back)) 0 ≡ suc (length front)
    by true e rest = cc
    by false e rest = omega (arith, rest e g)

pub before-behind : (test : ℕ → Bool) (front : List ℕ) (b : ℕ) (back : List ℕ) → list_any test front ≡ false → test b ≡ true → before_first test (front ++ b ∷ back) ≡ front
before-behind test front b back h g = ap (λ (n : ℕ). take n (front ++ b ∷ back)) (place_behind test front b back h g) ∙ take-append_seam front (b ∷ back)

pub after-behind : (test : ℕ → Bool) (front : List ℕ) (b : ℕ) (back : List ℕ) → list_any test front ≡ false → test b ≡ true → after_first test (front ++ b ∷ back) ≡ back
after-behind test front b back h g = ap (λ (n : ℕ). drop (n + 1) (front ++ b ∷ back)) (place_behind test front b back h g) ∙ drop-append-add front (b ∷ back) 1

pub any_behind : (test : ℕ → Bool) (front : List ℕ) (b : ℕ) (back : List ℕ) → test b ≡ true → list_any test (front ++ b ∷ back) ≡ true
any_behind test [] b back g = by (test b) g
  where
    by : (v : Bool) → v ≡ true → (v || list_any test back) ≡ true
    by true e = refl
    by false e = cc
any_behind test (a ∷ front) b back g = by (test a) (any_behind test front b back g)
  where
    by : (v : Bool) → list_any test (front ++ b ∷ back) ≡ true → (v || list_any test (front ++ b ∷ back)) ≡ true
    by true rest = refl
    by false rest = rest

-- a text with a byte that passes is what stands before it, it, and what stands after it
pub cut : (test : ℕ → Bool) (bs : List ℕ) → list_any test bs ≡ true → (b : ℕ) × (test b ≡ true) × (bs ≡ before_first test bs ++ b ∷ after_first test bs)
cut test [] h = cc
cut test (b ∷ bs) h = by (test b) refl h (cut test bs)
  where
    by : (v : Bool) → test b ≡ v → (v || list_any test bs) ≡ true → (list_any test bs ≡ true → (c : ℕ) × (test c ≡ true) × (bs ≡ before_first test bs ++ c ∷ after_first test bs)) → (c : ℕ) × (test c ≡ true) × (b ∷ bs ≡ take (cond (not v) (1 + position_or_len test bs) 0) (b ∷ bs) ++ c ∷ drop (cond (not v) (1 + position_or_len test bs) 0 + 1) (b ∷ bs))
    by true e g rest = (b, e, refl)
    by false e g rest =
        let r = rest g in
        let m : ℕ = position_or_len test bs in
        let one : 1 + m ≡ suc m = omega arith in
        let more : suc (m + 1) ≡ suc m + 1 = omega arith in (
          r.0,
          r.1,
          subst (λ (n : ℕ). b ∷ bs ≡ take n (b ∷ bs) ++ r.0 ∷ drop (n + 1) (b ∷ bs)) (sym one)
              (ap (λ (ys : List ℕ). b ∷ ys) r.2 ∙ ap (λ (n : ℕ). (b ∷ take m bs) ++ r.0 ∷ drop n (b ∷ bs)) more),
        )
