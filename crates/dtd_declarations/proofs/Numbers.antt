-- The number that digits write is never less than one that some of them write.
use Rattle.std.proofs.Common.{◌≡◌, ◌∙◌, ℕ, suc, ◌+◌, ◌*◌, ◌≤◌, ◌<◌, Bool, true, false, cond, List, [], ◌∷◌, take, drop, refl, sym, ap, arith, add_comm, add-one}
use Rattle.std.specs.Prelude.{◌&&◌, nat_eq}
use Rattle.dtd_texts.specs.Heads.{head_is, digits_length}
use Rattle.xml_text.specs.Characters.{is_character}
use Rattle.std.specs.Char.{digit_value, is_ascii_digit, is_ascii_hexdigit}
use Rattle.std.specs.List.{list_all, prefix_len}
use Rattle.dtd_model.specs.References.{number_written}

pub written_grows : (base n : ℕ) (ds : List ℕ) → 1 ≤ base → n ≤ number_written base n ds
written_grows base n [] h = omega arith
written_grows base n (d ∷ ds) h = more base n (digit_value d) (number_written base (n * base + digit_value d) ds) h (written_grows base (n * base + digit_value d) ds h) where
  more : (base n d w : ℕ) → 1 ≤ base → n * base + d ≤ w → n ≤ w
  more base n d w one h = grind arith

over_is_none : (n : ℕ) → 0x10FFFF < n → is_character n ≡ false
over_is_none n h = grind arith

pub both_over : (base n : ℕ) (ds : List ℕ) (whole : ℕ) → 1 ≤ base → 0x10FFFF < n → number_written base n ds ≡ whole → is_character n ≡ is_character whole
both_over base n ds whole one over e = over_is_none n over ∙ sym (over_is_none whole (omega (arith, written_grows base n ds one, over, e)))

take_more : (n x : ℕ) (xs : List ℕ) → take (1 + n) (x ∷ xs) ≡ x ∷ take n xs
take_more n x xs = rw (add_comm 1 n) (rw add-one refl)

are_both : {a b : Bool} → a ≡ true → b ≡ true → (a && b) ≡ true
are_both e f = rw e f

-- what is counted passes the test
all_prefix : (p : ℕ → Bool) (xs : List ℕ) → list_all p (take (prefix_len p xs) xs) ≡ true
all_prefix p [] = refl
all_prefix p (x ∷ xs) = by (p x) refl (all_prefix p xs) where
  by : (b : Bool) → p x ≡ b → list_all p (take (prefix_len p xs) xs) ≡ true → list_all p (take (cond b (1 + prefix_len p xs) 0) (x ∷ xs)) ≡ true
  by true e rest = ap (list_all p) (take_more (prefix_len p xs) x xs) ∙ are_both e rest
  by false e rest = refl

pub all_hexadecimal : (n : ℕ) (xs : List ℕ) → n ≡ prefix_len is_ascii_hexdigit xs → list_all is_ascii_hexdigit (take n xs) ≡ true
all_hexadecimal n xs e = ap (λ k. list_all is_ascii_hexdigit (take k xs)) e ∙ all_prefix is_ascii_hexdigit xs

is_both : {a b : Bool} → (a && b) ≡ true → (a ≡ true) × (b ≡ true)
is_both {a = true} e = (refl, e)
is_both {a = false} e = absurd (grind arith)

digit_is : (x : ℕ) → is_ascii_digit x ≡ true → is_ascii_hexdigit x ≡ true
digit_is x e = grind arith

all_digits : (xs : List ℕ) → list_all is_ascii_digit xs ≡ true → list_all is_ascii_hexdigit xs ≡ true
all_digits [] e = refl
all_digits (x ∷ xs) e = let both = is_both {a = is_ascii_digit x} {b = list_all is_ascii_digit xs} e in are_both (digit_is x both.0) (all_digits xs both.1)

pub all_decimal : (n : ℕ) (xs : List ℕ) → n ≡ prefix_len is_ascii_digit xs → list_all is_ascii_hexdigit (take n xs) ≡ true
all_decimal n xs e = all_digits (take n xs) (ap (λ k. list_all is_ascii_digit (take k xs)) e ∙ all_prefix is_ascii_digit xs)

-- digits without a semicolon behind them are no reference
pub no_digits : (class : ℕ → Bool) (base opening n : ℕ) (bytes digits rest : List ℕ) (b : Bool) → digits ≡ drop opening bytes → n ≡ prefix_len class digits
    → rest ≡ drop (opening + n) bytes → b ≡ head_is (nat_eq 59) rest → b ≡ false → digits_length class base opening bytes ≡ 0
unfolding digits_length
no_digits class base opening n bytes digits rest b at long behind is none =
    let k : prefix_len class (drop opening bytes) ≡ n = ap (prefix_len class) (sym at) ∙ sym long in
    let e : head_is (nat_eq 59) (drop (opening + prefix_len class (drop opening bytes)) bytes) ≡ false =
    ap (λ m. head_is (nat_eq 59) (drop (opening + m) bytes)) k ∙ ap (head_is (nat_eq 59)) (sym behind) ∙ sym is ∙ none in
    rw e refl
