-- What stands up to a semicolon; numbers over that of the last character.
use Rattle.std.proofs.Common.{◌≡◌, ℕ, zero, ◌+◌, ◌*◌, ◌≤◌, ◌<◌, Bool, true, false, not, ◌&&◌, ◌||◌, List, [], ◌∷◌, length, drop, get_or, add-one, refl, sym, ap, ◌∙◌, arith, suc, mul-le-mul_left}
use Rattle.std.specs.Prelude.{if◌then◌else◌, nat_eq}
use Rattle.std.specs.Char.{digit_value}
use Rattle.std.proofs.lemmas.Bool.Decides.{nat_tests}
use Rattle.std.proofs.Math.Seq.{drop-cons}
use Rattle.xml_text.specs.Characters.{is_character}
use Rattle.dtd_model.specs.References.{is_some, number_written}
use Rattle.page_model.specs.Parts.{up_to_semicolon, has_semicolon}
use Rattle.page_model.specs.Scan.{front, beyond, is_other}

pub front_semicolon : (cs : List ℕ) → front (is_other 59) cs ≡ up_to_semicolon cs
front_semicolon [] = refl
front_semicolon (c ∷ cs) = at (nat_eq c 59) (front_semicolon cs)
  where
    at : (b : Bool) → front (is_other 59) cs ≡ up_to_semicolon cs → (if not b then c ∷ front (is_other 59) cs else []) ≡ (if b then [] else c ∷ up_to_semicolon cs)
    at true e = refl
    at false e = ap (λ (xs : List ℕ). c ∷ xs) e

pub some_semicolon : (cs : List ℕ) → is_some (beyond (is_other 59) cs) ≡ has_semicolon cs
some_semicolon [] = refl
some_semicolon (c ∷ cs) = at (nat_eq c 59) (some_semicolon cs)
  where
    at : (b : Bool) → is_some (beyond (is_other 59) cs) ≡ has_semicolon cs → is_some (if not b then beyond (is_other 59) cs else c ∷ cs) ≡ (b || has_semicolon cs)
    at true e = refl
    at false e = e

-- more digits make a number no smaller
pub written_more : (base n : ℕ) (ds : List ℕ) → 1 ≤ base → n ≤ number_written base n ds
written_more base n [] l = omega arith
written_more base n (d ∷ ds) l =
    let more = written_more base (n * base + digit_value d) ds l in
    let m : n * 1 ≤ n * base = mul-le-mul_left n l in
    omega arith

pub too_large : (n : ℕ) → 0x10FFFF < n → is_character n ≡ false
too_large n l = grind (arith, nat_tests)

pub no_character : (base n : ℕ) (ds : List ℕ) → 1 ≤ base → 0x10FFFF < n → is_character (number_written base n ds) ≡ false
no_character base n ds l h = let m = written_more base n ds l in too_large (number_written base n ds) (omega arith)

-- one digit more
pub one_digit : (base n : ℕ) (ds : List ℕ) (i c v : ℕ) → i < length ds → c ≡ get_or ds i c → v ≡ digit_value c → number_written base n (drop i ds) ≡ number_written base (n * base + v) (drop (i + 1) ds)
one_digit base n ds i c v lt is value =
    ap (number_written base n) (drop-cons ds i c lt)
    ∙ ap (λ (x : ℕ). number_written base n (x ∷ drop (suc i) ds)) (sym is)
    ∙ ap (λ (x : ℕ). number_written base (n * base + x) (drop (suc i) ds)) (sym value)
    ∙ ap (λ (k : ℕ). number_written base (n * base + v) (drop k ds)) (sym (add-one i))

pub no_digit : (base n : ℕ) (ds : List ℕ) (i : ℕ) → length ds ≤ i → number_written base n (drop i ds) ≡ n
no_digit base n [] zero l = refl
no_digit base n [] (suc i) l = refl
no_digit base n (d ∷ ds) zero l = absurd (omega arith)
no_digit base n (d ∷ ds) (suc i) l = no_digit base n ds i (omega arith)

-- the reference that ends at the first semicolon
pub begins_is : (test : List ℕ → Bool) (cs body end : List ℕ) → body ≡ front (is_other 59) cs → end ≡ beyond (is_other 59) cs → (is_some end && test body) ≡ (has_semicolon cs && test (up_to_semicolon cs))
begins_is test cs body end b e =
    ap (λ (x : List ℕ). is_some x && test body) e ∙ ap (λ (y : Bool). y && test body) (some_semicolon cs) ∙ ap (λ (x : List ℕ). has_semicolon cs && test x) (b ∙ front_semicolon cs)
