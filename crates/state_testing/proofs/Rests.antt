-- What is left of a fixed value, one character after the other, and where it is no text.
use Rattle.std.proofs.Common.{◌≡◌, ℕ, zero, suc, ◌+◌, ◌<◌, ◌≤◌, Bool, true, false, ◌&&◌, List, [], ◌∷◌, ◌++◌, drop, length, get_or, refl, sym, ap, ◌∙◌, arith, add-one, drop-cons, length-append, append_assoc, min}
use Rattle.std.specs.Prelude.{nat_le}
use Rattle.std.specs.Char.{encode_utf8, len_utf8}
use Rattle.std.specs.List.{list_all}
use Rattle.std.specs.Str.{IsUtf8, encode_utf8_all}
use Rattle.std.proofs.Math.ListN.{drop_of_length-le}
use Rattle.std.proofs.Math.Seq.{drop-nil}
use Rattle.std.proofs.lemmas.Bool.{and_parts}
use Rattle.std.proofs.lemmas.Bool.Decides.{nat_tests}
use Rattle.std.proofs.lemmas.Str.{length-encode}
use Rattle.dtd_model.specs.Table.{fixed, Declared}
use Rattle.page_model.specs.OpenValues.{in_fixed}
use Rattle.page_model.specs.Parts.{may_be_quoted}
use Rattle.page_steps.specs.ValueSteps.{value_good}
use Rattle.page_endings.specs.Ending.{bytes_behind, fixed_rest, ends_by}
use Rattle.page_endings.proofs.ValueTraps.{bytes_left, good_wanted, quoted_characters, scalars_from}

-- one character at the head of a text
pub first_fails : (p : ℕ → Bool) (all rest : List ℕ) (c : ℕ) → all ≡ c ∷ rest → p c ≡ false → list_all p all ≡ false
first_fails p all rest c e h = ap (list_all p) e ∙ ap (λ (b : Bool). b && list_all p rest) h

pub first_passes : (p : ℕ → Bool) (all rest : List ℕ) (c : ℕ) → all ≡ c ∷ rest → p c ≡ true → list_all p all ≡ list_all p rest
first_passes p all rest c e h = ap (list_all p) e ∙ ap (λ (b : Bool). b && list_all p rest) h

-- it goes from the rest to the whole
pub moved : (whole rest text after more : List ℕ) (c : ℕ) → whole ++ rest ≡ text → rest ≡ c ∷ more → after ≡ whole ++ c ∷ [] → after ++ more ≡ text
moved whole rest text after more c e is put = ap (λ (l : List ℕ). l ++ more) put ∙ append_assoc whole (c ∷ []) more ∙ ap (λ (l : List ℕ). whole ++ l) (sym is) ∙ e

drop_twice : (a b : ℕ) (l : List ℕ) → drop (a + b) l ≡ drop b (drop a l)
drop_twice zero b l =
    let none : 0 + b ≡ b = omega arith in
    ap (λ (k : ℕ). drop k l) none
drop_twice (suc a) b [] = drop-nil (suc a + b) ∙ sym (drop-nil b)
drop_twice (suc a) b (x ∷ l) =
    let more : suc a + b ≡ suc (a + b) = omega arith in
    ap (λ (k : ℕ). drop k (x ∷ l)) more ∙ drop_twice a b l

drop_up_to : (n m : ℕ) (l : List ℕ) → m ≡ min n (length l) → drop m l ≡ drop n l
drop_up_to n m l e = at (nat_le n (length l)) refl
  where
    at : (b : Bool) → nat_le n (length l) ≡ b → drop m l ≡ drop n l
    at true h =
        let same : m ≡ n = grind (arith, nat_tests) in
        ap (λ (k : ℕ). drop k l) same
    at false h =
        let short : length l ≤ n = grind (arith, nat_tests) in
        let all : length l ≤ m = omega arith in
        drop_of_length-le l all ∙ sym (drop_of_length-le l short)

-- one character more of a text
one_more : (front : List ℕ) (i c : ℕ) → i < length front → c ≡ get_or front i c → encode_utf8_all (drop i front) ≡ encode_utf8 c ++ encode_utf8_all (drop (i + 1) front)
one_more front i c lt is =
    ap encode_utf8_all (drop-cons front i c lt)
    ∙ ap (λ (x : ℕ). encode_utf8 x ++ encode_utf8_all (drop (suc i) front)) (sym is)
    ∙ ap (λ (k : ℕ). encode_utf8 c ++ encode_utf8_all (drop k front)) (sym (add-one i))

-- behind its bytes stands what stands behind all
pub further : (rest others value : List ℕ) (i c m : ℕ) → i < length value → c ≡ get_or value i c → m ≡ min (len_utf8 c) (length rest) → others ≡ drop m rest
    → bytes_behind others (drop (i + 1) value) ≡ bytes_behind rest (drop i value)
further rest others value i c m lt is least e =
    let more = encode_utf8_all (drop (i + 1) value) in
    ap (λ (l : List ℕ). drop (length more) l) (e ∙ drop_up_to (len_utf8 c) m rest least)
    ∙ sym (drop_twice (len_utf8 c) (length more) rest)
    ∙ ap (λ (k : ℕ). drop (k + length more) rest) (sym (length-encode c))
    ∙ ap (λ (k : ℕ). drop k rest) (sym (length-append (encode_utf8 c) more))
    ∙ ap (λ (l : List ℕ). drop (length l) rest) (sym (one_more value i c lt is))

-- where no text is left, no good value begins so
pub no_text : (entities : List (List ℕ)) (d : Declared) (quote : ℕ) (wanted value : List ℕ) → d.presence ≡ fixed wanted → ¬ (IsUtf8 (bytes_behind wanted value))
    → false ≡ ends_by entities d quote value (fixed_rest wanted value)
no_text entities d quote wanted value p none = at (ends_by entities d quote value (fixed_rest wanted value)) refl
  where
    at : (b : Bool) → ends_by entities d quote value (fixed_rest wanted value) ≡ b → false ≡ b
    at false e = refl
    at true e =
        let rest = fixed_rest wanted value in
        let x = and_parts (list_all (may_be_quoted quote) rest) (value_good entities d (in_fixed (value ++ rest))) e in
        let left = bytes_left wanted value rest (good_wanted entities d wanted (value ++ rest) p x.1) in
        absurd (none (rest, (scalars_from rest (quoted_characters quote rest x.0), sym left)))
