-- What the first place of a pattern tells of the pieces of a text.
use Rattle.std.proofs.Common.{◌≡◌, ℕ, zero, suc, ◌+◌, ◌-◌, ◌<◌, ◌≤◌, max, Bool, true, false, if◌then◌else◌, List, [], ◌∷◌, ◌++◌, length, take, drop, nat_eq, Option, Some, None, inl, inr, nat_lt, length-append, refl, sym, ◌∙◌, ap, subst, arith, append_assoc}
use Rattle.std.specs.List.{starts_with}
use Rattle.std.proofs.lemmas.Bool.{cases_Bool}
use Rattle.std.proofs.lemmas.Bool.Decides.{nat_tests}
use Rattle.std.proofs.lemmas.List.{length-take-le}
use Rattle.string_functions.specs.Pieces.{in_first, pieces_past, pieces_of, join_of, replaced_text}
use Rattle.string_functions.proofs.PiecesLaws.{starts_with-splits, pieces_of-occurrence, pieces_of-byte, replaced_text-occurrence, replaced_text-byte}
use Rattle.string_functions.specs.Place.{first_place, one_later}

later : (o : Option ℕ) (i : ℕ) → one_later o ≡ Some i → (j : ℕ) × (o ≡ Some j) × (i ≡ suc j)
later None i e = cc
later (Some j) i e = (j, refl, cc)

later_none : (o : Option ℕ) → one_later o ≡ None → o ≡ None
later_none None e = refl
later_none (Some j) e = cc

-- behind an occurrence the rest is replaced, and in front of it nothing is
pub replaced_found : (c : ℕ) (search with text : List ℕ) (i : ℕ) → first_place (c ∷ search) text ≡ Some i → replaced_text (c ∷ search) with text ≡ take i text ++ (with ++ replaced_text (c ∷ search) with (drop (i + length (c ∷ search)) text))
replaced_found c search with [] i e = cc
replaced_found c search with (b ∷ bs) i e = elim (cases_Bool (starts_with nat_eq (b ∷ bs) (c ∷ search))) [
  | inl here ↦
      let first : Some 0 ≡ Some i = sym (ap (λ (t : Bool). if t then Some 0 else one_later (first_place (c ∷ search) bs)) here) ∙ e in
      let zero_is : 0 ≡ i = cc in
      let splits : b ∷ bs ≡ (c ∷ search) ++ drop (length (c ∷ search)) (b ∷ bs) = starts_with-splits (b ∷ bs) (c ∷ search) here in
      let whole : replaced_text (c ∷ search) with (b ∷ bs) ≡ with ++ replaced_text (c ∷ search) with (drop (length (c ∷ search)) (b ∷ bs)) =
      ap (replaced_text (c ∷ search) with) splits ∙ replaced_text-occurrence c search with (drop (length (c ∷ search)) (b ∷ bs)) in
      let n : length (c ∷ search) ≡ 0 + length (c ∷ search) = omega arith in
      subst (λ (k : ℕ). replaced_text (c ∷ search) with (b ∷ bs) ≡ take k (b ∷ bs) ++ (with ++ replaced_text (c ∷ search) with (drop (k + length (c ∷ search)) (b ∷ bs)))) zero_is
      (whole ∙ ap (λ (k : ℕ). with ++ replaced_text (c ∷ search) with (drop k (b ∷ bs))) n)
  | inr away ↦
      let j = later (first_place (c ∷ search) bs) i (sym (ap (λ (t : Bool). if t then Some 0 else one_later (first_place (c ∷ search) bs)) away) ∙ e) in
      let rest = replaced_found c search with bs j.0 j.1 in
      let n : suc j.0 + length (c ∷ search) ≡ suc (j.0 + length (c ∷ search)) = omega arith in
      subst (λ (k : ℕ). replaced_text (c ∷ search) with (b ∷ bs) ≡ take k (b ∷ bs) ++ (with ++ replaced_text (c ∷ search) with (drop (k + length (c ∷ search)) (b ∷ bs)))) (sym j.2)
      (replaced_text-byte c search with b bs away ∙ ap (λ (t : List ℕ). b ∷ t) rest ∙ ap (λ (k : ℕ). b ∷ (take j.0 bs ++ (with ++ replaced_text (c ∷ search) with (drop k (b ∷ bs))))) (sym n))
]

apart : (n : ℕ) → Some n ≡ None → ⊥
apart n e = cc

pub replaced_none : (c : ℕ) (search with text : List ℕ) → first_place (c ∷ search) text ≡ None → replaced_text (c ∷ search) with text ≡ text
replaced_none c search with [] e = refl
replaced_none c search with (b ∷ bs) e = elim (cases_Bool (starts_with nat_eq (b ∷ bs) (c ∷ search))) [
  | inl here ↦
      let first : Some 0 ≡ None = sym (ap (λ (t : Bool). if t then Some 0 else one_later (first_place (c ∷ search) bs)) here) ∙ e in
      absurd (apart 0 first)
  | inr away ↦
      let none = later_none (first_place (c ∷ search) bs) (sym (ap (λ (t : Bool). if t then Some 0 else one_later (first_place (c ∷ search) bs)) away) ∙ e) in
      replaced_text-byte c search with b bs away ∙ ap (λ (t : List ℕ). b ∷ t) (replaced_none c search with bs none)
]

pub replaced_at : (p with text : List ℕ) (i : ℕ) → 0 < length p → first_place p text ≡ Some i → replaced_text p with text ≡ take i text ++ (with ++ replaced_text p with (drop (i + length p) text))
replaced_at [] with text i h e = absurd (omega arith)
replaced_at (c ∷ search) with text i h e = replaced_found c search with text i e

pub replaced_nowhere : (p with text : List ℕ) → 0 < length p → first_place p text ≡ None → replaced_text p with text ≡ text
replaced_nowhere [] with text h e = absurd (omega arith)
replaced_nowhere (c ∷ search) with text h e = replaced_none c search with text e

pub replaced_length : (p with text : List ℕ) (i : ℕ) → 0 < length p → first_place p text ≡ Some i → i + length p ≤ length text → length (replaced_text p with text) ≡ i + (length with + length (replaced_text p with (drop (i + length p) text)))
replaced_length p with text i h e low =
    let rest : List ℕ = replaced_text p with (drop (i + length p) text) in
    let whole : length (replaced_text p with text) ≡ length (take i text ++ (with ++ rest)) = ap length (replaced_at p with text i h e) in
    omega (arith, whole, length-append (take i text) (with ++ rest), length-append with rest, length-take-le i text (omega arith))

-- what is longer than a text may be
pub over : (n : ℕ) → 16777216 < n → true ≡ nat_lt 16777216 n
over n h = by (nat_lt 16777216 n) refl
  where
    by : (b : Bool) → nat_lt 16777216 n ≡ b → true ≡ b
    by true e = refl
    by false e = absurd (grind (arith, nat_tests, h))

pub same_test : (total a b : ℕ) → total + a ≡ b → total ≤ 16777216 → nat_lt (16777216 - total) a ≡ nat_lt 16777216 b
same_test total a b e low = by (nat_lt (16777216 - total) a) (nat_lt 16777216 b) refl refl
  where
    by : (s t : Bool) → nat_lt (16777216 - total) a ≡ s → nat_lt 16777216 b ≡ t → s ≡ t
    by true true x y = refl
    by false false x y = refl
    by true false x y = absurd (grind (arith, nat_tests, e, low))
    by false true x y = absurd (grind (arith, nat_tests, e, low))

-- the pieces at an occurrence, and where there is none
pieces_found : (c : ℕ) (sep text : List ℕ) (i : ℕ) → first_place (c ∷ sep) text ≡ Some i → pieces_of (c ∷ sep) text ≡ take i text ∷ pieces_of (c ∷ sep) (drop (i + length (c ∷ sep)) text)
pieces_found c sep [] i e = cc
pieces_found c sep (b ∷ bs) i e = elim (cases_Bool (starts_with nat_eq (b ∷ bs) (c ∷ sep))) [
  | inl here ↦
      let first : Some 0 ≡ Some i = sym (ap (λ (t : Bool). if t then Some 0 else one_later (first_place (c ∷ sep) bs)) here) ∙ e in
      let zero_is : 0 ≡ i = cc in
      let splits : b ∷ bs ≡ (c ∷ sep) ++ drop (length (c ∷ sep)) (b ∷ bs) = starts_with-splits (b ∷ bs) (c ∷ sep) here in
      let whole : pieces_of (c ∷ sep) (b ∷ bs) ≡ [] ∷ pieces_of (c ∷ sep) (drop (length (c ∷ sep)) (b ∷ bs)) =
      ap (pieces_of (c ∷ sep)) splits ∙ pieces_of-occurrence c sep (drop (length (c ∷ sep)) (b ∷ bs)) in
      let n : length (c ∷ sep) ≡ 0 + length (c ∷ sep) = omega arith in
      subst (λ (k : ℕ). pieces_of (c ∷ sep) (b ∷ bs) ≡ take k (b ∷ bs) ∷ pieces_of (c ∷ sep) (drop (k + length (c ∷ sep)) (b ∷ bs))) zero_is
      (whole ∙ ap (λ (k : ℕ). [] ∷ pieces_of (c ∷ sep) (drop k (b ∷ bs))) n)
  | inr away ↦
      let j = later (first_place (c ∷ sep) bs) i (sym (ap (λ (t : Bool). if t then Some 0 else one_later (first_place (c ∷ sep) bs)) away) ∙ e) in
      let rest = pieces_found c sep bs j.0 j.1 in
      let n : suc j.0 + length (c ∷ sep) ≡ suc (j.0 + length (c ∷ sep)) = omega arith in
      subst (λ (k : ℕ). pieces_of (c ∷ sep) (b ∷ bs) ≡ take k (b ∷ bs) ∷ pieces_of (c ∷ sep) (drop (k + length (c ∷ sep)) (b ∷ bs))) (sym j.2)
      (pieces_of-byte c sep b bs away ∙ ap (in_first b) rest ∙ ap (λ (k : ℕ). (b ∷ take j.0 bs) ∷ pieces_of (c ∷ sep) (drop k (b ∷ bs))) (sym n))
]

pieces_none : (c : ℕ) (sep text : List ℕ) → first_place (c ∷ sep) text ≡ None → pieces_of (c ∷ sep) text ≡ text ∷ []
pieces_none c sep [] e = refl
pieces_none c sep (b ∷ bs) e = elim (cases_Bool (starts_with nat_eq (b ∷ bs) (c ∷ sep))) [
  | inl here ↦ absurd (apart 0 (sym (ap (λ (t : Bool). if t then Some 0 else one_later (first_place (c ∷ sep) bs)) here) ∙ e))
  | inr away ↦
      let none = later_none (first_place (c ∷ sep) bs) (sym (ap (λ (t : Bool). if t then Some 0 else one_later (first_place (c ∷ sep) bs)) away) ∙ e) in
      pieces_of-byte c sep b bs away ∙ ap (in_first b) (pieces_none c sep bs none)
]

pub pieces_at : (p text : List ℕ) (i : ℕ) → 0 < length p → first_place p text ≡ Some i → pieces_of p text ≡ take i text ∷ pieces_of p (drop (i + length p) text)
pieces_at [] text i h e = absurd (omega arith)
pieces_at (c ∷ sep) text i h e = pieces_found c sep text i e

pub pieces_nowhere : (p text : List ℕ) → 0 < length p → first_place p text ≡ None → pieces_of p text ≡ text ∷ []
pieces_nowhere [] text h e = absurd (omega arith)
pieces_nowhere (c ∷ sep) text h e = pieces_none c sep text e

-- each piece but the last stands before an occurrence of at least one byte
in_first_length : (b : ℕ) (pieces : List (List ℕ)) → length (in_first b pieces) ≤ max 1 (length pieces)
in_first_length b [] = omega arith
in_first_length b (piece ∷ pieces) = omega arith

past_count : (sep : List ℕ) (left : ℕ) (text : List ℕ) → length (pieces_past sep left text) ≤ length text + 1
past_count sep zero [] = omega arith
past_count sep (suc left) [] = omega arith
past_count sep (suc left) (b ∷ rest) = let low = past_count sep left rest in omega arith
past_count sep zero (b ∷ rest) = by (past_count sep (length sep - 1) rest) (past_count sep 0 rest) (starts_with nat_eq (b ∷ rest) sep)
  where
    by : length (pieces_past sep (length sep - 1) rest) ≤ length rest + 1 → length (pieces_past sep 0 rest) ≤ length rest + 1 → (t : Bool) → length (if t then [] ∷ pieces_past sep (length sep - 1) rest else in_first b (pieces_past sep 0 rest)) ≤ length (b ∷ rest) + 1
    by low other true = omega arith
    by low other false = let l = in_first_length b (pieces_past sep 0 rest) in omega arith

pub pieces_count : (sep text : List ℕ) → length (pieces_of sep text) ≤ length text + 1
pieces_count [] text = omega arith
pieces_count (c ∷ sep) text = past_count (c ∷ sep) 0 text
