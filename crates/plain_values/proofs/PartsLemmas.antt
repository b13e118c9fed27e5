-- The parts of a text, by the place of the byte that cuts it.
use Rattle.std.proofs.Common.{◌≡◌, ℕ, zero, suc, ◌+◌, ◌-◌, ◌≤◌, Bool, true, false, not, cond, ◌||◌, nat_lt, List, [], ◌∷◌, length, take, drop, Some, None, refl, sym, ◌∙◌, ap, arith}
use Rattle.std.specs.List.{list_any, position, position_or_len}
use Rattle.std.proofs.lemmas.Bool.Decides.{nat_tests}
use Rattle.std.proofs.Math.Seq.{take-length}
use Rattle.std.proofs.lemmas.List.{length-drop}
use Rattle.plain_values.specs.Parts.{IsWhole, AreAround}

abbrev place : (ℕ → Bool) → List ℕ → ℕ
place test text = position_or_len test text

-- a byte passes where the place is not at the end
by_place : (test : ℕ → Bool) (text : List ℕ) → list_any test text ≡ nat_lt (place test text) (length text)
by_place test [] = refl
by_place test (b ∷ bs) = by (by_place test bs) (test b)
  where
    by : list_any test bs ≡ nat_lt (place test bs) (length bs) → (v : Bool) → (v || list_any test bs) ≡ nat_lt (cond (not v) (1 + place test bs) 0) (length (b ∷ bs))
    by rest true = grind (arith, nat_tests)
    by rest false = rest ∙ grind (arith, nat_tests)

end_place : (test : ℕ → Bool) (text : List ℕ) → list_any test text ≡ false → place test text ≡ length text
end_place test [] e = refl
end_place test (b ∷ bs) e = by (end_place test bs) (test b) e
  where
    by : (list_any test bs ≡ false → place test bs ≡ length bs) → (v : Bool) → (v || list_any test bs) ≡ false → cond (not v) (1 + place test bs) 0 ≡ length (b ∷ bs)
    by rest true h = cc
    by rest false h = omega (arith, rest h)

past : (xs : List ℕ) (n : ℕ) → length xs ≤ n → drop n xs ≡ []
past [] zero h = refl
past [] (suc n) h = refl
past (x ∷ xs) zero h = absurd (omega arith)
past (x ∷ xs) (suc n) h = past xs n (omega arith)

all_of : (xs : List ℕ) (n : ℕ) → n ≡ length xs → take n xs ≡ xs
all_of xs n e = ap (λ (m : ℕ). take m xs) e ∙ take-length xs

pub whole_if_nowhere : (test : ℕ → Bool) (text : List ℕ) → list_any test text ≡ false → IsWhole test text
whole_if_nowhere test text h = record {
  nowhere = h;
  before = all_of text (place test text) (end_place test text h);
  after = past text (place test text + 1) (omega (arith, end_place test text h));
}

pub whole_if_none : (test : ℕ → Bool) (text : List ℕ) → position test text ≡ None → IsWhole test text
whole_if_none test text e = whole_if_nowhere test text (by (nat_lt (place test text) (length text)) (by_place test text) e)
  where
    by : (b : Bool) → list_any test text ≡ b → cond b (Some (place test text)) None ≡ None → list_any test text ≡ false
    by true h g = cc
    by false h g = h

pub around_if_some : (test : ℕ → Bool) (text : List ℕ) (i : ℕ) → position test text ≡ Some i → AreAround test text (take i text) (take (length text - (i + 1)) (drop (i + 1) text))
around_if_some test text i e = made (by (nat_lt (place test text) (length text)) (by_place test text) e)
  where
    by : (b : Bool) → list_any test text ≡ b → cond b (Some (place test text)) None ≡ Some i → (list_any test text ≡ true) × (place test text ≡ i)
    by true h g = (h, cc)
    by false h g = cc

    made : (list_any test text ≡ true) × (place test text ≡ i) → AreAround test text (take i text) (take (length text - (i + 1)) (drop (i + 1) text))
    made h = record {
      somewhere = h.0;
      before = ap (λ (n : ℕ). take n text) (sym h.1);
      after = all_of (drop (i + 1) text) (length text - (i + 1)) (sym (length-drop (i + 1) text)) ∙ ap (λ (n : ℕ). drop (n + 1) text) (sym h.1);
    }
