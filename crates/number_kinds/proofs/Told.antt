-- Numbers of two kinds are told apart by some digits behind them.
use Rattle.std.proofs.Common.{◌≡◌, ℕ, ◌+◌, ◌*◌, Bool, true, false, not, ◌||◌, nat_le, nat_eq, List, [], ◌∷◌, refl, ◌∙◌, ap, arith}
use Rattle.std.specs.Prelude.{if◌then◌else◌}
use Rattle.std.specs.List.{list_all}
use Rattle.std.proofs.lemmas.Bool.{and_parts}
use Rattle.std.proofs.lemmas.Bool.Decides.{nat_tests}
use Rattle.xml_text.specs.Characters.{is_character}
use Rattle.dtd_model.specs.References.{number_written}
use Rattle.number_kinds.specs.Kinds.{kind_in}
use Rattle.number_kinds.specs.Laws.{AreAlike}

-- the pairs are different in the second number, or the same in the first
abbrev pub told : ℕ × ℕ → ℕ × ℕ → Bool
told p q = not (nat_eq p.1 q.1) || nat_eq p.0 q.0

-- each is told from each other
abbrev pub all_told : List (ℕ × ℕ) → Bool
all_told pairs = list_all (λ (p : ℕ × ℕ). list_all (told p) pairs) pairs

told_same : (a b c d : ℕ) → told (a, c) (b, d) ≡ true → c ≡ d → a ≡ b
told_same a b c d h e = grind (arith, nat_tests)

module _ (base : ℕ) (is_digit : ℕ → Bool) where
  -- which of the digits make it a character, as one number
  abbrev pub code : List (List ℕ) → ℕ → ℕ
  code [] n = 0
  code (digits ∷ more) n = (if is_character (number_written base n digits) then 1 else 0) + 2 * code more n

  same_code : (tries : List (List ℕ)) → list_all (list_all is_digit) tries ≡ true → (n m : ℕ) → AreAlike base is_digit n m
      → code tries n ≡ code tries m
  same_code [] h n m a = refl
  same_code (digits ∷ more) h n m a =
      let parts = and_parts (list_all is_digit digits) (list_all (list_all is_digit) more) h in
      ap (λ (b : Bool). (if b then 1 else 0) + 2 * code more n) (a digits parts.0)
      ∙ ap (λ (k : ℕ). (if is_character (number_written base m digits) then 1 else 0) + 2 * k) (same_code more parts.1 n m a)

  -- each kind of the rows with its code
  abbrev pub coded : List (List ℕ) → List (ℕ × ℕ) → List (ℕ × ℕ)
  coded tries [] = (0x110000, code tries 0x110000) ∷ []
  coded tries (row ∷ rows) = (row.1, code tries row.1) ∷ coded tries rows

  found : (tries : List (List ℕ)) (p : ℕ × ℕ → Bool) (rows : List (ℕ × ℕ)) → list_all p (coded tries rows) ≡ true → (n : ℕ)
      → p (kind_in rows n, code tries (kind_in rows n)) ≡ true
  found tries p [] h n = (and_parts (p (0x110000, code tries 0x110000)) true h).0
  found tries p (row ∷ rows) h n =
      let parts = and_parts (p (row.1, code tries row.1)) (list_all p (coded tries rows)) h in
      at parts.0 (found tries p rows parts.1 n) (nat_le n row.0)
    where
      at : p (row.1, code tries row.1) ≡ true → p (kind_in rows n, code tries (kind_in rows n)) ≡ true → (b : Bool)
          → p ((if b then row.1 else kind_in rows n), code tries (if b then row.1 else kind_in rows n)) ≡ true
      at here behind true = here
      at here behind false = behind

  pub one_kind : (tries : List (List ℕ)) (rows : List (ℕ × ℕ)) → all_told (coded tries rows) ≡ true → list_all (list_all is_digit) tries ≡ true
      → (n m : ℕ) → AreAlike base is_digit (kind_in rows n) (kind_in rows m) → kind_in rows n ≡ kind_in rows m
  one_kind tries rows h d n m a =
      let first = found tries (λ (p : ℕ × ℕ). list_all (told p) (coded tries rows)) rows h n in
      let second = found tries (told (kind_in rows n, code tries (kind_in rows n))) rows first m in
      told_same (kind_in rows n) (kind_in rows m) (code tries (kind_in rows n)) (code tries (kind_in rows m)) second
      (same_code tries d (kind_in rows n) (kind_in rows m) a)
