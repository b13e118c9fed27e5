-- A trimmed text is the text without blanks on both sides.
use Rattle.std.proofs.Common.{◌≡◌, ℕ, Bool, true, false, not, ◌&&◌, if◌then◌else◌, List, [], ◌∷◌, ◌++◌, reverse, append-nil, refl, sym, ◌∙◌, ap}
use Rattle.std.specs.Cmp.{first_so, second_so}
use Rattle.std.specs.List.{list_all}
use Rattle.std.proofs.lemmas.List.Folds.{list_all-append}
use mathlib.Core.List.{reverse-cons, reverse-append, reverse-reverse}
use Rattle.plain_values.specs.Numeric.{is_blank, skip_blanks, trimmed}
use Rattle.plain_values.specs.Grammar.{AreBlanks}

abbrev pub is_shown : ℕ → Bool
is_shown b = not (is_blank b)

-- no byte is a blank
abbrev pub AreShown : List ℕ → Type 0
AreShown bs = list_all is_shown bs ≡ true

both_true : (a b : Bool) → a ≡ true → b ≡ true → (a && b) ≡ true
both_true true true e f = refl
both_true true false e f = f
both_true false b e f = e

pub all_reverse : (p : ℕ → Bool) (bs : List ℕ) → list_all p bs ≡ true → list_all p (reverse bs) ≡ true
all_reverse p [] h = refl
all_reverse p (b ∷ bs) h =
    ap (list_all p) (reverse-cons b bs)
    ∙ list_all-append p (reverse bs) (b ∷ [])
    ∙ both_true (list_all p (reverse bs)) (p b && true) (all_reverse p bs (second_so (p b) (list_all p bs) h)) (both_true (p b) true (first_so (p b) (list_all p bs) h) refl)

skip_over : (bs xs : List ℕ) → AreBlanks bs → skip_blanks (bs ++ xs) ≡ skip_blanks xs
skip_over [] xs h = refl
skip_over (b ∷ bs) xs h = by (is_blank b) (first_so (is_blank b) (list_all is_blank bs) h) (skip_over bs xs (second_so (is_blank b) (list_all is_blank bs) h))
  where
    by : (v : Bool) → v ≡ true → skip_blanks (bs ++ xs) ≡ skip_blanks xs → (if v then skip_blanks (bs ++ xs) else b ∷ (bs ++ xs)) ≡ skip_blanks xs
    by true e rest = rest
    by false e rest = cc

skip_none : (bs : List ℕ) → AreShown bs → skip_blanks bs ≡ bs
skip_none [] h = refl
skip_none (b ∷ bs) h = by (is_blank b) (first_so (not (is_blank b)) (list_all is_shown bs) h)
  where
    by : (v : Bool) → not v ≡ true → (if v then skip_blanks bs else b ∷ bs) ≡ b ∷ bs
    by true e = cc
    by false e = refl

skip_shown : (b : ℕ) (bs xs : List ℕ) → AreShown (b ∷ bs) → skip_blanks ((b ∷ bs) ++ xs) ≡ (b ∷ bs) ++ xs
skip_shown b bs xs h = by (is_blank b) (first_so (not (is_blank b)) (list_all is_shown bs) h)
  where
    by : (v : Bool) → not v ≡ true → (if v then skip_blanks (bs ++ xs) else b ∷ (bs ++ xs)) ≡ b ∷ (bs ++ xs)
    by true e = cc
    by false e = refl

-- blanks around a text without blanks are taken away
pub trimmed-padded : (front body back : List ℕ) → AreBlanks front → AreShown body → AreBlanks back → trimmed (front ++ (body ++ back)) ≡ body
trimmed-padded front [] back f s b =
    ap (λ (xs : List ℕ). reverse (skip_blanks (reverse xs))) (skip_over front back f ∙ sym (ap skip_blanks (append-nil back)) ∙ skip_over back [] b)
trimmed-padded front (x ∷ xs) back f s b =
    ap (λ (ys : List ℕ). reverse (skip_blanks (reverse ys))) (skip_over front ((x ∷ xs) ++ back) f ∙ skip_shown x xs back s)
    ∙ ap (λ (ys : List ℕ). reverse (skip_blanks ys)) (reverse-append (x ∷ xs) back)
    ∙ ap reverse (skip_over (reverse back) (reverse (x ∷ xs)) (all_reverse is_blank back b) ∙ skip_none (reverse (x ∷ xs)) (all_reverse is_shown (x ∷ xs) s))
    ∙ reverse-reverse (x ∷ xs)

skipped : (bs : List ℕ) → (front : List ℕ) × AreBlanks front × (bs ≡ front ++ skip_blanks bs)
skipped [] = ([], refl, refl)
skipped (b ∷ bs) = by (is_blank b) refl (skipped bs)
  where
    by : (v : Bool) → is_blank b ≡ v → (front : List ℕ) × AreBlanks front × (bs ≡ front ++ skip_blanks bs) → (front : List ℕ) × AreBlanks front × (b ∷ bs ≡ front ++ (if v then skip_blanks bs else b ∷ bs))
    by true e rest = (b ∷ rest.0, both_true (is_blank b) (list_all is_blank rest.0) e rest.1, ap (λ (ys : List ℕ). b ∷ ys) rest.2)
    by false e rest = ([], refl, refl)

-- what stands around a trimmed text is blanks
pub around-trimmed : (text : List ℕ) → (front : List ℕ) × (back : List ℕ) × AreBlanks front × AreBlanks back × (text ≡ front ++ (trimmed text ++ back))
around-trimmed text =
    let a = skipped text in
    let s : List ℕ = skip_blanks text in
    let b = skipped (reverse s) in
    let e : s ≡ reverse (skip_blanks (reverse s)) ++ reverse b.0 = sym (reverse-reverse s) ∙ ap reverse b.2 ∙ reverse-append b.0 (skip_blanks (reverse s)) in
    (a.0, reverse b.0, a.1, all_reverse is_blank b.0 b.1, a.2 ∙ ap (λ (ys : List ℕ). a.0 ++ ys) e)
