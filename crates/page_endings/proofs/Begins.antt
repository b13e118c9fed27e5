-- Beginnings of names: where none begins so, none does with more behind it, and none is whole.
use Rattle.std.proofs.Common.{◌≡◌, ℕ, Bool, true, false, ◌||◌, List, [], ◌∷◌, ◌++◌, refl, sym, ◌∙◌, ap, arith}
use Rattle.std.specs.Prelude.{nat_eq, bytes_eq}
use Rattle.std.specs.List.{list_any}
use Rattle.std.proofs.lemmas.Bool.{and_parts, and_from}
use Rattle.std.proofs.lemmas.Slice.Eq.{bytes_eq-Decides}
use Rattle.std.proofs.lemmas.Bool.Decides.{nat_tests}
use Rattle.page_steps.specs.DoctypeSteps.{begins}
use Rattle.page_endings.specs.Ending.{some_name_begins}

-- what fails is not passed
pub not_true : (x y : Bool) → (x ≡ true → y ≡ true) → y ≡ false → x ≡ false
not_true true y h e = let z : true ≡ y = sym (h refl) in cc
not_true false y h e = refl

pub any_through : {X : Type 0} (p q : X → Bool) → ((x : X) → p x ≡ true → q x ≡ true) → (xs : List X) → list_any p xs ≡ true → list_any q xs ≡ true
any_through p q h [] e = cc
any_through {X} p q h (x ∷ xs) e = at (p x) refl e (any_through p q h xs)
  where
    true_or : (y z : Bool) → y ≡ true → (y || z) ≡ true
    true_or true z e = refl
    true_or false z e = cc

    or_true : (y z : Bool) → z ≡ true → (y || z) ≡ true
    or_true true z e = refl
    or_true false z e = e

    at : (b : Bool) → p x ≡ b → (b || list_any p xs) ≡ true → (list_any p xs ≡ true → list_any q xs ≡ true) → (q x || list_any q xs) ≡ true
    at true i e ih = true_or (q x) (list_any q xs) (h x i)
    at false i e ih = or_true (q x) (list_any q xs) (ih e)

pub begins_less : (front whole more : List ℕ) → begins whole (front ++ more) ≡ true → begins whole front ≡ true
begins_less [] whole more e = refl
begins_less (c ∷ cs) [] more e = cc
begins_less (c ∷ cs) (w ∷ ws) more e =
    let p = and_parts (nat_eq c w) (begins ws (cs ++ more)) e in
    and_from (nat_eq c w) (begins ws cs) p.0 (begins_less cs ws more p.1)

itself : (n : ℕ) → nat_eq n n ≡ true
itself n = grind (arith, nat_tests)

pub begins_itself : (name : List ℕ) → begins name name ≡ true
begins_itself [] = refl
begins_itself (c ∷ cs) = and_from (nat_eq c c) (begins cs cs) (itself c) (begins_itself cs)

pub begins_same : (whole front : List ℕ) → bytes_eq whole front ≡ true → begins whole front ≡ true
begins_same whole front e = ap (λ (w : List ℕ). begins w front) ((bytes_eq-Decides whole front).0 e) ∙ begins_itself front

pub some_less : (names : List (List ℕ)) (front : List ℕ) (c : ℕ) → some_name_begins names front ≡ false → some_name_begins names (front ++ c ∷ []) ≡ false
some_less names front c e =
    not_true (some_name_begins names (front ++ c ∷ [])) (some_name_begins names front)
    (any_through (λ (w : List ℕ). begins w (front ++ c ∷ [])) (λ (w : List ℕ). begins w front) (λ w h. begins_less front w (c ∷ []) h) names) e

-- none of the names is this one
pub none_among : (names : List (List ℕ)) (front : List ℕ) → some_name_begins names front ≡ false → list_any (bytes_eq front) names ≡ false
none_among names front e =
    not_true (list_any (bytes_eq front) names) (some_name_begins names front)
    (any_through (bytes_eq front) (λ (w : List ℕ). begins w front) (λ w h. ap (begins w) ((bytes_eq-Decides front w).0 h) ∙ begins_itself w) names) e
