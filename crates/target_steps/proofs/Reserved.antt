-- So much of a target as may still become `xml`.
use Rattle.std.proofs.Common.{◌≡◌, ℕ, suc, Bool, true, false, ◌&&◌, List, [], ◌∷◌, ◌++◌, Option, Some, None, refl, sym, ◌∙◌, ap, arith, length, take, nat_le}
use Rattle.std.specs.Prelude.{if◌then◌else◌, nat_eq, codes, bytes_eq}
use Rattle.std.specs.Char.{to_ascii_lowercase}
use Rattle.std.specs.Str.{str_eq_ignore_ascii_case}
use Rattle.std.proofs.lemmas.Slice.Eq.{bytes_eq-Decides}
use Rattle.std.proofs.lemmas.Bool.Decides.{nat_tests}
use Rattle.xml_text.specs.Names.{in_name}
use Rattle.page_model.specs.Fronts.{reserved}
use Rattle.page_steps.specs.PageSteps.{more_target, may_be_target, is_reserved, is_xml, is_started}

-- a front of `xml`, in any case
abbrev pub is_front : List ℕ → Bool
is_front target = nat_le (length target) 3 && str_eq_ignore_ascii_case target (take (length target) (codes "xml"))

far : (n : ℕ) → nat_le (suc (suc (suc (suc n)))) 3 ≡ false
far n = grind (arith, nat_tests)

none : (a b : Bool) → a ≡ false → (a && b) ≡ false
none true b e = cc
none false b e = refl

two : (x y : Bool) → (x && true) ≡ false → (x && (y && true)) ≡ false
two true y e = cc
two false y e = refl

three : (x y z : Bool) → (x && (y && true)) ≡ false → (x && (y && (z && true))) ≡ false
three true true z e = cc
three true false z e = refl
three false y z e = refl

-- what is no front does not become one
no_more : (target : List ℕ) (c : ℕ) → is_front target ≡ false → is_front (target ++ c ∷ []) ≡ false
no_more [] c h = cc
no_more (a ∷ []) c h = two _ _ h
no_more (a ∷ b ∷ []) c h = three _ _ _ h
no_more (a ∷ b ∷ d ∷ []) c h = refl
no_more (a ∷ b ∷ d ∷ f ∷ more) c h = none _ _ (far (length (more ++ c ∷ [])))

pub grown : (target : List ℕ) (c : ℕ) → more_target (reserved target) c ≡ reserved (target ++ c ∷ [])
grown target c = at (is_front target) refl
  where
    at : (b : Bool) → is_front target ≡ b → more_target (if b then Some target else None) c ≡ reserved (target ++ c ∷ [])
    at true h = refl
    at false h = sym (ap (λ (b : Bool). if b then Some (target ++ c ∷ []) else None) (no_more target c h))

pub begun : (a : ℕ) (target : List ℕ) (c : ℕ) → may_be_target (reserved (a ∷ target)) c ≡ in_name c
begun a target c = at (is_front (a ∷ target))
  where
    at : (b : Bool) → may_be_target (if b then Some (a ∷ target) else None) c ≡ in_name c
    at true = refl
    at false = refl

pub started : (a : ℕ) (target : List ℕ) → is_started (reserved (a ∷ target)) ≡ true
started a target = at (is_front (a ∷ target))
  where
    at : (b : Bool) → is_started (if b then Some (a ∷ target) else None) ≡ true
    at true = refl
    at false = refl

one_not : (x : Bool) → (x && false) ≡ false
one_not true = refl
one_not false = refl

two_not : (x y : Bool) → (x && (y && false)) ≡ false
two_not true y = one_not y
two_not false y = refl

three_not : (x y z : Bool) → (x && (y && (z && false))) ≡ false
three_not true y z = two_not y z
three_not false y z = refl

-- `xml` itself is a front of it
whole_front : (target : List ℕ) → is_front target ≡ false → str_eq_ignore_ascii_case target (codes "xml") ≡ false
whole_front [] h = refl
whole_front (a ∷ []) h = one_not _
whole_front (a ∷ b ∷ []) h = two_not _ _
whole_front (a ∷ b ∷ d ∷ []) h = h
whole_front (a ∷ b ∷ d ∷ f ∷ more) h = three_not (nat_eq (to_ascii_lowercase a) 120) (nat_eq (to_ascii_lowercase b) 109) (nat_eq (to_ascii_lowercase d) 108)

pub reserved_is : (target : List ℕ) → is_reserved (reserved target) ≡ str_eq_ignore_ascii_case target (codes "xml")
reserved_is target = at (is_front target) refl
  where
    at : (b : Bool) → is_front target ≡ b → is_reserved (if b then Some target else None) ≡ str_eq_ignore_ascii_case target (codes "xml")
    at true h = refl
    at false h = sym (whole_front target h)

pub xml_is : (target : List ℕ) → is_xml (reserved target) ≡ true → target ≡ codes "xml"
xml_is target e = at (is_front target) e
  where
    at : (b : Bool) → is_xml (if b then Some target else None) ≡ true → target ≡ codes "xml"
    at true e = (bytes_eq-Decides target (codes "xml")).0 e
    at false e = cc
