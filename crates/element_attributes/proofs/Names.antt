-- Names that stand among attributes.
use Rattle.std.proofs.Common.{◌≡◌, ℕ, Bool, true, false, ◌&&◌, ◌||◌, List, [], ◌∷◌, Some, refl, sym, ◌∙◌, ap}
use Rattle.std.specs.Prelude.{if◌then◌else◌, bytes_eq}
use Rattle.std.specs.List.{list_any}
use Rattle.std.proofs.lemmas.Slice.Eq.{bytes_eq-Decides}
use Rattle.dtd_model.specs.Table.{Declared}
use Rattle.page_model.specs.Fronts.{find_declared}
use Rattle.page_steps.specs.TagSteps.{is_among, names_with}

pub same : (a b : List ℕ) → bytes_eq a b ≡ true → a ≡ b
same a b e = (bytes_eq-Decides a b).0 e

pub itself : (a : List ℕ) → bytes_eq a a ≡ true
itself a = (bytes_eq-Decides a a).1 refl

pub turned : (a b : List ℕ) → bytes_eq a b ≡ bytes_eq b a
turned a b = at (bytes_eq a b) (bytes_eq b a) refl refl
  where
    at : (x y : Bool) → bytes_eq a b ≡ x → bytes_eq b a ≡ y → x ≡ y
    at true true e f = refl
    at true false e f = sym ((bytes_eq-Decides b a).1 (sym (same a b e))) ∙ f
    at false true e f = sym e ∙ (bytes_eq-Decides a b).1 (sym (same b a f))
    at false false e f = refl

-- the name is declared
abbrev pub has_name : List Declared → List ℕ → Bool
has_name rules m = list_any (λ (d : Declared). bytes_eq m d.name) rules

or_true : (x : Bool) → (x || true) ≡ true
or_true true = refl
or_true false = refl

-- which names stand behind one more
pub among_with : (rules : List Declared) (names : List (List ℕ)) (name m : List ℕ) → is_among (names_with rules names name) m ≡ (has_name rules m && (is_among names m || bytes_eq name m))
among_with [] names name m = refl
among_with (d ∷ ds) names name m = at (is_among names d.name || bytes_eq name d.name) refl (bytes_eq m d.name) refl (among_with ds names name m)
  where
    N : List ℕ → Bool
    N w = is_among names w || bytes_eq name w

    here : bytes_eq m d.name ≡ true → (is_among names m || bytes_eq name m) ≡ (is_among names d.name || bytes_eq name d.name)
    here e = ap (λ (w : List ℕ). is_among names w || bytes_eq name w) (same m d.name e)

    and_true : (x y : Bool) → x ≡ true → true ≡ (true && x)
    and_true true y e = refl
    and_true false y e = cc

    none : (x y : Bool) → x ≡ false → (y && x) ≡ false
    none true y e = cc
    none false true e = refl
    none false false e = refl

    at : (b : Bool) → (is_among names d.name || bytes_eq name d.name) ≡ b → (e : Bool) → bytes_eq m d.name ≡ e → is_among (names_with ds names name) m ≡ (list_any (λ (d : Declared). bytes_eq m d.name) ds && (is_among names m || bytes_eq name m))
        → is_among (if b then d.name ∷ names_with ds names name else names_with ds names name) m ≡ ((e || list_any (λ (d : Declared). bytes_eq m d.name) ds) && (is_among names m || bytes_eq name m))
    at true q true p ih = ap (λ (x : Bool). x || is_among (names_with ds names name) m) p ∙ and_true _ false (here p ∙ q)
    at true q false p ih = ap (λ (x : Bool). x || is_among (names_with ds names name) m) p ∙ ih
    at false q true p ih = ih ∙ none _ (list_any (λ (d : Declared). bytes_eq m d.name) ds) (here p ∙ q) ∙ sym (here p ∙ q)
    at false q false p ih = ih

-- a declared name is found
pub found_has : (rules : List Declared) (m : List ℕ) (d : Declared) → find_declared rules m ≡ Some d → has_name rules m ≡ true
found_has [] m d e = cc
found_has (r ∷ rs) m d e = at (bytes_eq r.name m) refl e (found_has rs m d)
  where
    at : (b : Bool) → bytes_eq r.name m ≡ b → (if b then Some r else find_declared rs m) ≡ Some d → (find_declared rs m ≡ Some d → list_any (λ (d : Declared). bytes_eq m d.name) rs ≡ true) → (bytes_eq m r.name || list_any (λ (d : Declared). bytes_eq m d.name) rs) ≡ true
    at true q e ih = ap (λ (x : Bool). x || list_any (λ (d : Declared). bytes_eq m d.name) rs) (turned m r.name ∙ q)
    at false q e ih = ap (λ (x : Bool). bytes_eq m r.name || x) (ih e) ∙ or_true (bytes_eq m r.name)
