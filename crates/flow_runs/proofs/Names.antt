-- The variables of a function have slots of their own.
use Rattle.std.proofs.Common.{◌≡◌, suc, ◌<◌, List, [], ◌∷◌, ◌++◌, length, refl, sym, ap, ◌∙◌, subst, arith, Bool, true, false, bytes_eq, true≢false}
use Rattle.std.specs.Prelude.{if◌then◌else◌}
use Rattle.std.proofs.lemmas.Slice.Eq.{bytes_eq-Decides}
use Rattle.plain_values.specs.Plain.{Plain, null}
use Rattle.script_meaning.specs.Runs.{Variables, value_in, set_in}
use Rattle.flow_code.specs.Variables.{Name, place_of, without, once}

pub same_name : (x y : Name) → x ≡ y → bytes_eq x y ≡ true
same_name x y e = (bytes_eq-Decides x y).1 e

pub name_is : (x y : Name) → bytes_eq x y ≡ true → x ≡ y
name_is x y e = (bytes_eq-Decides x y).0 e

pub other_name : (x y : Name) → bytes_eq x y ≡ false → x ≡ y → ⊥
other_name x y e same = true≢false (sym (same_name x y same) ∙ e)

abbrev pub Has : List Name → Name → Type 0
Has names x = place_of x names < length names

abbrev pub HasAll : List Name → List Name → Type 0
HasAll names [] = Unit {0}
HasAll names (x ∷ xs) = Has names x × HasAll names xs

pub all_front : (names xs ys : List Name) → HasAll names (xs ++ ys) → HasAll names xs
all_front names [] ys h = tt
all_front names (x ∷ xs) ys h = (h.0, all_front names xs ys h.1)

pub all_back : (names xs ys : List Name) → HasAll names (xs ++ ys) → HasAll names ys
all_back names [] ys h = h
all_back names (x ∷ xs) ys h = all_back names xs ys h.1

pub place_is : (x y : Name) (names : List Name) → Has names x → Has names y → place_of x names ≡ place_of y names → x ≡ y
unfolding place_of
place_is x y [] hx hy e = absurd (omega (arith, hx))
place_is x y (z ∷ zs) hx hy e = by_test (place_is x y zs) (bytes_eq x z) (bytes_eq y z) refl refl
  where
    by_test : (Has zs x → Has zs y → place_of x zs ≡ place_of y zs → x ≡ y) → (a b : Bool) → bytes_eq x z ≡ a → bytes_eq y z ≡ b → x ≡ y
    by_test go true true ex ey = name_is x z ex ∙ sym (name_is y z ey)
    by_test go true false ex ey =
        let at : (if true then 0 else suc (place_of x zs)) ≡ (if false then 0 else suc (place_of y zs)) = ap (λ b. if b then 0 else suc (place_of x zs)) (sym ex) ∙ e ∙ ap (λ b. if b then 0 else suc (place_of y zs)) ey in
        absurd (omega (arith, at))
    by_test go false true ex ey =
        let at : (if false then 0 else suc (place_of x zs)) ≡ (if true then 0 else suc (place_of y zs)) = ap (λ b. if b then 0 else suc (place_of x zs)) (sym ex) ∙ e ∙ ap (λ b. if b then 0 else suc (place_of y zs)) ey in
        absurd (omega (arith, at))
    by_test go false false ex ey =
        let at : suc (place_of x zs) ≡ suc (place_of y zs) = ap (λ b. if b then 0 else suc (place_of x zs)) (sym ex) ∙ e ∙ ap (λ b. if b then 0 else suc (place_of y zs)) ey in
        let fx : suc (place_of x zs) < suc (length zs) = subst (λ b. (if b then 0 else suc (place_of x zs)) < suc (length zs)) ex hx in
        let fy : suc (place_of y zs) < suc (length zs) = subst (λ b. (if b then 0 else suc (place_of y zs)) < suc (length zs)) ey hy in
        go (omega (arith, fx)) (omega (arith, fy)) (omega (arith, at))

-- a name stands first, or further on
has_more : (y z : Name) (zs : List Name) → (bytes_eq y z ≡ false → Has zs y) → Has (z ∷ zs) y
unfolding place_of
has_more y z zs h = by_test (bytes_eq y z) refl
  where
    by_test : (b : Bool) → bytes_eq y z ≡ b → (if bytes_eq y z then 0 else suc (place_of y zs)) < suc (length zs)
    by_test true e = subst (λ b. (if b then 0 else suc (place_of y zs)) < suc (length zs)) (sym e) (omega arith)
    by_test false e = let k = h e in subst (λ b. (if b then 0 else suc (place_of y zs)) < suc (length zs)) (sym e) (omega (arith, k))

has_less : (y z : Name) (zs : List Name) → bytes_eq y z ≡ false → Has (z ∷ zs) y → Has zs y
unfolding place_of
has_less y z zs e h = let k : suc (place_of y zs) < suc (length zs) = subst (λ b. (if b then 0 else suc (place_of y zs)) < suc (length zs)) e h in omega (arith, k)

has_without : (x y : Name) (zs : List Name) → bytes_eq y x ≡ false → Has zs y → Has (without x zs) y
unfolding without place_of
has_without x y [] e h = absurd (omega (arith, h))
has_without x y (z ∷ zs) e h = by_test (has_without x y zs e) (bytes_eq x z) refl
  where
    by_test : (Has zs y → Has (without x zs) y) → (b : Bool) → bytes_eq x z ≡ b → Has (if bytes_eq x z then without x zs else z ∷ without x zs) y
    by_test go true t =
        let other : bytes_eq y z ≡ false = ap (bytes_eq y) (sym (name_is x z t)) ∙ e in
        subst (λ b. Has (if b then without x zs else z ∷ without x zs) y) (sym t) (go (has_less y z zs other h))
    by_test go false t = subst (λ b. Has (if b then without x zs else z ∷ without x zs) y) (sym t) (has_more y z (without x zs) (λ other. go (has_less y z zs other h)))

all_more : (x : Name) (zs ys : List Name) → HasAll zs ys → HasAll (x ∷ without x zs) ys
all_more x zs [] h = tt
all_more x zs (y ∷ ys) h = (has_more y x (without x zs) (λ other. has_without x y zs other h.0), all_more x zs ys h.1)

-- each name is among those that are there once
pub once_has : (xs : List Name) → HasAll (once xs) xs
unfolding once
once_has [] = tt
once_has (x ∷ xs) = (has_more x x (without x (once xs)) (λ other. absurd (other_name x x other refl)), all_more x (once xs) xs (once_has xs))

-- the value of a variable after a write
pub value_set : (vs : Variables) (x : Name) (v : Plain) → value_in (set_in vs x v) x ≡ v
value_set [] x v = ap (λ b. if b then v else null) (same_name x x refl)
value_set (u ∷ vs) x v = by_test (value_set vs x v) (bytes_eq u.0 x) refl
  where
    by_test : value_in (set_in vs x v) x ≡ v → (b : Bool) → bytes_eq u.0 x ≡ b → value_in (if bytes_eq u.0 x then (x, v) ∷ vs else u ∷ set_in vs x v) x ≡ v
    by_test go true e = ap (λ b. value_in (if b then (x, v) ∷ vs else u ∷ set_in vs x v) x) e ∙ ap (λ b. if b then v else value_in vs x) (same_name x x refl)
    by_test go false e = ap (λ b. value_in (if b then (x, v) ∷ vs else u ∷ set_in vs x v) x) e ∙ ap (λ b. if b then u.1 else value_in (set_in vs x v) x) e ∙ go

pub value_other : (vs : Variables) (x y : Name) (v : Plain) → bytes_eq x y ≡ false → value_in (set_in vs x v) y ≡ value_in vs y
value_other [] x y v n = ap (λ b. if b then v else null) n
value_other (u ∷ vs) x y v n = by_test (value_other vs x y v n) (bytes_eq u.0 x) refl
  where
    by_test : value_in (set_in vs x v) y ≡ value_in vs y → (b : Bool) → bytes_eq u.0 x ≡ b → value_in (if bytes_eq u.0 x then (x, v) ∷ vs else u ∷ set_in vs x v) y ≡ (if bytes_eq u.0 y then u.1 else value_in vs y)
    by_test go true e =
        ap (λ b. value_in (if b then (x, v) ∷ vs else u ∷ set_in vs x v) y) e ∙ ap (λ b. if b then v else value_in vs y) n
        ∙ sym (ap (λ b. if b then u.1 else value_in vs y) (ap (λ z. bytes_eq z y) (name_is u.0 x e) ∙ n))
    by_test go false e = ap (λ b. value_in (if b then (x, v) ∷ vs else u ∷ set_in vs x v) y) e ∙ ap (λ z. if bytes_eq u.0 y then u.1 else z) go
