-- Names among names, and members of lists.
use Rattle.std.proofs.Common.{◌≡◌, ◌∙◌, ◌<◌, ◌≤◌, ℕ, zero, suc, Bool, true, false, List, [], ◌∷◌, ◌++◌, length, map, Some, slice_get, get_or, inl, inr, refl, sym, ap, subst, arith}
use Rattle.std.specs.Prelude.{◌⊎◌, ◌||◌, bytes_eq}
use Rattle.std.specs.List.{Contains}
use Rattle.std.proofs.lemmas.List.Elements.{Contains-append_right}
use Rattle.std.proofs.lemmas.Option.{same_Some}
use Rattle.program_rules.specs.Programs.{ReadFile, StandOnce}
use Rattle.program_files.specs.Order.{is_read}
use Rattle.program_files.specs.Steps.{is_among}
use Rattle.program_files.proofs.NameLemmas.{same_name, own_name, read_push}

either : (a b : Bool) → (a || b) ≡ true → (a ≡ true) ⊎ (b ≡ true)
either true b e = inl refl
either false b e = inr e

left_true : (a b : Bool) → a ≡ true → (a || b) ≡ true
left_true true b e = refl
left_true false b e = absurd (cc)

right_true : (a b : Bool) → b ≡ true → (a || b) ≡ true
right_true true b e = refl
right_true false b e = e

regroup : (a b c : Bool) → (a || (b || c)) ≡ ((a || b) || c)
regroup true b c = refl
regroup false b c = refl

pub among_push : (names : List (List ℕ)) (y x : List ℕ) → is_among (names ++ y ∷ []) x ≡ (is_among names x || bytes_eq x y)
among_push [] y x = last (bytes_eq x y)
  where
    last : (b : Bool) → (b || false) ≡ (false || b)
    last true = refl
    last false = refl
among_push (z ∷ zs) y x = ap (λ (b : Bool). bytes_eq x z || b) (among_push zs y x) ∙ regroup (bytes_eq x z) (is_among zs x) (bytes_eq x y)

pub still_among : (names : List (List ℕ)) (y x : List ℕ) → is_among names x ≡ true → is_among (names ++ y ∷ []) x ≡ true
still_among names y x e = among_push names y x ∙ left_true (is_among names x) (bytes_eq x y) e

pub now_among : (names : List (List ℕ)) (x : List ℕ) → is_among (names ++ x ∷ []) x ≡ true
now_among names x = among_push names x x ∙ right_true (is_among names x) (bytes_eq x x) (own_name x)

pub among_cases : (names : List (List ℕ)) (y x : List ℕ) → is_among (names ++ y ∷ []) x ≡ true → (is_among names x ≡ true) ⊎ (x ≡ y)
among_cases names y x e = elim (either (is_among names x) (bytes_eq x y) (sym (among_push names y x) ∙ e)) [ inl old ↦ inl old | inr same ↦ inr (same_name x y same) ]

pub read_cases : (files : List ReadFile) (file : ReadFile) (x : List ℕ) → is_read (files ++ file ∷ []) x ≡ true → (is_read files x ≡ true) ⊎ (x ≡ file.name)
read_cases files file x e = elim (either (is_read files x) (bytes_eq x file.name) (sym (read_push files file x) ∙ e)) [ inl old ↦ inl old | inr same ↦ inr (same_name x file.name same) ]

contains_first : {X : Type 0} (x : X) (xs : List X) → Contains (x ∷ xs) x
contains_first x xs = (0, omega arith, refl)

pub among_contains : (names : List (List ℕ)) (x : List ℕ) → is_among names x ≡ true → Contains names x
among_contains [] x e = absurd (cc)
among_contains (y ∷ ys) x e = elim (either (bytes_eq x y) (is_among ys x) e) [
  | inl same ↦ subst (λ (z : List ℕ). Contains (z ∷ ys) x) (same_name x y same) (contains_first x ys)
  | inr later ↦ Contains-append_right (y ∷ []) ys x (among_contains ys x later)
]

pub contains_among : (names : List (List ℕ)) (x : List ℕ) → Contains names x → is_among names x ≡ true
contains_among [] x c = absurd (let h = c.1 in omega arith)
contains_among (y ∷ ys) x (zero, lt, is) = left_true (bytes_eq x y) (is_among ys x) (ap (λ (z : List ℕ). bytes_eq x z) is ∙ own_name x)
contains_among (y ∷ ys) x (suc k, lt, is) = right_true (bytes_eq x y) (is_among ys x) (contains_among ys x (k, omega arith, is))

-- a file that is there is read
pub there_read : (files : List ReadFile) (f : ReadFile) → Contains files f → is_read files f.name ≡ true
there_read [] f c = absurd (let h = c.1 in omega arith)
there_read (g ∷ gs) f (zero, lt, is) = left_true (bytes_eq f.name g.name) (is_read gs f.name) (ap (λ (z : ReadFile). bytes_eq f.name z.name) is ∙ own_name f.name)
there_read (g ∷ gs) f (suc k, lt, is) = right_true (bytes_eq f.name g.name) (is_read gs f.name) (there_read gs f (k, omega arith, is))

-- members of a list under a function
pub contains_map : {X Y : Type 0} (g : X → Y) (xs : List X) (x : X) → Contains xs x → Contains (map g xs) (g x)
contains_map g [] x c = absurd (let h = c.1 in omega arith)
contains_map {X} {Y} g (y ∷ ys) x (zero, lt, is) = subst (λ (z : X). Contains (g y ∷ map g ys) (g z)) is (contains_first (g y) (map g ys))
contains_map g (y ∷ ys) x (suc k, lt, is) = Contains-append_right (g y ∷ []) (map g ys) (g x) (contains_map g ys x (k, omega arith, is))

pub contains_of_map : {X Y : Type 0} (g : X → Y) (xs : List X) (y : Y) → Contains (map g xs) y → (x : X) × Contains xs x × (g x ≡ y)
contains_of_map g [] y c = absurd (let h = c.1 in omega arith)
contains_of_map g (x ∷ xs) y (zero, lt, is) = (x, contains_first x xs, is)
contains_of_map g (x ∷ xs) y (suc k, lt, is) = let r = contains_of_map g xs y (k, omega arith, is) in (r.0, Contains-append_right (x ∷ []) xs r.0 r.1, r.2)

pub map_same : {X Y : Type 0} (g h : X → Y) (xs : List X) → ((x : X) → Contains xs x → g x ≡ h x) → map g xs ≡ map h xs
map_same g h [] e = refl
map_same {X} {Y} g h (x ∷ xs) e = ap (λ (y : Y). y ∷ map g xs) (e x (contains_first x xs)) ∙ ap (λ (ys : List Y). h x ∷ ys) (map_same g h xs (λ z c. e z (Contains-append_right (x ∷ []) xs z c)))

-- a name at a place is among them
pub at_place : (names : List (List ℕ)) (i : ℕ) (x : List ℕ) → slice_get names i ≡ Some x → is_among names x ≡ true
at_place [] i x e = absurd (cc)
at_place (y ∷ ys) zero x e = left_true (bytes_eq x y) (is_among ys x) (ap (λ (z : List ℕ). bytes_eq x z) (same_Some y x e) ∙ own_name x)
at_place (y ∷ ys) (suc i) x e = right_true (bytes_eq x y) (is_among ys x) (at_place ys i x e)

-- at a place of a longer list stands an old name, or it is the last place
place_cases : (names : List (List ℕ)) (y : List ℕ) (i : ℕ) (x : List ℕ) → slice_get (names ++ y ∷ []) i ≡ Some x → (slice_get names i ≡ Some x) ⊎ ((i ≡ length names) × (y ≡ x))
place_cases [] y zero x e = inr (refl, same_Some y x e)
place_cases [] y (suc i) x e = absurd (cc)
place_cases (z ∷ zs) y zero x e = inl e
place_cases (z ∷ zs) y (suc i) x e = elim (place_cases zs y i x e) [ inl old ↦ inl old | inr last ↦ inr (ap suc last.0, last.1) ]

pub once_more : (names : List (List ℕ)) (y : List ℕ) → StandOnce names → is_among names y ≡ false → StandOnce (names ++ y ∷ [])
once_more names y once new i j x e f = elim (place_cases names y i x e) [
  | inl old ↦ elim (place_cases names y j x f) [
    | inl also ↦ once i j x old also
    | inr last ↦ absurd (let a : is_among names y ≡ true = ap (λ (z : List ℕ). is_among names z) last.1 ∙ at_place names i x old in let b : true ≡ false = sym a ∙ new in cc)
  ]
  | inr last ↦ elim (place_cases names y j x f) [
    | inl old ↦ absurd (let a : is_among names y ≡ true = ap (λ (z : List ℕ). is_among names z) last.1 ∙ at_place names j x old in let b : true ≡ false = sym a ∙ new in cc)
    | inr also ↦ last.0 ∙ sym also.0
  ]
]

-- a list without the name at a place
without : List (List ℕ) → ℕ → List (List ℕ)
without [] i = []
without (y ∷ ys) zero = ys
without (y ∷ ys) (suc i) = y ∷ without ys i

shorter : (ys : List (List ℕ)) (i : ℕ) → i < length ys → length ys ≡ suc (length (without ys i))
unfolding without
shorter [] i lt = absurd (omega (arith, lt))
shorter (y ∷ ys) zero lt = refl
shorter (y ∷ ys) (suc i) lt = ap suc (shorter ys i (omega (arith, lt)))

still_there : (ys : List (List ℕ)) (i : ℕ) (x : List ℕ) → Contains ys x → (x ≡ get_or ys i x → ⊥) → Contains (without ys i) x
unfolding without
still_there [] i x c other = absurd (let h = c.1 in omega (arith, h))
still_there (y ∷ ys) zero x (zero, lt, is) other = absurd (other (sym is))
still_there (y ∷ ys) zero x (suc k, lt, is) other = (k, omega (arith, lt), is)
still_there (y ∷ ys) (suc i) x (zero, lt, is) other = (0, omega arith, is)
still_there (y ∷ ys) (suc i) x (suc k, lt, is) other = let r = still_there ys i x (k, omega (arith, lt), is) other in (suc r.0, (let h = r.1 in omega (arith, h)), r.2)

at_some_place : (xs : List (List ℕ)) (x : List ℕ) → Contains xs x → (i : ℕ) × (slice_get xs i ≡ Some x)
at_some_place [] x c = absurd (let h = c.1 in omega (arith, h))
at_some_place (y ∷ ys) x (zero, lt, is) = (zero, ap Some is)
at_some_place (y ∷ ys) x (suc k, lt, is) = let r = at_some_place ys x (k, omega (arith, lt), is) in (suc r.0, r.1)

-- names that stand once, all of them among others, are no more than those
pub once_within : (xs ys : List (List ℕ)) → StandOnce xs → ((x : List ℕ) → Contains xs x → Contains ys x) → length xs ≤ length ys
once_within [] ys once within = omega arith
once_within (x ∷ xs) ys once within =
    let at = within x (contains_first x xs) in
    let rest : (z : List ℕ) → Contains xs z → Contains (without ys at.0) z = λ z c.
    still_there ys at.0 z (within z (Contains-append_right (x ∷ []) xs z c)) (λ same.
    let p = at_some_place xs z c in
    let is : x ≡ z = sym at.2 ∙ get_or_any ys at.0 x z at.1 ∙ sym same in
    let both : 0 ≡ suc p.0 = once 0 (suc p.0) x refl (p.1 ∙ ap Some (sym is)) in omega (arith, both)) in
    let less = once_within xs (without ys at.0) (λ i j z e f. (let s : suc i ≡ suc j = once (suc i) (suc j) z e f in omega (arith, s))) rest in
    let size = shorter ys at.0 at.1 in
    omega (arith, less, size)
  where
    get_or_any : (ys : List (List ℕ)) (i : ℕ) (d e : List ℕ) → i < length ys → get_or ys i d ≡ get_or ys i e
    get_or_any [] i d e lt = absurd (omega (arith, lt))
    get_or_any (y ∷ ys) zero d e lt = refl
    get_or_any (y ∷ ys) (suc i) d e lt = get_or_any ys i d e (omega (arith, lt))
