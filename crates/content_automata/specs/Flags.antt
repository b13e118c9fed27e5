-- Equality of flags is exact.
use Rattle.std.specs.Prelude.{◌≡◌, Bool, true, List, [], ◌∷◌, refl}
use Rattle.std.specs.Hash.{HashWrites, slice, usize}
use Rattle.std.specs.Bool.{beq}
use Rattle.std.specs.Cmp.{first_so, second_so}
use Rattle.std.specs.Cmp.Lexicographic.{pointwise}
use Rattle.std.proofs.Common.{ap, ◌∙◌, false}
use Rattle.content_automata.specs.Sets.{members}

-- what is fed to a hasher: the positions in the set
abbrev pub fed_members : List Bool → HashWrites
fed_members flags = slice usize (members flags)

exact_flag : (x y : Bool) → beq x y ≡ true → x ≡ y
exact_flag true true h = refl
exact_flag true false h = cc
exact_flag false true h = cc
exact_flag false false h = refl

-- lists of flags that are found equal are one
pub exact_flags : (xs ys : List Bool) → pointwise beq xs ys ≡ true → xs ≡ ys
exact_flags [] [] h = refl
exact_flags [] (y ∷ ys) h = cc
exact_flags (x ∷ xs) [] h = cc
exact_flags (x ∷ xs) (y ∷ ys) h =
    let e : x ≡ y = exact_flag x y (first_so (beq x y) (pointwise beq xs ys) h) in
    let f : xs ≡ ys = exact_flags xs ys (second_so (beq x y) (pointwise beq xs ys) h) in
    ap (λ (z : Bool). z ∷ xs) e ∙ ap (λ (zs : List Bool). y ∷ zs) f

-- what is computed of equal flags is equal
pub alike : {W : Type 0} (f : List Bool → W) (xs ys : List Bool) → pointwise beq xs ys ≡ true → f xs ≡ f ys
alike f xs ys h = ap f (exact_flags xs ys h)
