-- Attributes are read one by one.
use Rattle.std.proofs.Common.{◌≡◌, ℕ, zero, suc, ◌+◌, ◌<◌, ◌≤◌, List, [], ◌∷◌, ◌++◌, map, length, refl, sym, ap, ◌∙◌, subst, Option, Some, None, append_assoc, arith}
use Rattle.page_model.specs.Parts.{Attribute, attribute_then}
use Rattle.xml_text.specs.Characters.{is_blank}
use Rattle.page_model.specs.Scan.{front, beyond}
use Rattle.page_model.specs.Reading.{name_at, attribute_at, attributes_by, attributes_at, all_attributes, tag_end, tag_with, open_at}
use Rattle.page_model.proofs.ScanLemmas.{then_is}
use Rattle.page_model.proofs.AttributeLemmas.{attribute_is, longer}

pub shorter : (cs : List ℕ) (z : Attribute × List ℕ) → attribute_at cs ≡ Some z → length z.1 < length cs
shorter cs z e =
    let i = attribute_is cs z e in
    let l = longer z.0 z.1 in
    let s : length (attribute_then z.0 z.1) ≡ length cs = ap length i.is in
    omega arith

enough : (n m : ℕ) (cs : List ℕ) → length cs ≤ n → length cs ≤ m → attributes_at n cs ≡ attributes_at m cs
unfolding attribute_at
enough zero zero cs l k = refl
enough zero (suc m) [] l k = refl
enough zero (suc m) (c ∷ cs) l k = absurd (omega arith)
enough (suc n) zero [] l k = refl
enough (suc n) zero (c ∷ cs) l k = absurd (omega arith)
enough (suc n) (suc m) cs l k = at (attribute_at cs) refl (λ rest g h. enough n m rest g h)
  where
    at : (o : Option (Attribute × List ℕ)) → attribute_at cs ≡ o → ((rest : List ℕ) → length rest ≤ n → length rest ≤ m → attributes_at n rest ≡ attributes_at m rest)
        → attributes_by o cs (λ rest. attributes_at n rest) ≡ attributes_by o cs (λ rest. attributes_at m rest)
    at None e ih = refl
    at (Some z) e ih = let s = shorter cs z e in ap (λ (y : List Attribute × List ℕ). let x : List Attribute × List ℕ = (z.0 ∷ y.0, y.1) in x) (ih z.1 (omega arith) (omega arith))

-- attributes before others
abbrev pub joined : List Attribute → List Attribute × List ℕ → List Attribute × List ℕ
joined xs z = (xs ++ z.0, z.1)

pub unrolled : (cs : List ℕ) (z : Attribute × List ℕ) → attribute_at cs ≡ Some z → all_attributes cs ≡ joined (z.0 ∷ []) (all_attributes z.1)
unfolding all_attributes attribute_at
unrolled [] z e = cc
unrolled (c ∷ ds) z e =
    let s = shorter (c ∷ ds) z e in
    ap (λ o. attributes_by o (c ∷ ds) (λ rest. attributes_at (length ds) rest)) e
    ∙ ap (λ (y : List Attribute × List ℕ). let x : List Attribute × List ℕ = (z.0 ∷ y.0, y.1) in x) (enough (length ds) (length z.1) z.1 (omega arith) (omega arith))

pub joined_more : (xs : List Attribute) (a : Attribute) (z : List Attribute × List ℕ) → joined xs (joined (a ∷ []) z) ≡ joined (xs ++ a ∷ []) z
joined_more xs a z = ap (λ (ys : List Attribute). let x : List Attribute × List ℕ = (ys, z.1) in x) (sym (append_assoc xs (a ∷ []) z.0))

append_none : (xs : List Attribute) → xs ++ [] ≡ xs
append_none [] = refl
append_none (x ∷ xs) = ap (λ (ys : List Attribute). x ∷ ys) (append_none xs)

pub no_more : (cs : List ℕ) (xs : List Attribute) → attribute_at cs ≡ None → joined xs (all_attributes cs) ≡ (let x : List Attribute × List ℕ = (xs, cs) in x)
unfolding all_attributes
no_more [] xs e = ap (λ (ys : List Attribute). let x : List Attribute × List ℕ = (ys, []) in x) (append_none xs)
no_more (c ∷ ds) xs e =
    ap (joined xs) (ap (λ o. attributes_by o (c ∷ ds) (λ rest. attributes_at (length ds) rest)) e)
    ∙ ap (λ (ys : List Attribute). let x : List Attribute × List ℕ = (ys, c ∷ ds) in x) (append_none xs)

pub map_push : {A B : Type 0} (f : A → B) (xs : List A) (x : A) → map f (xs ++ x ∷ []) ≡ map f xs ++ f x ∷ []
map_push f [] x = refl
map_push f (y ∷ ys) x = ap (λ zs. f y ∷ zs) (map_push f ys x)

-- one attribute more
pub one_more : (cs rest : List ℕ) (xs : List Attribute) (z : Attribute × List ℕ) → all_attributes cs ≡ joined xs (all_attributes rest) → attribute_at rest ≡ Some z → all_attributes cs ≡ joined (xs ++ z.0 ∷ []) (all_attributes z.1)
one_more cs rest xs z i e = i ∙ ap (joined xs) (unrolled rest z e) ∙ joined_more xs z.0 (all_attributes z.1)

-- a tag from its parts
pub open_from : (cs : List ℕ) (n : List ℕ × List ℕ) (a : List Attribute × List ℕ) (space end : List ℕ) → name_at cs ≡ Some n → all_attributes n.1 ≡ a → front is_blank a.1 ≡ space → beyond is_blank a.1 ≡ end
    → open_at cs ≡ tag_end (record { name = n.0; attributes = a.0; space = space }) end
unfolding open_at
open_from cs n a space end named all f b =
    then_is (name_at cs) n (λ n. tag_with n.0 (all_attributes n.1).0 (all_attributes n.1).1) named
    ∙ ap (λ (z : List Attribute × List ℕ). tag_with n.0 z.0 z.1) all
    ∙ ap (λ (w : List ℕ). tag_end (record { name = n.0; attributes = a.0; space = w }) (beyond is_blank a.1)) f
    ∙ ap (tag_end (record { name = n.0; attributes = a.0; space = space })) b
