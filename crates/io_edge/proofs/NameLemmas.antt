-- Laws of the parts of names.
use Rattle.std.proofs.Common.{◌≡◌, ◌-◌, ◌++◌, ◌∙◌, ◌||◌, ℕ, List, [], ◌∷◌, length, take, Bool, true, false, Option, None, Some, Bor, bytes_eq, map, refl, ap, sym, subst, arith, length-append}
use Rattle.std.proofs.Math.Seq.{take-append_seam}
use Rattle.std.proofs.lemmas.List.{append-nil, map-append}
use Rattle.std.specs.List.{join_by, join_with_byte, last_or}
use Rattle.std.specs.Path.{slash, parent_dir}
use Rattle.io_edge.specs.Names.{all_but_last, back_from}

-- the texts in a row, with slashes between them
pub joined : (parts : List (Bor (List ℕ))) → join_by (λ (p : Bor (List ℕ)). p.now) (slash ∷ []) parts ≡ join_with_byte slash (map (λ (p : Bor (List ℕ)). p.now) parts)
joined [] = refl
joined (p ∷ []) = append-nil p.now
joined (p ∷ q ∷ parts) = ap (λ (t : List ℕ). p.now ++ (slash ∷ t)) (joined (q ∷ parts))

-- the last of a list that ends so
pub last_of : (o : Option (List ℕ)) (parts : List (List ℕ)) (part : List ℕ) → last_or o (parts ++ part ∷ []) ≡ Some part
last_of o [] part = refl
last_of o (p ∷ parts) part = last_of (Some p) parts part

-- what stands before it
pub front_of : (parts : List (List ℕ)) (part : List ℕ) → all_but_last (parts ++ part ∷ []) ≡ parts
front_of parts part =
    let e : length (parts ++ part ∷ []) - 1 ≡ length parts = omega (arith, length-append parts (part ∷ [])) in
    subst (λ (n : ℕ). take n (parts ++ part ∷ []) ≡ parts) (sym e) (take-append_seam parts (part ∷ []))

-- texts that end so
pub mapped : (old new : List (Bor (List ℕ))) (part : Bor (List ℕ)) → old ≡ new ++ part ∷ [] → map (λ (p : Bor (List ℕ)). p.now) old ≡ map (λ (p : Bor (List ℕ)). p.now) new ++ part.now ∷ []
mapped old new part e = ap (map (λ (p : Bor (List ℕ)). p.now)) e ∙ map-append (λ (p : Bor (List ℕ)). p.now) new (part ∷ [])

-- going back from a part that is no `..` takes it away
pub back_plain : (absolute : Bool) (old new : List (List ℕ)) (part : List ℕ) → old ≡ new ++ part ∷ [] → bytes_eq part parent_dir ≡ false → new ≡ back_from absolute old (last_or None old)
back_plain absolute old new part e plain =
    let last : last_or None old ≡ Some part = ap (last_or None) e ∙ last_of None new part in
    let front : all_but_last old ≡ new = ap all_but_last e ∙ front_of new part in
    rw last (rw plain (sym front))

-- going back from `..` puts one more behind it
pub back_dots : (absolute : Bool) (old new : List (List ℕ)) (part : List ℕ) → old ≡ new ++ part ∷ [] → bytes_eq part parent_dir ≡ true → old ++ parent_dir ∷ [] ≡ back_from absolute old (last_or None old)
back_dots absolute old new part e dots =
    let last : last_or None old ≡ Some part = ap (last_or None) e ∙ last_of None new part in
    rw last (rw dots refl)

-- a choice of two, by the first that holds
pub or_first : (r a b : Bool) → r ≡ a → r ≡ true → r ≡ (a || b)
or_first true true b e t = refl
or_first true false b e t = cc
or_first false a b e t = cc

pub or_second : (q r a b : Bool) → q ≡ a → q ≡ false → r ≡ b → r ≡ (a || b)
or_second false r false b e t f = f
or_second false r true b e t f = cc
or_second true r a b e t f = cc
