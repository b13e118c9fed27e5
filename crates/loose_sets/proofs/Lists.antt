-- Lists by their members, and two lists member by member.
use Rattle.std.proofs.Common.{◌≡◌, inl, inr, ℕ, zero, suc, Bool, true, false, List, [], ◌∷◌, ◌++◌, Some, subst}
use Rattle.std.specs.Prelude.{Contains, flat_map, map, slice_get}
use Rattle.std.specs.List.{AllZip}
use Rattle.string_functions.proofs.Members.{Contains-nil, Contains-cons_cases, Contains-head, Contains-later}
use Rattle.loose_sets.specs.Uses.{where_so}

pub where_has : {A : Type 0} (b : Bool) (xs : List A) (x : A) → b ≡ true → Contains xs x → Contains (where_so b xs) x
unfolding where_so
where_has true xs x e has = has
where_has false xs x e has = cc

pub map_has : {A B : Type 0} (f : A → B) (xs : List A) (x : A) → Contains xs x → Contains (map f xs) (f x)
map_has f [] x has = Contains-nil x has
map_has f (y ∷ ys) x has =
    elim (Contains-cons_cases y ys x has) [
      | inl same ↦ subst (λ z. Contains (f y ∷ map f ys) (f z)) same (Contains-head (f y) (map f ys))
      | inr later ↦ Contains-later (f y) (map f ys) (f x) (map_has f ys x later)
    ]

pub from_place : {A : Type 0} (xs : List A) (i : ℕ) (x : A) → slice_get xs i ≡ Some x → Contains xs x
from_place [] i x e = cc
from_place (y ∷ ys) zero x e =
    let same : y ≡ x = cc in
    subst (λ z. Contains (y ∷ ys) z) same (Contains-head y ys)
from_place (y ∷ ys) (suc i) x e = Contains-later y ys x (from_place ys i x e)

module _ {A B : Type 0} (R : A → B → Type 0) where
  pub zip_append : (xs us : List A) (ys vs : List B) → AllZip R xs ys → AllZip R us vs → AllZip R (xs ++ us) (ys ++ vs)
  zip_append [] us [] vs h i = i
  zip_append [] us (y ∷ ys) vs h i = absurd h
  zip_append (x ∷ xs) us [] vs h i = absurd h
  zip_append (x ∷ xs) us (y ∷ ys) vs h i = (h.0, zip_append xs us ys vs h.1 i)

  pub zip_where : (b : Bool) (xs : List A) (ys : List B) → AllZip R xs ys → AllZip R (where_so b xs) (where_so b ys)
  unfolding where_so
  zip_where true xs ys h = h
  zip_where false xs ys h = tt

  pub zip_flat_map : {C : Type 0} (f : C → List A) (g : C → List B) (cs : List C) → ((c : C) → Contains cs c → AllZip R (f c) (g c)) → AllZip R (flat_map f cs) (flat_map g cs)
  zip_flat_map f g [] h = tt
  zip_flat_map f g (c ∷ cs) h =
      zip_append (f c) (flat_map f cs) (g c) (flat_map g cs) (h c (Contains-head c cs)) (zip_flat_map f g cs (λ d has. h d (Contains-later c cs d has)))

  pub zip_map : {C : Type 0} (f : C → A) (g : C → B) (cs : List C) → ((c : C) → Contains cs c → R (f c) (g c)) → AllZip R (map f cs) (map g cs)
  zip_map f g [] h = tt
  zip_map f g (c ∷ cs) h = (h c (Contains-head c cs), zip_map f g cs (λ d has. h d (Contains-later c cs d has)))

  -- what stands in the one has its like in the other
  pub zip_first : (xs : List A) (ys : List B) → AllZip R xs ys → (x : A) → Contains xs x → (y : B) × Contains ys y × R x y
  zip_first [] ys h x has = absurd (Contains-nil x has)
  zip_first (z ∷ zs) [] h x has = absurd h
  zip_first (z ∷ zs) (y ∷ ys) h x has = elim (Contains-cons_cases z zs x has) [
    | inl same ↦ (y, Contains-head y ys, subst (λ (k : A). R k y) same h.0)
    | inr later ↦ (let r = zip_first zs ys h.1 x later in (r.0, Contains-later y ys r.0 r.1, r.2))
  ]
