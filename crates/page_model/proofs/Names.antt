-- Declared elements by name and by place.
use Rattle.std.proofs.Common.{◌≡◌, ℕ, suc, Bool, true, false, List, [], ◌∷◌, Option, Some, None, refl, sym, ◌∙◌, ap, slice_get}
use Rattle.std.specs.Prelude.{if◌then◌else◌, bytes_eq}
use Rattle.std.proofs.lemmas.Slice.Eq.{bytes_eq-Decides}
use Rattle.dtd_model.specs.Table.{Rule}
use Rattle.page_model.specs.Attributes.{find_rule, is_some_rule}
use Rattle.page_model.specs.Valid.{place_of}

pub same_bytes : (a b : List ℕ) → bytes_eq a b ≡ true → a ≡ b
same_bytes a b e = (bytes_eq-Decides a b).0 e

pub equal_bytes : (a b : List ℕ) → a ≡ b → bytes_eq a b ≡ true
equal_bytes a b e = (bytes_eq-Decides a b).1 e

-- a declared name is at its place
pub found_at : (rules : List Rule) (name : List ℕ) (r : Rule) → find_rule rules name ≡ Some r → (slice_get rules (place_of rules name) ≡ Some r) × (r.name ≡ name)
found_at [] name r e = cc
found_at (q ∷ rules) name r e = at (bytes_eq q.name name) refl e (λ z. found_at rules name r z)
  where
    at : (b : Bool) → bytes_eq q.name name ≡ b → (if b then Some q else find_rule rules name) ≡ Some r → (find_rule rules name ≡ Some r → (slice_get rules (place_of rules name) ≡ Some r) × (r.name ≡ name)) → (slice_get (q ∷ rules) (if b then 0 else suc (place_of rules name)) ≡ Some r) × (r.name ≡ name)
    at true h e ih = let s : q ≡ r = cc in (e, ap (λ (x : Rule). x.name) (sym s) ∙ same_bytes q.name name h)
    at false h e ih = ih e

-- and no other name has its place
pub one_place : (rules : List Rule) (name other : List ℕ) (r : Rule) → find_rule rules name ≡ Some r → place_of rules name ≡ place_of rules other → other ≡ name
one_place [] name other r e p = cc
one_place (q ∷ rules) name other r e p = at (bytes_eq q.name name) refl (bytes_eq q.name other) refl e p (λ z w. one_place rules name other r z w)
  where
    at : (b : Bool) → bytes_eq q.name name ≡ b → (d : Bool) → bytes_eq q.name other ≡ d → (if b then Some q else find_rule rules name) ≡ Some r
        → (if b then 0 else suc (place_of rules name)) ≡ (if d then 0 else suc (place_of rules other)) → (find_rule rules name ≡ Some r → place_of rules name ≡ place_of rules other → other ≡ name) → other ≡ name
    at true h true g e p ih = sym (same_bytes q.name other g) ∙ same_bytes q.name name h
    at true h false g e p ih = cc
    at false h true g e p ih = cc
    at false h false g e p ih = let w : place_of rules name ≡ place_of rules other = cc in ih e w

pub some_rule : (o : Option Rule) → is_some_rule o ≡ true → (r : Rule) × (o ≡ Some r)
some_rule None e = cc
some_rule (Some r) e = (r, refl)
