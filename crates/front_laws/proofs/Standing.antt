-- The names of attributes that are read in turn are those that stand, in the order of their declaration.
use Rattle.std.proofs.Common.{◌≡◌, ℕ, Bool, true, false, ◌&&◌, ◌||◌, List, [], ◌∷◌, refl, ◌∙◌, ap}
use Rattle.std.specs.Prelude.{if◌then◌else◌, bytes_eq}
use Rattle.std.specs.List.{list_all}
use Rattle.std.proofs.lemmas.Bool.{and_parts, and_from}
use Rattle.dtd_model.specs.Table.{Declared}
use Rattle.page_model.specs.Attributes.{stands}
use Rattle.page_model.specs.Parts.{Attribute}
use Rattle.page_model.specs.Fronts.{standing}
use Rattle.page_steps.specs.TagSteps.{is_among, names_with, of_element}
use Rattle.attribute_steps.specs.Among.{names_behind}
use Rattle.element_attributes.proofs.Names.{itself, has_name, among_with}

-- the declared names that pass
named_by : (List ℕ → Bool) → List Declared → List (List ℕ)
named_by f [] = []
named_by f (d ∷ ds) = if f d.name then d.name ∷ named_by f ds else named_by f ds

or_true : (x y : Bool) → y ≡ true → (x || y) ≡ true
or_true true y e = refl
or_true false y e = e

weaker : (d : Declared) (ds rules : List Declared) → list_all (λ (x : Declared). has_name ds x.name) rules ≡ true → list_all (λ (x : Declared). has_name (d ∷ ds) x.name) rules ≡ true
weaker d ds [] h = refl
weaker d ds (x ∷ xs) h =
    let p = and_parts (has_name ds x.name) (list_all (λ (x : Declared). has_name ds x.name) xs) h in
    and_from (has_name (d ∷ ds) x.name) (list_all (λ (x : Declared). has_name (d ∷ ds) x.name) xs) (or_true (bytes_eq x.name d.name) (has_name ds x.name) p.0) (weaker d ds xs p.1)

all_named : (rules : List Declared) → list_all (λ (x : Declared). has_name rules x.name) rules ≡ true
all_named [] = refl
all_named (d ∷ ds) =
    and_from (has_name (d ∷ ds) d.name) (list_all (λ (x : Declared). has_name (d ∷ ds) x.name) ds) (ap (λ (b : Bool). b || has_name ds d.name) (itself d.name)) (weaker d ds ds (all_named ds))

same_by : (all rules : List Declared) (f g : List ℕ → Bool) → ((m : List ℕ) → has_name all m ≡ true → f m ≡ g m) → list_all (λ (x : Declared). has_name all x.name) rules ≡ true → named_by f rules ≡ named_by g rules
unfolding named_by
same_by all [] f g e h = refl
same_by all (d ∷ ds) f g e h =
    let p = and_parts (has_name all d.name) (list_all (λ (x : Declared). has_name all x.name) ds) h in
    ap (λ (ws : List (List ℕ)). if f d.name then d.name ∷ ws else ws) (same_by all ds f g e p.1)
    ∙ ap (λ (b : Bool). if b then d.name ∷ named_by g ds else named_by g ds) (e d.name p.0)

stand_by : (rules : List Declared) (xs : List Attribute) → named_by (stands xs) rules ≡ standing rules xs
unfolding named_by
stand_by [] xs = refl
stand_by (d ∷ ds) xs = ap (λ (ws : List (List ℕ)). if stands xs d.name then d.name ∷ ws else ws) (stand_by ds xs)

with_by : (rules : List Declared) (names : List (List ℕ)) (name : List ℕ) → names_with rules names name ≡ named_by (λ m. is_among names m || bytes_eq name m) rules
unfolding named_by
with_by [] names name = refl
with_by (d ∷ ds) names name = ap (λ (ws : List (List ℕ)). if is_among names d.name || bytes_eq name d.name then d.name ∷ ws else ws) (with_by ds names name)

declared_so : (a f b : Bool) → (a && (a && f || b)) ≡ (a && (f || b))
declared_so true f b = refl
declared_so false f b = refl

with_true : (a f : Bool) → a ≡ true → (a && f) ≡ f
with_true true f e = refl
with_true false f e = cc

or_assoc : (a b c : Bool) → (a || b || c) ≡ (a || (b || c))
or_assoc true b c = refl
or_assoc false b c = refl

or_none : (b : Bool) → b ≡ (b || false)
or_none true = refl
or_none false = refl

behind_names : (entities : List (List ℕ)) (rules : List Declared) (xs : List Attribute) (x : Attribute) (names : List (List ℕ)) (f : List ℕ → Bool) → ((m : List ℕ) → is_among names m ≡ (has_name rules m && f m))
    → names_behind (of_element entities rules) names (x ∷ xs) ≡ named_by (λ m. f m || stands (x ∷ xs) m) rules
behind_names entities rules [] x names f e =
    with_by rules names x.name
    ∙ same_by rules rules (λ m. is_among names m || bytes_eq x.name m) (λ m. f m || (bytes_eq x.name m || false))
    (λ m h. ap (λ (b : Bool). b || bytes_eq x.name m) (e m ∙ with_true (has_name rules m) (f m) h) ∙ ap (λ (b : Bool). f m || b) (or_none (bytes_eq x.name m))) (all_named rules)
behind_names entities rules (y ∷ ys) x names f e =
    behind_names entities rules ys y (names_with rules names x.name) (λ m. f m || bytes_eq x.name m)
    (λ m. among_with rules names x.name m ∙ ap (λ (b : Bool). has_name rules m && (b || bytes_eq x.name m)) (e m) ∙ declared_so (has_name rules m) (f m) (bytes_eq x.name m))
    ∙ same_by rules rules (λ m. f m || bytes_eq x.name m || stands (y ∷ ys) m) (λ m. f m || (bytes_eq x.name m || stands (y ∷ ys) m)) (λ m h. or_assoc (f m) (bytes_eq x.name m) (stands (y ∷ ys) m)) (all_named rules)

and_none : (a : Bool) → false ≡ (a && false)
and_none true = refl
and_none false = refl

none_stand : (rules : List Declared) → [] ≡ standing rules []
none_stand [] = refl
none_stand (d ∷ ds) = none_stand ds

pub names_stand : (entities : List (List ℕ)) (rules : List Declared) (xs : List Attribute) → names_behind (of_element entities rules) [] xs ≡ standing rules xs
names_stand entities rules [] = none_stand rules
names_stand entities rules (x ∷ xs) = behind_names entities rules xs x [] (λ m. false) (λ m. and_none (has_name rules m)) ∙ stand_by rules (x ∷ xs)
