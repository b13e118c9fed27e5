-- No attribute stands twice where no declared one does, and all are declared.
use Rattle.std.proofs.Common.{◌≡◌, ℕ, Bool, true, false, not, ◌&&◌, ◌||◌, List, [], ◌∷◌, refl, sym, ap, ◌∙◌}
use Rattle.std.specs.Prelude.{if◌then◌else◌, bytes_eq}
use Rattle.std.specs.List.{list_all}
use Rattle.std.proofs.lemmas.Bool.{and_parts, and_from}
use Rattle.std.proofs.lemmas.Slice.Eq.{bytes_eq-Decides}
use Rattle.dtd_model.specs.Table.{Declared}
use Rattle.page_model.specs.Attributes.{is_declared, stands, is_once, has_kind, has_fixed}
use Rattle.page_model.specs.Parts.{Attribute}
use Rattle.page_rules.specs.Tests.{at_most_one, once_by}

-- what does not stand stands once at most
none_once : (xs : List Attribute) (name : List ℕ) → stands xs name ≡ false → at_most_one xs name ≡ true
none_once [] name h = refl
none_once (a ∷ xs) name h = at (bytes_eq a.name name) h (λ g. none_once xs name g)
  where
    at : (b : Bool) → (b || stands xs name) ≡ false → (stands xs name ≡ false → at_most_one xs name ≡ true) → (if b then not (stands xs name) else at_most_one xs name) ≡ true
    at true e ih = cc
    at false e ih = ih e

not_stands : (b : Bool) → not b ≡ true → b ≡ false
not_stands true e = cc
not_stands false e = refl

once_for : (xs : List Attribute) (name : List ℕ) → is_once xs ≡ true → at_most_one xs name ≡ true
once_for [] name h = refl
once_for (a ∷ xs) name h =
    let p = and_parts (not (stands xs a.name)) (is_once xs) h in
    at (bytes_eq a.name name) refl p.0 (once_for xs name p.1)
  where
    at : (b : Bool) → bytes_eq a.name name ≡ b → not (stands xs a.name) ≡ true → at_most_one xs name ≡ true → (if b then not (stands xs name) else at_most_one xs name) ≡ true
    at true e n ih = ap (λ (x : List ℕ). not (stands xs x)) (sym ((bytes_eq-Decides a.name name).0 e)) ∙ n
    at false e n ih = ih

all_once_for : (xs : List Attribute) (rules : List Declared) → is_once xs ≡ true → once_by xs rules ≡ true
all_once_for xs [] h = refl
all_once_for xs (d ∷ rules) h = and_from (at_most_one xs d.name) (once_by xs rules) (once_for xs d.name h) (all_once_for xs rules h)

-- a declared attribute has the name of a rule, so the rule says that it does not stand behind
rule_says : (rules : List Declared) (a : Attribute) (xs : List Attribute) → is_declared rules a ≡ true → once_by (a ∷ xs) rules ≡ true → stands xs a.name ≡ false
rule_says [] a xs h o = cc
rule_says (d ∷ rules) a xs h o =
    let p = and_parts (at_most_one (a ∷ xs) d.name) (once_by (a ∷ xs) rules) o in
    at (bytes_eq d.name a.name) refl h p.0 (λ g. rule_says rules a xs g p.1)
  where
    at : (b : Bool) → bytes_eq d.name a.name ≡ b → (if b then has_kind d.kind a.value && has_fixed d.presence a.value else is_declared rules a) ≡ true → at_most_one (a ∷ xs) d.name ≡ true → (is_declared rules a ≡ true → stands xs a.name ≡ false) → stands xs a.name ≡ false
    at true e g m ih =
        let s : d.name ≡ a.name = (bytes_eq-Decides d.name a.name).0 e in
        let m2 : at_most_one (a ∷ xs) a.name ≡ true = ap (at_most_one (a ∷ xs)) (sym s) ∙ m in
        let same : bytes_eq a.name a.name ≡ true = (bytes_eq-Decides a.name a.name).1 refl in
        not_stands (stands xs a.name) (sym (ap (λ (b : Bool). if b then not (stands xs a.name) else at_most_one xs a.name) same) ∙ m2)
    at false e g m ih = ih g

fewer : (a : Attribute) (xs : List Attribute) (name : List ℕ) → at_most_one (a ∷ xs) name ≡ true → at_most_one xs name ≡ true
fewer a xs name h = at (bytes_eq a.name name) h
  where
    at : (b : Bool) → (if b then not (stands xs name) else at_most_one xs name) ≡ true → at_most_one xs name ≡ true
    at true e = none_once xs name (not_stands (stands xs name) e)
    at false e = e

all_fewer : (a : Attribute) (xs : List Attribute) (rules : List Declared) → once_by (a ∷ xs) rules ≡ true → once_by xs rules ≡ true
all_fewer a xs [] h = refl
all_fewer a xs (d ∷ rules) h =
    let p = and_parts (at_most_one (a ∷ xs) d.name) (once_by (a ∷ xs) rules) h in
    and_from (at_most_one xs d.name) (once_by xs rules) (fewer a xs d.name p.0) (all_fewer a xs rules p.1)

once_from : (rules : List Declared) (xs : List Attribute) → list_all (is_declared rules) xs ≡ true → once_by xs rules ≡ true → is_once xs ≡ true
once_from rules [] h o = refl
once_from rules (a ∷ xs) h o =
    let p = and_parts (is_declared rules a) (list_all (is_declared rules) xs) h in
    and_from (not (stands xs a.name)) (is_once xs) (ap not (rule_says rules a xs p.0 o)) (once_from rules xs p.1 (all_fewer a xs rules o))

equal_tests : (x y : Bool) → (x ≡ true → y ≡ true) → (y ≡ true → x ≡ true) → x ≡ y
equal_tests true true f g = refl
equal_tests true false f g = sym (f refl)
equal_tests false true f g = g refl
equal_tests false false f g = refl

pub once_by_rules : (rules : List Declared) (xs : List Attribute) → list_all (is_declared rules) xs ≡ true → once_by xs rules ≡ is_once xs
once_by_rules rules xs h = equal_tests (once_by xs rules) (is_once xs) (once_from rules xs h) (all_once_for xs rules)

-- the four tests in turn
pub four : (known declared once there by a b r : Bool) → a ≡ known → b ≡ declared → r ≡ (by && there) → (declared ≡ true → by ≡ once) → (a && b && r) ≡ (known && declared && once && there)
four true true once there by a b r k d s o = ap (λ (x : Bool). x && b && r) k ∙ ap (λ (x : Bool). x && r) d ∙ s ∙ ap (λ (x : Bool). x && there) (o refl)
four true false once there by a b r k d s o = ap (λ (x : Bool). x && b && r) k ∙ ap (λ (x : Bool). x && r) d
four false declared once there by a b r k d s o = ap (λ (x : Bool). x && b && r) k
