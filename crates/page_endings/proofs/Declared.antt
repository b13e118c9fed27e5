-- What a lawful definition says of declarations that are found.
use Rattle.std.proofs.Common.{◌≡◌, ℕ, Bool, true, false, not, ◌&&◌, ◌||◌, List, [], ◌∷◌, ◌++◌, Some, refl, sym, ◌∙◌, ap, subst, length}
use Rattle.std.specs.Prelude.{if◌then◌else◌, bytes_eq, map, nat_eq, nat_le}
use Rattle.std.specs.List.{list_all, list_any}
use Rattle.std.proofs.lemmas.Bool.{and_parts, eqb-true}
use Rattle.std.proofs.lemmas.Slice.Eq.{bytes_eq-Decides}
use Rattle.xml_text.specs.Names.{is_name}
use Rattle.dtd_model.specs.Lawful.{is_distinct, are_names, is_lawful_kind, are_lawful_attributes, is_lawful_holding, is_lawful_rule, is_lawful, element_limit, attribute_limit}
use Rattle.dtd_model.specs.Table.{Declared, Rule, Table}
use Rattle.page_model.specs.Attributes.{find_rule}
use Rattle.page_model.specs.Fronts.{find_declared}
use Rattle.page_steps.specs.DoctypeSteps.{begins}

pub same : (a b : List ℕ) → bytes_eq a b ≡ true → a ≡ b
same a b e = (bytes_eq-Decides a b).0 e

pub itself : (a : List ℕ) → bytes_eq a a ≡ true
itself a = (bytes_eq-Decides a a).1 refl

-- what a name begins with, and the rest of it
pub begun : (front whole : List ℕ) → begins whole front ≡ true → (more : List ℕ) × (whole ≡ front ++ more)
begun [] whole e = (whole, refl)
begun (c ∷ cs) [] e = cc
begun (c ∷ cs) (w ∷ ws) e =
    let p = and_parts (nat_eq c w) (begins ws cs) e in
    let m = begun cs ws p.1 in
    (m.0, ap (λ (x : List ℕ). w ∷ x) m.1 ∙ ap (λ (x : ℕ). x ∷ (cs ++ m.0)) (sym (eqb-true c w p.0)))

not_false : (b : Bool) → not b ≡ true → b ≡ false
not_false true e = cc
not_false false e = refl

-- Attributes.

-- a declaration that is the one of its name
pub record Known (rules : List Declared) (d : Declared) : Type 0 where
  pub found : find_declared rules d.name ≡ Some d
  pub named : is_name d.name ≡ true
  pub kind : is_lawful_kind d.kind ≡ true

-- each of these declarations is such
abbrev pub AllKnown : List Declared → List Declared → Type 0
AllKnown rules [] = Unit {0}
AllKnown rules (d ∷ ds) = Known rules d × AllKnown rules ds

other_name : (d x : Declared) (rest : List Declared) → list_any (bytes_eq d.name) (x.name ∷ map (λ (y : Declared). y.name) rest) ≡ false
    → (bytes_eq d.name x.name ≡ false) × (list_any (bytes_eq d.name) (map (λ (y : Declared). y.name) rest) ≡ false)
other_name d x rest e = at (bytes_eq d.name x.name) e
  where
    at : (b : Bool) → (b || list_any (bytes_eq d.name) (map (λ (y : Declared). y.name) rest)) ≡ false
        → (b ≡ false) × (list_any (bytes_eq d.name) (map (λ (y : Declared). y.name) rest) ≡ false)
    at true e = cc
    at false e = (refl, e)

-- one declaration more in front, of another name
more_known : (d : Declared) (rules ds : List Declared) → list_any (bytes_eq d.name) (map (λ (y : Declared). y.name) ds) ≡ false → AllKnown rules ds → AllKnown (d ∷ rules) ds
more_known d rules [] e k = tt
more_known d rules (x ∷ xs) e k =
    let p = other_name d x xs e in (
      record {
        found = ap (λ (b : Bool). if b then Some d else find_declared rules x.name) p.0 ∙ k.0.found;
        named = k.0.named;
        kind = k.0.kind;
      },
      more_known d rules xs p.1 k.1,
    )

all_known : (rules : List Declared) → is_distinct (map (λ (d : Declared). d.name) rules) ≡ true → list_all is_name (map (λ (d : Declared). d.name) rules) ≡ true
    → list_all (λ (d : Declared). is_lawful_kind d.kind) rules ≡ true → AllKnown rules rules
all_known [] e n k = tt
all_known (d ∷ ds) e n k =
    let p = and_parts (not (list_any (bytes_eq d.name) (map (λ (y : Declared). y.name) ds))) (is_distinct (map (λ (y : Declared). y.name) ds)) e in
    let q = and_parts (is_name d.name) (list_all is_name (map (λ (y : Declared). y.name) ds)) n in
    let r = and_parts (is_lawful_kind d.kind) (list_all (λ (y : Declared). is_lawful_kind y.kind) ds) k in (
      record { found = ap (λ (b : Bool). if b then Some d else find_declared ds d.name) (itself d.name); named = q.0; kind = r.0 },
      more_known d ds ds (not_false (list_any (bytes_eq d.name) (map (λ (y : Declared). y.name) ds)) p.0) (all_known ds p.1 q.1 r.1),
    )

pub lawful_known : (rules : List Declared) → are_lawful_attributes rules ≡ true → AllKnown rules rules
lawful_known rules e =
    let p = and_parts (nat_le (length rules) attribute_limit && are_names (map (λ (d : Declared). d.name) rules)) (list_all (λ (d : Declared). is_lawful_kind d.kind) rules) e in
    let q = and_parts (nat_le (length rules) attribute_limit) (are_names (map (λ (d : Declared). d.name) rules)) p.0 in
    let r = and_parts (is_distinct (map (λ (d : Declared). d.name) rules)) (list_all is_name (map (λ (d : Declared). d.name) rules)) q.1 in
    all_known rules r.0 r.1 p.1

-- a declaration that is found under a name
pub record FoundKnown (rules : List Declared) (name : List ℕ) (d : Declared) : Type 0 where
  pub known : Known rules d
  pub is : d.name ≡ name

pub found_known : (rules ds : List Declared) (name : List ℕ) (d : Declared) → AllKnown rules ds → find_declared ds name ≡ Some d → FoundKnown rules name d
found_known rules [] name d k e = cc
found_known rules (x ∷ xs) name d k e = at (bytes_eq x.name name) refl e (found_known rules xs name d k.1)
  where
    at : (b : Bool) → bytes_eq x.name name ≡ b → (if b then Some x else find_declared xs name) ≡ Some d → (find_declared xs name ≡ Some d → FoundKnown rules name d) → FoundKnown rules name d
    at true q i ih = let z : x ≡ d = cc in subst (FoundKnown rules name) z (record { known = k.0; is = same x.name name q })
    at false q i ih = ih i

-- one of them that passes a test
pub record Picked (rules : List Declared) (test : Declared → Bool) : Type 0 where
  pub d : Declared
  pub known : Known rules d
  pub passes : test d ≡ true

pub picked : (rules ds : List Declared) (test : Declared → Bool) → AllKnown rules ds → list_any test ds ≡ true → Picked rules test
picked rules [] test k e = cc
picked rules (x ∷ xs) test k e = at (test x) refl e (picked rules xs test k.1)
  where
    at : (b : Bool) → test x ≡ b → (b || list_any test xs) ≡ true → (list_any test xs ≡ true → Picked rules test) → Picked rules test
    at true q i ih = record { d = x; known = k.0; passes = q }
    at false q i ih = ih i

-- Elements.

pub record KnownRule (rules : List Rule) (r : Rule) : Type 0 where
  pub found : find_rule rules r.name ≡ Some r
  pub named : is_name r.name ≡ true
  pub attributes : are_lawful_attributes r.attributes ≡ true

abbrev pub AllRules : List Rule → List Rule → Type 0
AllRules rules [] = Unit {0}
AllRules rules (r ∷ rs) = KnownRule rules r × AllRules rules rs

other_rule : (d x : Rule) (rest : List Rule) → list_any (bytes_eq d.name) (x.name ∷ map (λ (y : Rule). y.name) rest) ≡ false
    → (bytes_eq d.name x.name ≡ false) × (list_any (bytes_eq d.name) (map (λ (y : Rule). y.name) rest) ≡ false)
other_rule d x rest e = at (bytes_eq d.name x.name) e
  where
    at : (b : Bool) → (b || list_any (bytes_eq d.name) (map (λ (y : Rule). y.name) rest)) ≡ false
        → (b ≡ false) × (list_any (bytes_eq d.name) (map (λ (y : Rule). y.name) rest) ≡ false)
    at true e = cc
    at false e = (refl, e)

more_rules : (d : Rule) (rules ds : List Rule) → list_any (bytes_eq d.name) (map (λ (y : Rule). y.name) ds) ≡ false → AllRules rules ds → AllRules (d ∷ rules) ds
more_rules d rules [] e k = tt
more_rules d rules (x ∷ xs) e k =
    let p = other_rule d x xs e in (
      record {
        found = ap (λ (b : Bool). if b then Some d else find_rule rules x.name) p.0 ∙ k.0.found;
        named = k.0.named;
        attributes = k.0.attributes;
      },
      more_rules d rules xs p.1 k.1,
    )

all_rules : (count : ℕ) (rules : List Rule) → is_distinct (map (λ (d : Rule). d.name) rules) ≡ true → list_all is_name (map (λ (d : Rule). d.name) rules) ≡ true
    → list_all (is_lawful_rule count) rules ≡ true → AllRules rules rules
all_rules count [] e n k = tt
all_rules count (d ∷ ds) e n k =
    let p = and_parts (not (list_any (bytes_eq d.name) (map (λ (y : Rule). y.name) ds))) (is_distinct (map (λ (y : Rule). y.name) ds)) e in
    let q = and_parts (is_name d.name) (list_all is_name (map (λ (y : Rule). y.name) ds)) n in
    let r = and_parts (is_lawful_rule count d) (list_all (is_lawful_rule count) ds) k in (
      record {
        found = ap (λ (b : Bool). if b then Some d else find_rule ds d.name) (itself d.name);
        named = q.0;
        attributes = (and_parts (is_lawful_holding count d.holding) (are_lawful_attributes d.attributes) r.0).1;
      },
      more_rules d ds ds (not_false (list_any (bytes_eq d.name) (map (λ (y : Rule). y.name) ds)) p.0) (all_rules count ds p.1 q.1 r.1),
    )

-- what is lawful, in parts
pub record Lawful (table : Table) : Type 0 where
  pub rules : AllRules table.elements table.elements
  pub entities : list_all is_name table.entities ≡ true

pub lawful_parts : (table : Table) → is_lawful table.elements table.entities ≡ true → Lawful table
unfolding is_lawful
lawful_parts table e =
    let names = map (λ (r : Rule). r.name) table.elements in
    let p = and_parts (nat_le (length table.elements) element_limit && are_names names && list_all (is_lawful_rule (length table.elements)) table.elements) (are_names table.entities) e in
    let q = and_parts (nat_le (length table.elements) element_limit && are_names names) (list_all (is_lawful_rule (length table.elements)) table.elements) p.0 in
    let r = and_parts (nat_le (length table.elements) element_limit) (are_names names) q.0 in
    let s = and_parts (is_distinct names) (list_all is_name names) r.1 in
    record {
      rules = all_rules (length table.elements) table.elements s.0 s.1 q.1;
      entities = (and_parts (is_distinct table.entities) (list_all is_name table.entities) p.1).1;
    }

pub record FoundRule (rules : List Rule) (name : List ℕ) (r : Rule) : Type 0 where
  pub known : KnownRule rules r
  pub is : r.name ≡ name

pub found_rule : (rules ds : List Rule) (name : List ℕ) (r : Rule) → AllRules rules ds → find_rule ds name ≡ Some r → FoundRule rules name r
found_rule rules [] name r k e = cc
found_rule rules (x ∷ xs) name r k e = at (bytes_eq x.name name) refl e (found_rule rules xs name r k.1)
  where
    at : (b : Bool) → bytes_eq x.name name ≡ b → (if b then Some x else find_rule xs name) ≡ Some r → (find_rule xs name ≡ Some r → FoundRule rules name r) → FoundRule rules name r
    at true q i ih = let z : x ≡ r = cc in subst (FoundRule rules name) z (record { known = k.0; is = same x.name name q })
    at false q i ih = ih i

pub record PickedRule (rules : List Rule) (test : Rule → Bool) : Type 0 where
  pub rule : Rule
  pub known : KnownRule rules rule
  pub passes : test rule ≡ true

pub picked_rule : (rules ds : List Rule) (test : Rule → Bool) → AllRules rules ds → list_any test ds ≡ true → PickedRule rules test
picked_rule rules [] test k e = cc
picked_rule rules (x ∷ xs) test k e = at (test x) refl e (picked_rule rules xs test k.1)
  where
    at : (b : Bool) → test x ≡ b → (b || list_any test xs) ≡ true → (list_any test xs ≡ true → PickedRule rules test) → PickedRule rules test
    at true q i ih = record { rule = x; known = k.0; passes = q }
    at false q i ih = ih i
