-- Declared elements by their place.
use Rattle.std.proofs.Common.{◌≡◌, ℕ, zero, suc, ◌+◌, ◌≤◌, ◌<◌, Bool, true, false, not, cond, List, [], ◌∷◌, length, refl, sym, ap, ◌∙◌, Some, None, arith, slice_get, map, position}
use Rattle.std.specs.Prelude.{if◌then◌else◌, bytes_eq, nat_le, nat_lt}
use Rattle.std.specs.List.{list_all, position_or_len}
use Rattle.std.proofs.lemmas.Bool.{and_parts, leb-true, ltb-true, ltb-false}
use Rattle.std.proofs.lemmas.List.{length-map}
use Rattle.std.proofs.lemmas.Slice.Eq.{bytes_eq-Decides}
use Rattle.dtd_model.specs.Lawful.{is_lawful, element_limit, are_names, is_lawful_rule}
use Rattle.dtd_model.specs.Table.{Rule, rule_of}
use Rattle.dtd_model.specs.declared.dtd.ElementRule.{ElementRule}
use Rattle.dtd_index.specs.Keys.{names_of_rules}
use Rattle.page_model.specs.Attributes.{find_rule}
use Rattle.page_model.specs.Valid.{place_of}

pub few : (rules : List Rule) (entities : List (List ℕ)) → is_lawful rules entities ≡ true → length rules ≤ 1024
unfolding is_lawful
few rules entities h =
    let a = and_parts _ (are_names entities) h in
    let b = and_parts _ (list_all (is_lawful_rule (length rules)) rules) a.0 in
    let c = and_parts (nat_le (length rules) element_limit) (are_names (map (λ (r : Rule). r.name) rules)) b.0 in
    leb-true (length rules) 1024 c.0

turned : (a b : List ℕ) → bytes_eq a b ≡ bytes_eq b a
turned a b = at (bytes_eq a b) refl (bytes_eq b a) refl
  where
    at : (s : Bool) → bytes_eq a b ≡ s → (t : Bool) → bytes_eq b a ≡ t → s ≡ t
    at true e true f = refl
    at false e false f = refl
    at true e false f = sym ((bytes_eq-Decides b a).1 (sym ((bytes_eq-Decides a b).0 e))) ∙ f
    at false e true f = sym e ∙ (bytes_eq-Decides a b).1 (sym ((bytes_eq-Decides b a).0 f))

-- the first place at which the name stands is that of its declaration
first_is_place : (rules : List Rule) (name : List ℕ) → position_or_len (bytes_eq name) (names_of_rules rules) ≡ place_of rules name
first_is_place [] name = refl
first_is_place (r ∷ rules) name = at (bytes_eq name r.name) (bytes_eq r.name name) (turned name r.name) (first_is_place rules name)
  where
    at : (s t : Bool) → s ≡ t → position_or_len (bytes_eq name) (names_of_rules rules) ≡ place_of rules name → cond (not s) (1 + position_or_len (bytes_eq name) (names_of_rules rules)) 0 ≡ (if t then 0 else suc (place_of rules name))
    at true true e h = refl
    at false false e h = omega (arith, h)
    at true false e h = cc
    at false true e h = cc

pub position_is : (rules : List Rule) (name : List ℕ) → position (bytes_eq name) (names_of_rules rules) ≡ cond (nat_lt (place_of rules name) (length rules)) (Some (place_of rules name)) None
position_is rules name =
    ap (λ (n : ℕ). cond (nat_lt n (length (names_of_rules rules))) (Some n) None) (first_is_place rules name)
    ∙ ap (λ (m : ℕ). cond (nat_lt (place_of rules name) m) (Some (place_of rules name)) None) (length-map rules (λ (r : Rule). r.name))

found_at_place : (rules : List Rule) (name : List ℕ) → find_rule rules name ≡ slice_get rules (place_of rules name)
found_at_place [] name = refl
found_at_place (r ∷ rules) name = at (bytes_eq r.name name) (found_at_place rules name)
  where
    at : (b : Bool) → find_rule rules name ≡ slice_get rules (place_of rules name) → (if b then Some r else find_rule rules name) ≡ slice_get (r ∷ rules) (if b then 0 else suc (place_of rules name))
    at true h = refl
    at false h = h

past_all : (rules : List Rule) (n : ℕ) → length rules ≤ n → slice_get rules n ≡ None
past_all [] n h = refl
past_all (r ∷ rules) zero h = absurd (omega arith)
past_all (r ∷ rules) (suc n) h = past_all rules n (omega arith)

-- the place that is found, or that there is none
pub element_found : (rules : List Rule) (name : List ℕ) (i : ℕ) → Some i ≡ position (bytes_eq name) (names_of_rules rules) → (i ≡ place_of rules name) × (i < length rules) × (find_rule rules name ≡ slice_get rules i)
element_found rules name i e = at (nat_lt (place_of rules name) (length rules)) refl (e ∙ position_is rules name)
  where
    at : (b : Bool) → nat_lt (place_of rules name) (length rules) ≡ b → Some i ≡ cond b (Some (place_of rules name)) None → (i ≡ place_of rules name) × (i < length rules) × (find_rule rules name ≡ slice_get rules i)
    at true h f =
        let is : i ≡ place_of rules name = cc in
        let lt : place_of rules name < length rules = ltb-true (place_of rules name) (length rules) h in
        (is, omega (arith, is, lt), found_at_place rules name ∙ ap (slice_get rules) (sym is))
    at false h f = cc

pub element_absent : (rules : List Rule) (name : List ℕ) → None ≡ position (bytes_eq name) (names_of_rules rules) → find_rule rules name ≡ None
element_absent rules name e = at (nat_lt (place_of rules name) (length rules)) refl (e ∙ position_is rules name)
  where
    at : (b : Bool) → nat_lt (place_of rules name) (length rules) ≡ b → None ≡ cond b (Some (place_of rules name)) None → find_rule rules name ≡ None
    at true h f = cc
    at false h f = found_at_place rules name ∙ past_all rules (place_of rules name) (ltb-false (place_of rules name) (length rules) h)

pub fits : (items : List ElementRule) (entities : List (List ℕ)) (i : ℕ) → is_lawful (map rule_of items) entities ≡ true → i < length (map rule_of items) → i < 1024
fits items entities i h lt =
    let l = few (map rule_of items) entities h in
    omega arith
