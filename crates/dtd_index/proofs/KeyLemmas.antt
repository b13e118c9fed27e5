-- Names and the keys that hold them.
use Rattle.std.proofs.Common.{◌≡◌, ℕ, suc, ◌+◌, ◌<◌, Bool, true, false, not, ◌||◌, cond, List, [], ◌∷◌, ◌++◌, length, map, drop, get_or, refl, sym, ap, ◌∙◌, Some, None, position}
use Rattle.std.specs.Prelude.{if◌then◌else◌, bytes_eq, nat_lt, nat_le}
use Rattle.std.specs.List.{list_all, list_any, position_or_len}
use Rattle.std.specs.declared.alloc.Global.{Global}
use Rattle.std.specs.declared.vec.Vec.{Vec}
use Rattle.std.proofs.Math.Seq.{drop-cons}
use Rattle.std.proofs.lemmas.Bool.{and_parts}
use Rattle.std.proofs.lemmas.List.{length-map}
use Rattle.std.proofs.lemmas.Slice.Eq.{bytes_eq-Decides}
use Rattle.dtd_model.specs.Lawful.{is_distinct, is_lawful, element_limit, are_names, is_lawful_rule}
use Rattle.xml_text.specs.Names.{is_name}
use Rattle.dtd_model.specs.Table.{Rule, rule_of}
use Rattle.dtd_model.specs.declared.dtd.ElementRule.{ElementRule}
use Rattle.dtd_index.specs.Keys.{characters_of, element_names, names_of_rules}

pub has_same : (name : List ℕ) (keys : List (Vec ℕ Global)) → list_any (λ (k : Vec ℕ Global). bytes_eq name k.items) keys ≡ list_any (bytes_eq name) (map characters_of keys)
has_same name [] = refl
has_same name (k ∷ keys) = ap (λ (b : Bool). bytes_eq name k.items || b) (has_same name keys)

first_same : (name : List ℕ) (keys : List (Vec ℕ Global)) → position_or_len (λ (k : Vec ℕ Global). bytes_eq name k.items) keys ≡ position_or_len (bytes_eq name) (map characters_of keys)
first_same name [] = refl
first_same name (k ∷ keys) = at (bytes_eq name k.items) (first_same name keys)
  where
    at : (b : Bool) → position_or_len (λ (x : Vec ℕ Global). bytes_eq name x.items) keys ≡ position_or_len (bytes_eq name) (map characters_of keys)
        → cond (not b) (1 + position_or_len (λ (x : Vec ℕ Global). bytes_eq name x.items) keys) 0 ≡ cond (not b) (1 + position_or_len (bytes_eq name) (map characters_of keys)) 0
    at true e = refl
    at false e = ap (λ (n : ℕ). 1 + n) e

pub place_same : (name : List ℕ) (keys : List (Vec ℕ Global)) → position (λ (k : Vec ℕ Global). bytes_eq name k.items) keys ≡ position (bytes_eq name) (map characters_of keys)
place_same name keys =
    ap (λ (n : ℕ). cond (nat_lt n (length keys)) (Some n) None) (first_same name keys)
    ∙ ap (λ (m : ℕ). cond (nat_lt (position_or_len (bytes_eq name) (map characters_of keys)) m) (Some (position_or_len (bytes_eq name) (map characters_of keys))) None) (sym (length-map keys characters_of))

map_behind : (keys : List (Vec ℕ Global)) (v : Vec ℕ Global) → map characters_of (keys ++ v ∷ []) ≡ map characters_of keys ++ v.items ∷ []
map_behind [] v = refl
map_behind (k ∷ keys) v = ap (λ (xs : List (List ℕ)). k.items ∷ xs) (map_behind keys v)

-- a key whose name is new goes behind the others
pub put_new : (name : List ℕ) (keys new : List (Vec ℕ Global)) (v : Vec ℕ Global) → new ≡ (if list_any (λ (k : Vec ℕ Global). bytes_eq v.items k.items) keys then keys else keys ++ v ∷ []) → v.items ≡ name
    → list_any (bytes_eq name) (map characters_of keys) ≡ false → map characters_of new ≡ map characters_of keys ++ name ∷ []
put_new name keys new v is named absent =
    let none : list_any (λ (k : Vec ℕ Global). bytes_eq v.items k.items) keys ≡ false = has_same v.items keys ∙ (ap (λ (x : List ℕ). list_any (bytes_eq x) (map characters_of keys)) named ∙ absent) in
    ap (map characters_of) (is ∙ ap (λ (b : Bool). if b then keys else keys ++ v ∷ []) none) ∙ (map_behind keys v ∙ ap (λ (x : List ℕ). map characters_of keys ++ x ∷ []) named)

-- of names that differ none stands before itself
other_way : (a b : List ℕ) → bytes_eq a b ≡ false → bytes_eq b a ≡ false
other_way a b h = at (bytes_eq b a) refl
  where
    at : (t : Bool) → bytes_eq b a ≡ t → t ≡ false
    at true e = let f : true ≡ false = sym ((bytes_eq-Decides a b).1 (sym ((bytes_eq-Decides b a).0 e))) ∙ h in f
    at false e = refl

none_before : (n x : List ℕ) (ns rest : List (List ℕ)) → not (list_any (bytes_eq n) (ns ++ x ∷ rest)) ≡ true → bytes_eq n x ≡ false
none_before n x [] rest h = at (bytes_eq n x) h
  where
    at : (b : Bool) → not (b || list_any (bytes_eq n) rest) ≡ true → b ≡ false
    at true e = sym e
    at false e = refl
none_before n x (m ∷ ns) rest h = at (bytes_eq n m) h (λ g. none_before n x ns rest g)
  where
    at : (b : Bool) → not (b || list_any (bytes_eq n) (ns ++ x ∷ rest)) ≡ true → (not (list_any (bytes_eq n) (ns ++ x ∷ rest)) ≡ true → bytes_eq n x ≡ false) → bytes_eq n x ≡ false
    at true e ih = cc
    at false e ih = ih e

pub apart : (front : List (List ℕ)) (x : List ℕ) (rest all : List (List ℕ)) → front ++ x ∷ rest ≡ all → is_distinct all ≡ true → list_any (bytes_eq x) front ≡ false
apart front x rest all is h = within front (ap is_distinct is ∙ h)
  where
    within : (ns : List (List ℕ)) → is_distinct (ns ++ x ∷ rest) ≡ true → list_any (bytes_eq x) ns ≡ false
    within [] g = refl
    within (n ∷ ns) g =
        let p = and_parts (not (list_any (bytes_eq n) (ns ++ x ∷ rest))) (is_distinct (ns ++ x ∷ rest)) g in
        ap (λ (b : Bool). b || list_any (bytes_eq x) ns) (other_way n x (none_before n x ns rest p.0)) ∙ within ns p.1

pub names_same : (rules : List ElementRule) → names_of_rules (map rule_of rules) ≡ element_names rules
names_same [] = refl
names_same (r ∷ rules) = ap (λ (ns : List (List ℕ)). r.name ∷ ns) (names_same rules)

-- what a definition keeps of its names
pub elements_differ : (rules : List Rule) (entities : List (List ℕ)) → is_lawful rules entities ≡ true → is_distinct (names_of_rules rules) ≡ true
unfolding is_lawful
elements_differ rules entities h =
    let a = and_parts _ (are_names entities) h in
    let b = and_parts _ (list_all (is_lawful_rule (length rules)) rules) a.0 in
    let c = and_parts (nat_le (length rules) element_limit) (are_names (names_of_rules rules)) b.0 in
    (and_parts (is_distinct (names_of_rules rules)) (list_all is_name (names_of_rules rules)) c.1).0

pub entities_differ : (rules : List Rule) (entities : List (List ℕ)) → is_lawful rules entities ≡ true → is_distinct entities ≡ true
unfolding is_lawful
entities_differ rules entities h =
    let a = and_parts _ (are_names entities) h in
    (and_parts (is_distinct entities) (list_all is_name entities) a.1).0

-- the next name is not among those that were put
pub next_rule_new : (items : List ElementRule) (i : ℕ) (r : ElementRule) (index : List (List ℕ)) → i < length items → r ≡ get_or items i r → index ++ element_names (drop i items) ≡ element_names items → is_distinct (names_of_rules (map rule_of items)) ≡ true
    → list_any (bytes_eq r.name) index ≡ false
next_rule_new items i r index lt is so_far differ =
    let cut : drop i items ≡ r ∷ drop (suc i) items = drop-cons items i r lt ∙ ap (λ (x : ElementRule). x ∷ drop (suc i) items) (sym is) in
    apart index r.name (element_names (drop (suc i) items)) (element_names items) (ap (λ (xs : List ElementRule). index ++ element_names xs) (sym cut) ∙ so_far)
    (ap is_distinct (sym (names_same items)) ∙ differ)

pub next_name_new : (items : List (List ℕ)) (i : ℕ) (name : List ℕ) (index : List (List ℕ)) → i < length items → name ≡ get_or items i name → index ++ drop i items ≡ items → is_distinct items ≡ true → list_any (bytes_eq name) index ≡ false
next_name_new items i name index lt is so_far differ =
    let cut : drop i items ≡ name ∷ drop (suc i) items = drop-cons items i name lt ∙ ap (λ (x : List ℕ). x ∷ drop (suc i) items) (sym is) in
    apart index name (drop (suc i) items) items (ap (λ (xs : List (List ℕ)). index ++ xs) (sym cut) ∙ so_far) differ
