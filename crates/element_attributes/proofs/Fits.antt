-- The attributes of an element, read in turn.
use Rattle.std.proofs.Common.{◌≡◌, ℕ, Bool, true, false, not, ◌&&◌, ◌||◌, List, [], ◌∷◌, Option, Some, None, refl, sym, ◌∙◌, ap}
use Rattle.std.specs.Prelude.{if◌then◌else◌, bytes_eq}
use Rattle.std.specs.List.{list_all, list_any}
use Rattle.std.proofs.lemmas.Bool.{and_parts, and_from}
use Rattle.dtd_model.specs.Lawful.{is_lawful_kind}
use Rattle.dtd_model.specs.References.{is_reference, is_known}
use Rattle.dtd_model.specs.Table.{Declared}
use Rattle.page_model.specs.Attributes.{has_kind, has_fixed, is_declared, stands, is_once, must_stand, all_there}
use Rattle.page_model.specs.Parts.{Attribute, IsAttribute, AreAttributes, refers_by}
use Rattle.piece_steps.specs.Insides.{accepts}
use Rattle.page_model.specs.Fronts.{find_declared}
use Rattle.page_steps.specs.TagSteps.{is_among, is_declared_once, names_with, start_of, step_of, good_of, of_element, are_all}
use Rattle.page_steps.specs.ValueSteps.{may_stand}
use Rattle.reference_steps.specs.Laws.{may_have}
use Rattle.reference_steps.proofs.Values.{values_accepted}
use Rattle.attribute_steps.specs.Among.{May, AllMay, names_behind}
use Rattle.attribute_steps.proofs.Quotes.{to_quoted, from_quoted}
use Rattle.element_attributes.specs.Laws.{AttributesMay}
use Rattle.element_attributes.proofs.Names.{same, itself, turned, has_name, among_with, found_has}

-- The declaration of an attribute.

record Found (rules : List Declared) (x : Attribute) : Type 0 where
  rule : Declared
  found : find_declared rules x.name ≡ Some rule
  value : (has_kind rule.kind x.value && has_fixed rule.presence x.value) ≡ true
  lawful : is_lawful_kind rule.kind ≡ true

declared_found : (rules : List Declared) (x : Attribute) → list_all (λ (d : Declared). is_lawful_kind d.kind) rules ≡ true → is_declared rules x ≡ true → Found rules x
declared_found [] x h e = cc
declared_found (d ∷ ds) x h e = at (bytes_eq d.name x.name) refl e (and_parts (is_lawful_kind d.kind) (list_all (λ (d : Declared). is_lawful_kind d.kind) ds) h) (λ k q. declared_found ds x k q)
  where
    at : (b : Bool) → bytes_eq d.name x.name ≡ b → (if b then has_kind d.kind x.value && has_fixed d.presence x.value else is_declared ds x) ≡ true
        → (is_lawful_kind d.kind ≡ true) × (list_all (λ (d : Declared). is_lawful_kind d.kind) ds ≡ true) → (list_all (λ (d : Declared). is_lawful_kind d.kind) ds ≡ true → is_declared ds x ≡ true → Found ds x) → Found (d ∷ ds) x
    at true q e p ih = record { rule = d; found = ap (λ (b : Bool). if b then Some d else find_declared ds x.name) q; value = e; lawful = p.0 }
    at false q e p ih = let f = ih p.1 e in record { rule = f.rule; found = ap (λ (b : Bool). if b then Some d else find_declared ds x.name) q ∙ f.found; value = f.value; lawful = f.lawful }

found_declared : (rules : List Declared) (x : Attribute) (d : Declared) → list_all (λ (d : Declared). is_lawful_kind d.kind) rules ≡ true → find_declared rules x.name ≡ Some d
    → (is_lawful_kind d.kind ≡ true) × (is_declared rules x ≡ (has_kind d.kind x.value && has_fixed d.presence x.value))
found_declared [] x d h e = cc
found_declared (r ∷ rs) x d h e = at (bytes_eq r.name x.name) refl e (and_parts (is_lawful_kind r.kind) (list_all (λ (d : Declared). is_lawful_kind d.kind) rs) h) (λ k q. found_declared rs x d k q)
  where
    one : (a b : Declared) → (let z : Option Declared = Some a in z ≡ Some b) → a ≡ b
    one a b e = cc

    at : (b : Bool) → bytes_eq r.name x.name ≡ b → (if b then Some r else find_declared rs x.name) ≡ Some d → (is_lawful_kind r.kind ≡ true) × (list_all (λ (d : Declared). is_lawful_kind d.kind) rs ≡ true)
        → (list_all (λ (d : Declared). is_lawful_kind d.kind) rs ≡ true → find_declared rs x.name ≡ Some d → (is_lawful_kind d.kind ≡ true) × (is_declared rs x ≡ (has_kind d.kind x.value && has_fixed d.presence x.value)))
        → (is_lawful_kind d.kind ≡ true) × ((if b then has_kind r.kind x.value && has_fixed r.presence x.value else is_declared rs x) ≡ (has_kind d.kind x.value && has_fixed d.presence x.value))
    at true q e p ih = (ap (λ (d : Declared). is_lawful_kind d.kind) (sym (one r d e)) ∙ p.0, ap (λ (d : Declared). has_kind d.kind x.value && has_fixed d.presence x.value) (one r d e))
    at false q e p ih = ih p.1 e

-- One attribute.

value_by : List (List ℕ) → Option Declared → List ℕ → Bool
value_by entities o value = accepts (step_of entities o) (good_of entities o) (start_of o) value

value_is : (entities : List (List ℕ)) (o : Option Declared) (d : Declared) (value : List ℕ) → o ≡ Some d → is_lawful_kind d.kind ≡ true → value_by entities o value ≡ may_have entities d value
unfolding value_by
value_is entities o d value e h = ap (λ (o : Option Declared). accepts (step_of entities o) (good_of entities o) (start_of o) value) e ∙ values_accepted entities d value h

to_may : (entities : List (List ℕ)) (rules : List Declared) (names : List (List ℕ)) (x : Attribute) → list_all (λ (d : Declared). is_lawful_kind d.kind) rules ≡ true → IsAttribute x → refers_by (is_known entities) x.value ≡ true → is_declared rules x ≡ true
    → is_among names x.name ≡ false → May (of_element entities rules) names x
unfolding value_by
to_may entities rules names x lawful h known declared fresh =
    let f = declared_found rules x lawful declared in
    let q = to_quoted x.quote x.value h.characters in
    record {
      some_space = h.some_space;
      blank_space = h.blank_space;
      named = h.named;
      blank_before = h.blank_before;
      blank_after = h.blank_after;
      quoted = h.quoted;
      free = q.free;
      may = ap (is_declared_once names x.name) f.found ∙ ap not fresh;
      accepted = value_is entities (find_declared rules x.name) f.rule x.value f.found f.lawful
          ∙ and_from (list_all may_stand x.value) _ q.stand (and_from (refers_by is_reference x.value && refers_by (is_known entities) x.value) _ (and_from (refers_by is_reference x.value) (refers_by (is_known entities) x.value) h.references known) f.value);
    }

record Fitting (entities : List (List ℕ)) (rules : List Declared) (names : List (List ℕ)) (x : Attribute) : Type 0 where
  is : IsAttribute x
  known : refers_by (is_known entities) x.value ≡ true
  declared : is_declared rules x ≡ true
  fresh : is_among names x.name ≡ false
  has : has_name rules x.name ≡ true

from_may : (entities : List (List ℕ)) (rules : List Declared) (names : List (List ℕ)) (x : Attribute) → list_all (λ (d : Declared). is_lawful_kind d.kind) rules ≡ true → May (of_element entities rules) names x → Fitting entities rules names x
unfolding value_by
from_may entities rules names x lawful h = at (find_declared rules x.name) refl h.may
  where
    not_true : (b : Bool) → not b ≡ true → b ≡ false
    not_true true e = cc
    not_true false e = refl

    at : (o : Option Declared) → find_declared rules x.name ≡ o → is_declared_once names x.name o ≡ true → Fitting entities rules names x
    at None e m = cc
    at (Some d) e m =
        let f = found_declared rules x d lawful e in
        let p = and_parts (list_all may_stand x.value) _ (sym (value_is entities (find_declared rules x.name) d x.value e f.0) ∙ h.accepted) in
        let q = and_parts (refers_by is_reference x.value && refers_by (is_known entities) x.value) _ p.1 in
        let r = and_parts (refers_by is_reference x.value) (refers_by (is_known entities) x.value) q.0 in
        record {
          is = record {
            some_space = h.some_space;
            blank_space = h.blank_space;
            named = h.named;
            blank_before = h.blank_before;
            blank_after = h.blank_after;
            quoted = h.quoted;
            characters = from_quoted x.quote x.value p.0 h.free;
            references = r.0;
          };
          known = r.1;
          declared = f.1 ∙ q.1;
          fresh = not_true _ m;
          has = found_has rules x.name d e;
        }

-- All attributes.

abbrev fresh_all : List (List ℕ) → List Attribute → Bool
fresh_all names xs = list_all (λ (x : Attribute). not (is_among names x.name)) xs

none : (a b c : Bool) → b ≡ false → c ≡ false → (a && (b || c)) ≡ false
none true true c e f = cc
none true false c e f = f
none false b c e f = refl

not_false : (b : Bool) → not b ≡ true → b ≡ false
not_false true e = cc
not_false false e = refl

or_parts : (a b : Bool) → not (a || b) ≡ true → (a ≡ false) × (not b ≡ true)
or_parts true b e = cc
or_parts false b e = (refl, e)

-- a name that does not stand again leaves the later ones fresh
later_fresh : (rules : List Declared) (names : List (List ℕ)) (name : List ℕ) (xs : List Attribute) → fresh_all names xs ≡ true → not (stands xs name) ≡ true → fresh_all (names_with rules names name) xs ≡ true
later_fresh rules names name [] h s = refl
later_fresh rules names name (y ∷ ys) h s =
    let p = and_parts (not (is_among names y.name)) (fresh_all names ys) h in
    let q = or_parts (bytes_eq y.name name) (stands ys name) s in
    and_from _ _ (ap not (among_with rules names name y.name ∙ none (has_name rules y.name) _ _ (not_false _ p.0) (turned name y.name ∙ q.0))) (later_fresh rules names name ys p.1 q.1)

to_all : (entities : List (List ℕ)) (rules : List Declared) (xs : List Attribute) (names : List (List ℕ)) → list_all (λ (d : Declared). is_lawful_kind d.kind) rules ≡ true → AreAttributes xs → list_all (λ (x : Attribute). refers_by (is_known entities) x.value) xs ≡ true
    → list_all (is_declared rules) xs ≡ true → is_once xs ≡ true → fresh_all names xs ≡ true → AllMay (of_element entities rules) names xs
to_all entities rules [] names lawful are known declared once fresh = tt
to_all entities rules (x ∷ xs) names lawful are known declared once fresh =
    let k = and_parts (refers_by (is_known entities) x.value) _ known in
    let d = and_parts (is_declared rules x) (list_all (is_declared rules) xs) declared in
    let o = and_parts (not (stands xs x.name)) (is_once xs) once in
    let f = and_parts (not (is_among names x.name)) (fresh_all names xs) fresh in
    (to_may entities rules names x lawful are.0 k.0 d.0 (not_false _ f.0), to_all entities rules xs (names_with rules names x.name) lawful are.1 k.1 d.1 o.1 (later_fresh rules names x.name xs f.1 o.0))

-- a declared name that stands does not stand again
and_or : (a b c : Bool) → a ≡ true → b ≡ true → (a && (b || c)) ≡ true
and_or true true c e f = refl
and_or true false c e f = cc
and_or false b c e f = cc

and_last : (a b c : Bool) → a ≡ true → c ≡ true → (a && (b || c)) ≡ true
and_last true true true e f = refl
and_last true false true e f = refl
and_last true b false e f = cc
and_last false b c e f = cc

or_from : (a b : Bool) → a ≡ false → b ≡ false → (a || b) ≡ false
or_from true b e f = cc
or_from false b e f = f

stands_no_more : (entities : List (List ℕ)) (rules : List Declared) (xs : List Attribute) (names : List (List ℕ)) (m : List ℕ) → list_all (λ (d : Declared). is_lawful_kind d.kind) rules ≡ true → AllMay (of_element entities rules) names xs
    → has_name rules m ≡ true → is_among names m ≡ true → stands xs m ≡ false
stands_no_more entities rules [] names m lawful h has among = refl
stands_no_more entities rules (x ∷ xs) names m lawful h has among =
    let f = from_may entities rules names x lawful h.0 in
    or_from (bytes_eq x.name m) (stands xs m) (at (bytes_eq x.name m) refl f.fresh)
    (stands_no_more entities rules xs (names_with rules names x.name) m lawful h.1 has (among_with rules names x.name m ∙ and_or _ _ _ has among))
  where
    at : (b : Bool) → bytes_eq x.name m ≡ b → is_among names x.name ≡ false → b ≡ false
    at true e fresh = let z : true ≡ false = sym among ∙ ap (is_among names) (sym (same x.name m e)) ∙ fresh in z
    at false e fresh = refl

record FitAll (entities : List (List ℕ)) (rules : List Declared) (xs : List Attribute) : Type 0 where
  are : AreAttributes xs
  known : list_all (λ (x : Attribute). refers_by (is_known entities) x.value) xs ≡ true
  declared : list_all (is_declared rules) xs ≡ true
  once : is_once xs ≡ true

from_all : (entities : List (List ℕ)) (rules : List Declared) (xs : List Attribute) (names : List (List ℕ)) → list_all (λ (d : Declared). is_lawful_kind d.kind) rules ≡ true → AllMay (of_element entities rules) names xs → FitAll entities rules xs
from_all entities rules [] names lawful h = record { are = tt; known = refl; declared = refl; once = refl }
from_all entities rules (x ∷ xs) names lawful h =
    let f = from_may entities rules names x lawful h.0 in
    let m = from_all entities rules xs (names_with rules names x.name) lawful h.1 in
    let s = stands_no_more entities rules xs (names_with rules names x.name) x.name lawful h.1 f.has (among_with rules names x.name x.name ∙ and_last _ _ _ f.has (itself x.name)) in
    record {
      are = (f.is, m.are);
      known = and_from _ _ f.known m.known;
      declared = and_from (is_declared rules x) (list_all (is_declared rules) xs) f.declared m.declared;
      once = and_from (not (stands xs x.name)) (is_once xs) (ap not s) m.once;
    }

-- which names stand behind all
and_assoc : (a b c d : Bool) → (a && ((a && (b || c)) || d)) ≡ (a && (b || (c || d)))
and_assoc true true c d = refl
and_assoc true false c d = refl
and_assoc false b c d = refl

among_behind : (entities : List (List ℕ)) (rules : List Declared) (xs : List Attribute) (names : List (List ℕ)) (m : List ℕ) → has_name rules m ≡ true → is_among (names_behind (of_element entities rules) names xs) m ≡ (is_among names m || stands xs m)
among_behind entities rules [] names m has = sym (or_false (is_among names m))
  where
    or_false : (b : Bool) → (b || false) ≡ b
    or_false true = refl
    or_false false = refl
among_behind entities rules (x ∷ xs) names m has =
    among_behind entities rules xs (names_with rules names x.name) m has
    ∙ ap (λ (b : Bool). b || stands xs m) (among_with rules names x.name m)
    ∙ at (has_name rules m) has (is_among names m) (bytes_eq x.name m) (stands xs m)
  where
    at : (a : Bool) → a ≡ true → (b c d : Bool) → ((a && (b || c)) || d) ≡ (b || (c || d))
    at true e true c d = refl
    at true e false c d = refl
    at false e b c d = cc

-- a list of declarations is part of another
abbrev Within : List Declared → List Declared → Type 0
Within ds rules = (m : List ℕ) → has_name ds m ≡ true → has_name rules m ≡ true

all_same : (entities : List (List ℕ)) (tag_name : List ℕ) (rules : List Declared) (xs : List Attribute) (ds : List Declared) → Within ds rules → are_all tag_name ds (names_behind (of_element entities rules) [] xs) ≡ all_there tag_name ds xs
all_same entities tag_name rules xs [] w = refl
all_same entities tag_name rules xs (d ∷ ds) w =
    ap (λ (b : Bool). (if must_stand tag_name d then b else true) && are_all tag_name ds (names_behind (of_element entities rules) [] xs)) (among_behind entities rules xs [] d.name (w d.name (ap (λ (b : Bool). b || list_any (λ (e : Declared). bytes_eq d.name e.name) ds) (itself d.name))))
    ∙ ap (λ (b : Bool). (if must_stand tag_name d then stands xs d.name else true) && b) (all_same entities tag_name rules xs ds (λ m h. w m (ap (λ (b : Bool). bytes_eq m d.name || b) h ∙ or_true (bytes_eq m d.name))))
  where
    or_true : (x : Bool) → (x || true) ≡ true
    or_true true = refl
    or_true false = refl

fresh_none : (xs : List Attribute) → fresh_all [] xs ≡ true
fresh_none [] = refl
fresh_none (x ∷ xs) = fresh_none xs

pub attributes_may : AttributesMay
attributes_may entities tag_name rules xs lawful = (
  λ f.
      let a = and_parts _ (all_there tag_name rules xs) f.fit in
      let b = and_parts _ (is_once xs) a.0 in
      let c = and_parts (list_all (λ (x : Attribute). refers_by (is_known entities) x.value) xs) (list_all (is_declared rules) xs) b.0 in
      record { may = to_all entities rules xs [] lawful f.are c.0 c.1 b.1 (fresh_none xs); all = all_same entities tag_name rules xs rules (λ m h. h) ∙ a.1 },
  λ t.
      let f = from_all entities rules xs [] lawful t.may in
      record { are = f.are; fit = and_from _ _ (and_from _ _ (and_from _ _ f.known f.declared) f.once) (sym (all_same entities tag_name rules xs rules (λ m h. h)) ∙ t.all) },
)
