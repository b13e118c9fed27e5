-- Attributes in any order, each declaration at most once.
use Rattle.std.proofs.Common.{◌≡◌, ◌⊎◌, inl, inr, ℕ, Bool, true, false, List, [], ◌∷◌, ◌++◌, refl, sym, ◌∙◌, ap, subst, append_assoc}
use Rattle.std.specs.Prelude.{not, ◌&&◌, ◌||◌, bytes_eq, if◌then◌else◌, map, Option, Some, None}
use Rattle.std.specs.List.{list_all, list_any}
use Rattle.std.specs.Str.{encode_utf8_all}
use Rattle.std.proofs.lemmas.Bool.{and_parts, and_from, or_cases, or_left, or_right, or_parts, or_from, not-true, not_from_false}
use Rattle.std.proofs.lemmas.Str.{encodes-append}
use Rattle.xml_text.specs.Names.{is_name}
use Rattle.dtd_model.specs.Lawful.{is_distinct, is_lawful_kind}
use Rattle.dtd_model.specs.References.{is_known}
use Rattle.dtd_model.specs.Table.{Declared}
use Rattle.derivatives.specs.Expressions.{Expr, nothing, among, Members, none, member, Matches, Joins, Takes, here, later, Optional, no_more, optional, is_done, is_taken}
use Rattle.derivatives.specs.Derivatives.{among_of}
use Rattle.derivatives.proofs.NormalForms.{among_shown, among_made, ap2}
use Rattle.page_model.specs.Attributes.{has_kind, has_fixed, is_declared, stands, is_once, must_stand, all_there}
use Rattle.page_model.specs.Parts.{Attribute, attribute_then, attributes_then, AreAttributes, refers_by}
use Rattle.page_model.proofs.Names.{same_bytes, equal_bytes}
use Rattle.page_forms.specs.Tags.{attribute_form, attribute_members, with_member, any_order}
use Rattle.page_forms.proofs.AttributeForms.{IsAttributeBy, spells_attribute}
use Rattle.page_forms.proofs.Spelling.{Spells, Spelled, joins_is, joins_all, spells_as}

no : false ≡ true → ⊥
no e = cc

-- the declaration is one of these, and those are the others
data TakesOne : List Declared → Declared → List Declared → Type 0 where
  first : {d : Declared} {ds : List Declared} → TakesOne (d ∷ ds) d ds
  further : {d x : Declared} {ds others : List Declared} → TakesOne ds d others → TakesOne (x ∷ ds) d (x ∷ others)

-- the declarations are lawful ones, each by itself
abbrev pub AreLawfulEach : List Declared → Type 0
AreLawfulEach [] = Unit {0}
AreLawfulEach (d ∷ ds) = (is_name d.name ≡ true) × (is_lawful_kind d.kind ≡ true) × AreLawfulEach ds

-- none has to stand
abbrev NoneMust : List ℕ → List Declared → Type 0
NoneMust tag ds = list_all (λ (d : Declared). not (must_stand tag d)) ds ≡ true

-- attributes by some of the declarations, each at most once, until none of the others has to stand
data Picked (entities : List (List ℕ)) (tag : List ℕ) : List Declared → List ℕ → Type 0 where
  over : {ds : List Declared} → NoneMust tag ds → Picked entities tag ds []
  picked : {ds others : List Declared} {d : Declared} {u v : List ℕ} → TakesOne ds d others → IsAttributeBy entities d u → Picked entities tag others v → Picked entities tag ds (u ++ v)

-- the expression is not `nothing`
abbrev pub is_something : Expr → Bool
is_something nothing = false
is_something e = true

-- these members stand for these declarations; those are left out whose form is `nothing`
pub data AreMembers (entities : List (List ℕ)) (tag : List ℕ) : List Declared → Members → Type 0 where
  no_members : AreMembers entities tag [] none
  left_out : {d : Declared} {ds : List Declared} {ms : Members} → attribute_form entities d ≡ nothing → must_stand tag d ≡ false → AreMembers entities tag ds ms → AreMembers entities tag (d ∷ ds) ms
  one_more : {d : Declared} {ds : List Declared} {e : Expr} {b : Bool} {ms : Members} → e ≡ attribute_form entities d → b ≡ must_stand tag d → is_something e ≡ true → AreMembers entities tag ds ms
      → AreMembers entities tag (d ∷ ds) (member e b ms)

-- one that has to stand has `nothing` as its form
pub data Hopeless (entities : List (List ℕ)) (tag : List ℕ) : List Declared → Type 0 where
  hopeless : {d : Declared} {ds : List Declared} → attribute_form entities d ≡ nothing → must_stand tag d ≡ true → Hopeless entities tag (d ∷ ds)
  hopeless_later : {d : Declared} {ds : List Declared} → Hopeless entities tag ds → Hopeless entities tag (d ∷ ds)

abbrev pub StandFor : List (List ℕ) → List ℕ → List Declared → Option Members → Type 0
StandFor entities tag ds None = Hopeless entities tag ds
StandFor entities tag ds (Some ms) = AreMembers entities tag ds ms

with_one : (entities : List (List ℕ)) (tag : List ℕ) (d : Declared) (ds : List Declared) (e : Expr) → attribute_form entities d ≡ e → (b : Bool) → must_stand tag d ≡ b → (o : Option Members) → StandFor entities tag ds o
    → StandFor entities tag (d ∷ ds) (with_member e b o)
with_one entities tag d ds nothing p true q o s = hopeless p q
with_one entities tag d ds nothing p false q None s = hopeless_later s
with_one entities tag d ds nothing p false q (Some ms) s = left_out p q s
with_one entities tag d ds e p b q None s = hopeless_later s
with_one entities tag d ds e p b q (Some ms) s = one_more (sym p) (sym q) refl s

pub are_members : (entities : List (List ℕ)) (tag : List ℕ) (ds : List Declared) → StandFor entities tag ds (attribute_members entities tag ds)
are_members entities tag [] = no_members
are_members entities tag (d ∷ ds) = with_one entities tag d ds (attribute_form entities d) refl (must_stand tag d) refl (attribute_members entities tag ds) (are_members entities tag ds)

optional_none : {entities : List (List ℕ)} {tag : List ℕ} {ds : List Declared} {ms : Members} → Optional ms → AreMembers entities tag ds ms → NoneMust tag ds
optional_none o no_members = refl
optional_none {tag = tag} o (left_out {d = d} {ds = ds} p q m) = and_from (not (must_stand tag d)) (list_all (λ (d : Declared). not (must_stand tag d)) ds) (ap not q) (optional_none o m)
optional_none {tag = tag} (optional o) (one_more {d = d} {ds = ds} e b i m) =
    and_from (not (must_stand tag d)) (list_all (λ (d : Declared). not (must_stand tag d)) ds) (ap not (sym b)) (optional_none o m)

none_optional : {entities : List (List ℕ)} {tag : List ℕ} {ds : List Declared} {ms : Members} → NoneMust tag ds → AreMembers entities tag ds ms → Optional ms
none_optional h no_members = no_more
none_optional {tag = tag} h (left_out {d = d} {ds = ds} p q m) = none_optional (and_parts (not (must_stand tag d)) (list_all (λ (d : Declared). not (must_stand tag d)) ds) h).1 m
none_optional {tag = tag} h (one_more {d = d} {ds = ds} {e = x} {b = c} {ms = ms} e b i m) =
    let p = and_parts (not (must_stand tag d)) (list_all (λ (d : Declared). not (must_stand tag d)) ds) h in
    let f : c ≡ false = b ∙ not-true (must_stand tag d) p.0 in
    subst (λ (z : Bool). Optional (member x z ms)) (sym f) (optional (none_optional p.1 m))

record Taken (entities : List (List ℕ)) (tag : List ℕ) (ds : List Declared) (e : Expr) (rest : Members) : Type 0 where
  declaration : Declared
  others : List Declared
  takes : TakesOne ds declaration others
  is : e ≡ attribute_form entities declaration
  are : AreMembers entities tag others rest

take_member : {entities : List (List ℕ)} {tag : List ℕ} {ds : List Declared} {ms rest : Members} {e : Expr} {q : Bool} → Takes ms e q rest → AreMembers entities tag ds ms → Taken entities tag ds e rest
take_member t no_members = elim t [ ]
take_member t (left_out {d = d} p q m) =
    let k = take_member t m in record { declaration = k.declaration; others = d ∷ k.others; takes = further k.takes; is = k.is; are = left_out p q k.are }
take_member here (one_more {d = d} {ds = ds} e b i m) = record { declaration = d; others = ds; takes = first; is = e; are = m }
take_member (later t) (one_more {d = d} e b i m) =
    let k = take_member t m in record { declaration = k.declaration; others = d ∷ k.others; takes = further k.takes; is = k.is; are = one_more e b i k.are }

record Given (entities : List (List ℕ)) (tag : List ℕ) (ms : Members) (d : Declared) (others : List Declared) : Type 0 where
  form : Expr
  must : Bool
  rest : Members
  takes : Takes ms form must rest
  is : form ≡ attribute_form entities d
  are : AreMembers entities tag others rest

give_member : {entities : List (List ℕ)} {tag : List ℕ} {ds others : List Declared} {d : Declared} {ms : Members} → (attribute_form entities d ≡ nothing → ⊥) → TakesOne ds d others → AreMembers entities tag ds ms → Given entities tag ms d others
give_member n first (left_out p q m) = absurd (n p)
give_member n (further t) (left_out p q m) =
    let k = give_member n t m in record { form = k.form; must = k.must; rest = k.rest; takes = k.takes; is = k.is; are = left_out p q k.are }
give_member n first (one_more {e = x} {b = c} {ms = ms} e b i m) = record { form = x; must = c; rest = ms; takes = here; is = e; are = m }
give_member n (further t) (one_more {e = x} {b = c} e b i m) =
    let k = give_member n t m in record { form = k.form; must = k.must; rest = member x c k.rest; takes = later k.takes; is = k.is; are = one_more e b i k.are }

lawful_one : {ds others : List Declared} {d : Declared} → TakesOne ds d others → AreLawfulEach ds → (is_name d.name ≡ true) × (is_lawful_kind d.kind ≡ true) × AreLawfulEach others
lawful_one first l = l
lawful_one (further t) l = let k = lawful_one t l.2 in (k.0, k.1, (l.0, l.1, k.2))

picked_shown : {entities : List (List ℕ)} {tag : List ℕ} {ms : Members} {w : List ℕ} → Matches (among ms) w → (ds : List Declared) → AreLawfulEach ds → AreMembers entities tag ds ms → Spelled (Picked entities tag ds) w
picked_shown (is_done o) ds l m = record { characters = []; are = over (optional_none o m); is = refl }
picked_shown {entities} {tag} (is_taken {e = e} {rest = rest} {u = u} {v = v} {w = w} t j d f) ds l m = at (take_member t m) (λ xs k n. picked_shown f xs k n)
  where
    put : {x : Declared} {others : List Declared} → TakesOne ds x others → Spelled (IsAttributeBy entities x) u → Spelled (Picked entities tag others) v → Spelled (Picked entities tag ds) w
    put t p q = record {
      characters = p.characters ++ q.characters;
      are = picked t p.are q.are;
      is = encodes-append p.characters q.characters ∙ ap2 (λ (x y : List ℕ). x ++ y) p.is q.is ∙ joins_is j;
    }

    at : Taken entities tag ds e rest → ((xs : List Declared) → AreLawfulEach xs → AreMembers entities tag xs rest → Spelled (Picked entities tag xs) v) → Spelled (Picked entities tag ds) w
    at k r =
        let o = lawful_one k.takes l in
        put k.takes ((spells_attribute entities k.declaration o.0 o.1).shown u (subst (λ (z : Expr). Matches z u) k.is d)) (r k.others o.2 k.are)

-- the form of an attribute that stands is not `nothing`
some_form : (entities : List (List ℕ)) (d : Declared) → is_name d.name ≡ true → is_lawful_kind d.kind ≡ true → (u : List ℕ) → IsAttributeBy entities d u → attribute_form entities d ≡ nothing → ⊥
some_form entities d h l u a e = none (subst (λ (z : Expr). Matches z (encode_utf8_all u)) e ((spells_attribute entities d h l).made u a))
  where
    none : {w : List ℕ} → Matches nothing w → ⊥
    none d = elim d [ ]

picked_made : {entities : List (List ℕ)} {tag : List ℕ} {ds : List Declared} {cs : List ℕ} → Picked entities tag ds cs → (ms : Members) → AreLawfulEach ds → AreMembers entities tag ds ms → Matches (among ms) (encode_utf8_all cs)
picked_made (over h) ms l m = is_done (none_optional h m)
picked_made {entities} {tag} (picked {others = others} {d = d} {u = u} {v = v} t a p) ms l m =
    let o = lawful_one t l in
    let k = give_member (some_form entities d o.0 o.1 u a) t m in
    subst (λ (z : List ℕ). Matches (among ms) z) (sym (encodes-append u v))
    (is_taken k.takes (joins_all (encode_utf8_all u) (encode_utf8_all v)) (subst (λ (z : Expr). Matches z (encode_utf8_all u)) (sym k.is) ((spells_attribute entities d o.0 o.1).made u a)) (picked_made p k.rest o.2 k.are))

-- where one that has to stand can not, no attributes are as asked
must_not : (b : Bool) → b ≡ true → not b ≡ true → ⊥
must_not true e h = cc
must_not false e h = cc

hopeless_must : {entities : List (List ℕ)} {tag : List ℕ} {ds : List Declared} → Hopeless entities tag ds → NoneMust tag ds → ⊥
hopeless_must {tag = tag} (hopeless {d = d} {ds = ds} p q) h = must_not (must_stand tag d) q (and_parts (not (must_stand tag d)) (list_all (λ (d : Declared). not (must_stand tag d)) ds) h).0
hopeless_must {tag = tag} (hopeless_later {d = d} {ds = ds} k) h = hopeless_must k (and_parts (not (must_stand tag d)) (list_all (λ (d : Declared). not (must_stand tag d)) ds) h).1

hopeless_others : {entities : List (List ℕ)} {tag : List ℕ} {ds others : List Declared} {d : Declared} → (attribute_form entities d ≡ nothing → ⊥) → TakesOne ds d others → Hopeless entities tag ds → Hopeless entities tag others
hopeless_others n first (hopeless p q) = absurd (n p)
hopeless_others n first (hopeless_later k) = k
hopeless_others n (further t) (hopeless p q) = hopeless p q
hopeless_others n (further t) (hopeless_later k) = hopeless_later (hopeless_others n t k)

hopeless_none : {entities : List (List ℕ)} {tag : List ℕ} {ds : List Declared} {cs : List ℕ} → Picked entities tag ds cs → AreLawfulEach ds → Hopeless entities tag ds → ⊥
hopeless_none (over h) l k = hopeless_must k h
hopeless_none {entities} (picked {d = d} {u = u} t a p) l k = let o = lawful_one t l in hopeless_none p o.2 (hopeless_others (some_form entities d o.0 o.1 u a) t k)

spells_by : (entities : List (List ℕ)) (tag : List ℕ) (ds : List Declared) → AreLawfulEach ds → (o : Option Members) → StandFor entities tag ds o → Spells (any_order o) (Picked entities tag ds)
spells_by entities tag ds l None k = record { shown = λ w d. shown_at d; made = λ cs p. absurd (hopeless_none p l k) }
  where
    shown_at : {w : List ℕ} → Matches nothing w → Spelled (Picked entities tag ds) w
    shown_at d = elim d [ ]
spells_by entities tag ds l (Some ms) m = record {
  shown = λ w d. picked_shown (among_shown ms d) ds l m;
  made = λ cs p. among_made ms (picked_made p ms l m);
}

spells_picked : (entities : List (List ℕ)) (tag : List ℕ) (ds : List Declared) → AreLawfulEach ds → Spells (any_order (attribute_members entities tag ds)) (Picked entities tag ds)
spells_picked entities tag ds l = spells_by entities tag ds l (attribute_members entities tag ds) (are_members entities tag ds)

both : (x : Bool) → x ≡ true → x ≡ false → ⊥
both x t f = cc

turned : (a b : List ℕ) → bytes_eq b a ≡ false → bytes_eq a b ≡ false
turned a b h = at (bytes_eq a b) refl
  where
    at : (x : Bool) → bytes_eq a b ≡ x → bytes_eq a b ≡ false
    at true e = absurd (both (bytes_eq b a) (equal_bytes b a (sym (same_bytes a b e))) h)
    at false e = e

-- Names that stand among declarations.

abbrev Absent : List ℕ → List Declared → Type 0
Absent name [] = Unit {0}
Absent name (d ∷ ds) = (bytes_eq d.name name ≡ false) × Absent name ds

abbrev pub Distinct : List Declared → Type 0
Distinct [] = Unit {0}
Distinct (d ∷ ds) = Absent d.name ds × Distinct ds

others_absent : {ds others : List Declared} {d : Declared} → TakesOne ds d others → Distinct ds → Absent d.name others
others_absent first k = k.0
others_absent (further {d = d} {x = x} t) k = (turned x.name d.name (own_absent t k.0), others_absent t k.1)
  where
    own_absent : {ds others : List Declared} → TakesOne ds d others → Absent x.name ds → bytes_eq d.name x.name ≡ false
    own_absent first k = k.0
    own_absent (further t) k = own_absent t k.1

absent_others : {ds others : List Declared} {d : Declared} (name : List ℕ) → TakesOne ds d others → Absent name ds → Absent name others
absent_others name first k = k.1
absent_others name (further t) k = (k.0, absent_others name t k.1)

others_distinct : {ds others : List Declared} {d : Declared} → TakesOne ds d others → Distinct ds → Distinct others
others_distinct first k = k.1
others_distinct (further {x = x} t) k = (absent_others x.name t k.0, others_distinct t k.1)

-- what is declared has no name that is absent
declared_other : (name : List ℕ) (ds : List Declared) (a : Attribute) → Absent name ds → is_declared ds a ≡ true → bytes_eq a.name name ≡ false
declared_other name [] a k h = absurd (no h)
declared_other name (d ∷ ds) a k h = at (bytes_eq d.name a.name) refl h (λ g. declared_other name ds a k.1 g)
  where
    at : (x : Bool) → bytes_eq d.name a.name ≡ x → (if x then has_kind d.kind a.value && has_fixed d.presence a.value else is_declared ds a) ≡ true → (is_declared ds a ≡ true → bytes_eq a.name name ≡ false) → bytes_eq a.name name ≡ false
    at true e h f = ap (λ (z : List ℕ). bytes_eq z name) (sym (same_bytes d.name a.name e)) ∙ k.0
    at false e h f = f h

-- From picked attributes to those of a tag.

declared_one : {ds others : List Declared} {d : Declared} → TakesOne ds d others → Distinct ds → (a : Attribute) → d.name ≡ a.name → (has_kind d.kind a.value && has_fixed d.presence a.value) ≡ true → is_declared ds a ≡ true
declared_one (first {d = d} {ds = ds}) k a n h = ap (λ (x : Bool). if x then has_kind d.kind a.value && has_fixed d.presence a.value else is_declared ds a) (equal_bytes d.name a.name n) ∙ h
declared_one (further {d = d} {x = x} {ds = ds} t) k a n h =
    ap (λ (b : Bool). if b then has_kind x.kind a.value && has_fixed x.presence a.value else is_declared ds a) (other t k.0) ∙ declared_one t k.1 a n h
  where
    other : {ds others : List Declared} → TakesOne ds d others → Absent x.name ds → bytes_eq x.name a.name ≡ false
    other t k = at (bytes_eq x.name a.name) refl
      where
        own : {ds others : List Declared} → TakesOne ds d others → Absent x.name ds → bytes_eq d.name x.name ≡ false
        own first k = k.0
        own (further t) k = own t k.1

        at : (b : Bool) → bytes_eq x.name a.name ≡ b → bytes_eq x.name a.name ≡ false
        at true e = absurd (both (bytes_eq d.name x.name) (equal_bytes d.name x.name (n ∙ sym (same_bytes x.name a.name e))) (own t k))
        at false e = e

declared_wider : {ds others : List Declared} {d : Declared} → TakesOne ds d others → (a : Attribute) → bytes_eq d.name a.name ≡ false → is_declared others a ≡ true → is_declared ds a ≡ true
declared_wider (first {d = d} {ds = ds}) a n h = ap (λ (x : Bool). if x then has_kind d.kind a.value && has_fixed d.presence a.value else is_declared ds a) n ∙ h
declared_wider (further {x = x} {ds = ds} {others = others} t) a n h = at (bytes_eq x.name a.name) refl h (λ g. declared_wider t a n g)
  where
    at : (b : Bool) → bytes_eq x.name a.name ≡ b → (if b then has_kind x.kind a.value && has_fixed x.presence a.value else is_declared others a) ≡ true → (is_declared others a ≡ true → is_declared ds a ≡ true)
        → is_declared (x ∷ ds) a ≡ true
    at true e h f = ap (λ (z : Bool). if z then has_kind x.kind a.value && has_fixed x.presence a.value else is_declared ds a) e ∙ h
    at false e h f = ap (λ (z : Bool). if z then has_kind x.kind a.value && has_fixed x.presence a.value else is_declared ds a) e ∙ f h

not_stands : (name : List ℕ) (ds : List Declared) (xs : List Attribute) → Absent name ds → list_all (is_declared ds) xs ≡ true → stands xs name ≡ false
not_stands name ds [] k h = refl
not_stands name ds (x ∷ xs) k h =
    let p = and_parts (is_declared ds x) (list_all (is_declared ds) xs) h in or_from (bytes_eq x.name name) (stands xs name) (declared_other name ds x k p.0) (not_stands name ds xs k p.1)

all_wider : {ds others : List Declared} {d : Declared} → TakesOne ds d others → Absent d.name others → (xs : List Attribute) → list_all (is_declared others) xs ≡ true → list_all (is_declared ds) xs ≡ true
all_wider t k [] h = refl
all_wider {ds} {others} {d} t k (x ∷ xs) h =
    let p = and_parts (is_declared others x) (list_all (is_declared others) xs) h in
    and_from (is_declared ds x) (list_all (is_declared ds) xs) (declared_wider t x (turned d.name x.name (declared_other d.name others x k p.0)) p.0) (all_wider t k xs p.1)

-- Attributes that have to stand.

abbrev Must : List ℕ → List Attribute → Declared → Bool
Must tag xs d = if must_stand tag d then stands xs d.name else true

there_none : (tag : List ℕ) (ds : List Declared) → NoneMust tag ds → all_there tag ds [] ≡ true
there_none tag [] h = refl
there_none tag (d ∷ ds) h =
    let p = and_parts (not (must_stand tag d)) (list_all (λ (d : Declared). not (must_stand tag d)) ds) h in
    and_from (Must tag [] d) (all_there tag ds []) (ap (λ (b : Bool). if b then false else true) (not-true (must_stand tag d) p.0)) (there_none tag ds p.1)

none_there : (tag : List ℕ) (ds : List Declared) → all_there tag ds [] ≡ true → NoneMust tag ds
none_there tag [] h = refl
none_there tag (d ∷ ds) h =
    let p = and_parts (Must tag [] d) (all_there tag ds []) h in
    and_from (not (must_stand tag d)) (list_all (λ (d : Declared). not (must_stand tag d)) ds) (at (must_stand tag d) p.0) (none_there tag ds p.1)
  where
    at : (b : Bool) → (if b then false else true) ≡ true → not b ≡ true
    at true e = e
    at false e = refl

more_stands : (b c e : Bool) → (if b then e else true) ≡ true → (if b then c || e else true) ≡ true
more_stands true c e h = or_right c e h
more_stands false c e h = refl

less_stands : (b c e : Bool) → c ≡ false → (if b then c || e else true) ≡ true → (if b then e else true) ≡ true
less_stands true true e n h = cc
less_stands true false e n h = h
less_stands false c e n h = refl

there_more : (tag : List ℕ) (x : Attribute) (xs : List Attribute) (ds : List Declared) → all_there tag ds xs ≡ true → all_there tag ds (x ∷ xs) ≡ true
there_more tag x xs [] h = refl
there_more tag x xs (d ∷ ds) h =
    let p = and_parts (Must tag xs d) (all_there tag ds xs) h in
    and_from (Must tag (x ∷ xs) d) (all_there tag ds (x ∷ xs)) (more_stands (must_stand tag d) (bytes_eq x.name d.name) (stands xs d.name) p.0) (there_more tag x xs ds p.1)

there_less : (tag : List ℕ) (x : Attribute) (xs : List Attribute) (ds : List Declared) → Absent x.name ds → all_there tag ds (x ∷ xs) ≡ true → all_there tag ds xs ≡ true
there_less tag x xs [] k h = refl
there_less tag x xs (d ∷ ds) k h =
    let p = and_parts (Must tag (x ∷ xs) d) (all_there tag ds (x ∷ xs)) h in
    and_from (Must tag xs d) (all_there tag ds xs) (less_stands (must_stand tag d) (bytes_eq x.name d.name) (stands xs d.name) (turned x.name d.name k.0) p.0) (there_less tag x xs ds k.1 p.1)

there_wider : {ds others : List Declared} {d : Declared} (tag : List ℕ) (x : Attribute) (xs : List Attribute) → TakesOne ds d others → d.name ≡ x.name → all_there tag others xs ≡ true → all_there tag ds (x ∷ xs) ≡ true
there_wider tag x xs (first {d = d} {ds = ds}) n h =
    and_from (Must tag (x ∷ xs) d) (all_there tag ds (x ∷ xs)) (at (must_stand tag d) (or_left (bytes_eq x.name d.name) (stands xs d.name) (equal_bytes x.name d.name (sym n)))) (there_more tag x xs ds h)
  where
    at : (b : Bool) {c : Bool} → c ≡ true → (if b then c else true) ≡ true
    at true e = e
    at false e = refl
there_wider tag x xs (further {x = r} {ds = ds} {others = others} t) n h =
    let p = and_parts (Must tag xs r) (all_there tag others xs) h in
    and_from (Must tag (x ∷ xs) r) (all_there tag ds (x ∷ xs)) (more_stands (must_stand tag r) (bytes_eq x.name r.name) (stands xs r.name) p.0) (there_wider tag x xs t n p.1)

of_others : {ds others : List Declared} {d : Declared} (test : Declared → Bool) → TakesOne ds d others → list_all test ds ≡ true → list_all test others ≡ true
of_others test (first {d = d} {ds = ds}) h = (and_parts (test d) (list_all test ds) h).1
of_others test (further {x = x} {ds = ds} {others = others} t) h = let p = and_parts (test x) (list_all test ds) h in and_from (test x) (list_all test others) p.0 (of_others test t p.1)

-- The attributes of a tag, and what is asked of them by the declarations.

pub record AreFit (entities : List (List ℕ)) (tag : List ℕ) (ds : List Declared) (cs : List ℕ) : Type 0 where
  pub attributes : List Attribute
  pub written : AreAttributes attributes
  pub known : list_all (λ (a : Attribute). refers_by (is_known entities) a.value) attributes ≡ true
  pub declared : list_all (is_declared ds) attributes ≡ true
  pub once : is_once attributes ≡ true
  pub there : all_there tag ds attributes ≡ true
  pub is : attributes_then attributes [] ≡ cs

pub attribute_behind : (a : Attribute) (rest : List ℕ) → attribute_then a rest ≡ attribute_then a [] ++ rest
attribute_behind a rest = sym (simp append_assoc)

fit_of : {entities : List (List ℕ)} {tag : List ℕ} {ds : List Declared} {cs : List ℕ} → Picked entities tag ds cs → Distinct ds → AreFit entities tag ds cs
fit_of {tag = tag} {ds = ds} (over h) k = record { attributes = []; written = tt; known = refl; declared = refl; once = refl; there = there_none tag ds h; is = refl }
fit_of {entities} {tag} {ds} (picked {others = others} {d = d} {u = u} {v = v} t a p) k = put (fit_of p (others_distinct t k))
  where
    put : AreFit entities tag others v → AreFit entities tag ds (u ++ v)
    put f =
        let absent = others_absent t k in
        record {
          attributes = a.attribute ∷ f.attributes;
          written = (a.written, f.written);
          known = and_from (refers_by (is_known entities) a.attribute.value) (list_all (λ (a : Attribute). refers_by (is_known entities) a.value) f.attributes) a.known f.known;
          declared = and_from (is_declared ds a.attribute) (list_all (is_declared ds) f.attributes)
              (declared_one t k a.attribute a.named (and_from (has_kind d.kind a.attribute.value) (has_fixed d.presence a.attribute.value) a.kind a.fixed)) (all_wider t absent f.attributes f.declared);
          once = and_from (not (stands f.attributes a.attribute.name)) (is_once f.attributes)
              (not_from_false (stands f.attributes a.attribute.name) (not_stands a.attribute.name others f.attributes (subst (λ (z : List ℕ). Absent z others) a.named absent) f.declared)) f.once;
          there = there_wider tag a.attribute f.attributes t a.named f.there;
          is = attribute_behind a.attribute (attributes_then f.attributes []) ∙ ap2 (λ (y z : List ℕ). y ++ z) a.is f.is;
        }

record FoundOne (ds : List Declared) (a : Attribute) : Type 0 where
  declaration : Declared
  others : List Declared
  takes : TakesOne ds declaration others
  named : declaration.name ≡ a.name
  fits : (has_kind declaration.kind a.value && has_fixed declaration.presence a.value) ≡ true

find_one : (ds : List Declared) (a : Attribute) → is_declared ds a ≡ true → FoundOne ds a
find_one [] a h = absurd (no h)
find_one (d ∷ ds) a h = at (bytes_eq d.name a.name) refl h (λ g. find_one ds a g)
  where
    at : (x : Bool) → bytes_eq d.name a.name ≡ x → (if x then has_kind d.kind a.value && has_fixed d.presence a.value else is_declared ds a) ≡ true → (is_declared ds a ≡ true → FoundOne ds a) → FoundOne (d ∷ ds) a
    at true e h f = record { declaration = d; others = ds; takes = first; named = same_bytes d.name a.name e; fits = h }
    at false e h f = let k = f h in record { declaration = k.declaration; others = d ∷ k.others; takes = further k.takes; named = k.named; fits = k.fits }

declared_narrow : {ds others : List Declared} {d : Declared} → TakesOne ds d others → (a : Attribute) → bytes_eq d.name a.name ≡ false → is_declared ds a ≡ true → is_declared others a ≡ true
declared_narrow (first {d = d} {ds = ds}) a n h = sym (ap (λ (x : Bool). if x then has_kind d.kind a.value && has_fixed d.presence a.value else is_declared ds a) n) ∙ h
declared_narrow (further {x = x} {ds = ds} {others = others} t) a n h = at (bytes_eq x.name a.name) refl h (λ g. declared_narrow t a n g)
  where
    at : (b : Bool) → bytes_eq x.name a.name ≡ b → (if b then has_kind x.kind a.value && has_fixed x.presence a.value else is_declared ds a) ≡ true → (is_declared ds a ≡ true → is_declared others a ≡ true)
        → is_declared (x ∷ others) a ≡ true
    at true e h f = ap (λ (z : Bool). if z then has_kind x.kind a.value && has_fixed x.presence a.value else is_declared others a) e ∙ h
    at false e h f = ap (λ (z : Bool). if z then has_kind x.kind a.value && has_fixed x.presence a.value else is_declared others a) e ∙ f h

all_narrow : {ds others : List Declared} {d : Declared} → TakesOne ds d others → (xs : List Attribute) → stands xs d.name ≡ false → list_all (is_declared ds) xs ≡ true → list_all (is_declared others) xs ≡ true
all_narrow t [] n h = refl
all_narrow {ds} {others} {d} t (x ∷ xs) n h =
    let p = and_parts (is_declared ds x) (list_all (is_declared ds) xs) h in
    let q = or_parts (bytes_eq x.name d.name) (stands xs d.name) n in
    and_from (is_declared others x) (list_all (is_declared others) xs) (declared_narrow t x (turned d.name x.name q.0) p.0) (all_narrow t xs q.1 p.1)

picked_of : (entities : List (List ℕ)) (tag : List ℕ) (xs : List Attribute) (ds : List Declared) → Distinct ds → AreAttributes xs → list_all (λ (a : Attribute). refers_by (is_known entities) a.value) xs ≡ true
    → list_all (is_declared ds) xs ≡ true → is_once xs ≡ true → all_there tag ds xs ≡ true → Picked entities tag ds (attributes_then xs [])
picked_of entities tag [] ds k w g h o t = over (none_there tag ds t)
picked_of entities tag (x ∷ xs) ds k w g h o t = at (find_one ds x p.0) (λ others k h t. picked_of entities tag xs others k w.1 q.1 h r.1 t)
  where
    p : (is_declared ds x ≡ true) × (list_all (is_declared ds) xs ≡ true)
    p = and_parts (is_declared ds x) (list_all (is_declared ds) xs) h

    q : (refers_by (is_known entities) x.value ≡ true) × (list_all (λ (a : Attribute). refers_by (is_known entities) a.value) xs ≡ true)
    q = and_parts (refers_by (is_known entities) x.value) (list_all (λ (a : Attribute). refers_by (is_known entities) a.value) xs) g

    r : (not (stands xs x.name) ≡ true) × (is_once xs ≡ true)
    r = and_parts (not (stands xs x.name)) (is_once xs) o

    at : FoundOne ds x → ((others : List Declared) → Distinct others → list_all (is_declared others) xs ≡ true → all_there tag others xs ≡ true → Picked entities tag others (attributes_then xs [])) → Picked entities tag ds (attributes_then (x ∷ xs) [])
    at f rest =
        let absent = subst (λ (z : List ℕ). Absent z f.others) f.named (others_absent f.takes k) in
        let c = and_parts (has_kind f.declaration.kind x.value) (has_fixed f.declaration.presence x.value) f.fits in
        subst (Picked entities tag ds) (sym (attribute_behind x (attributes_then xs [])))
        (picked f.takes (record { attribute = x; written = w.0; known = q.0; named = f.named; kind = c.0; fixed = c.1; is = refl })
        (rest f.others (others_distinct f.takes k)
        (all_narrow f.takes xs (ap (stands xs) f.named ∙ not-true (stands xs x.name) r.0) p.1)
        (there_less tag x xs f.others absent (of_others (Must tag (x ∷ xs)) f.takes t))))

-- each of the declarations is lawful, and none stands twice
pub spells_attributes : (entities : List (List ℕ)) (tag : List ℕ) (ds : List Declared) → AreLawfulEach ds → Distinct ds → Spells (any_order (attribute_members entities tag ds)) (AreFit entities tag ds)
spells_attributes entities tag ds l k =
    spells_as (spells_picked entities tag ds l) (λ cs p. fit_of p k) (λ cs f. subst (Picked entities tag ds) f.is (picked_of entities tag f.attributes ds k f.written f.known f.declared f.once f.there))

absent_name : (name : List ℕ) (ds : List Declared) → list_any (bytes_eq name) (map (λ (d : Declared). d.name) ds) ≡ false → Absent name ds
absent_name name [] h = tt
absent_name name (d ∷ ds) h =
    let p = or_parts (bytes_eq name d.name) (list_any (bytes_eq name) (map (λ (d : Declared). d.name) ds)) h in (turned d.name name p.0, absent_name name ds p.1)

pub distinct_names : (ds : List Declared) → is_distinct (map (λ (d : Declared). d.name) ds) ≡ true → Distinct ds
distinct_names [] h = tt
distinct_names (d ∷ ds) h =
    let names = map (λ (d : Declared). d.name) ds in
    let p = and_parts (not (list_any (bytes_eq d.name) names)) (is_distinct names) h in
    (absent_name d.name ds (not-true (list_any (bytes_eq d.name) names) p.0), distinct_names ds p.1)

pub lawful_each : (ds : List Declared) → list_all is_name (map (λ (d : Declared). d.name) ds) ≡ true → list_all (λ (d : Declared). is_lawful_kind d.kind) ds ≡ true → AreLawfulEach ds
lawful_each [] h g = tt
lawful_each (d ∷ ds) h g =
    let p = and_parts (is_name d.name) (list_all is_name (map (λ (d : Declared). d.name) ds)) h in
    let q = and_parts (is_lawful_kind d.kind) (list_all (λ (d : Declared). is_lawful_kind d.kind) ds) g in
    (p.0, q.0, lawful_each ds p.1 q.1)
