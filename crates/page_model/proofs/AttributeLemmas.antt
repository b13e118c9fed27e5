-- Names, literals and attributes are read as they are spelled.
use Rattle.std.proofs.Common.{◌≡◌, ℕ, zero, suc, ◌≤◌, ◌<◌, Bool, true, false, not, ◌||◌, List, [], ◌∷◌, ◌++◌, Option, Some, None, length, refl, sym, ◌∙◌, ap, subst, arith, length-append}
use Rattle.std.specs.Prelude.{◌==◌, if◌then◌else◌, nat_eq, codes, ◌≢◌}
use Rattle.std.specs.List.{list_all}
use Rattle.std.proofs.lemmas.Bool.{and_parts, and_from, eqb-true, eq-eqb}
use Rattle.std.proofs.lemmas.Bool.Decides.{nat_tests}
use Rattle.xml_text.specs.Characters.{is_blank}
use Rattle.xml_text.specs.Names.{begins_name, in_name, is_name}
use Rattle.dtd_model.specs.References.{is_some}
use Rattle.page_model.specs.Parts.{Attribute, attribute_then, attributes_then, IsAttribute, AreAttributes, is_quote, may_be_quoted}
use Rattle.page_model.specs.Prolog.{Literal, literal_then}
use Rattle.page_model.specs.Scan.{front, beyond, strip, then_some, Stops, is_other}
use Rattle.page_model.specs.Reading.{name_at, closed, quoted_at, attribute_from, value_at, equals_at, attribute_at, attributes_by, attributes_at, all_attributes}
use Rattle.page_model.specs.Right.{attribute_is_right}
use Rattle.page_model.proofs.ScanLemmas.{then_is, came, front_beyond, front_all, split_at, strip_is}

pub begins_in : (c : ℕ) → begins_name c ≡ true → in_name c ≡ true
begins_in c p = grind (arith, nat_tests)

pub blank_not_in_name : (c : ℕ) → is_blank c ≡ true → in_name c ≡ false
blank_not_in_name c p = grind (arith, nat_tests)

pub begins_not_blank : (c : ℕ) → begins_name c ≡ true → is_blank c ≡ false
begins_not_blank c p = grind (arith, nat_tests)

pub quote_not_blank : (c : ℕ) → is_quote c ≡ true → is_blank c ≡ false
quote_not_blank c p = grind (arith, nat_tests)

pub some_pair : {A B : Type 0} → (a c : A) (b d : B) → a ≡ c → b ≡ d → (let x : Option (A × B) = Some (a, b) in let y : Option (A × B) = Some (c, d) in x ≡ y)
some_pair {A} {B} a c b d e f = ap (λ (z : A). let x : Option (A × B) = Some (z, b) in x) e ∙ ap (λ (z : B). let x : Option (A × B) = Some (c, z) in x) f

-- Names.

pub name_read : (n rest : List ℕ) → is_name n ≡ true → Stops in_name rest → (let z : List ℕ × List ℕ = (n, rest) in name_at (n ++ rest) ≡ Some z)
name_read [] rest h stops = cc
name_read (c ∷ cs) rest h stops =
    let a = and_parts (begins_name c) (list_all in_name cs) h in
    let s = split_at in_name cs rest a.1 stops in
    ap (λ (b : Bool). let z : List ℕ × List ℕ = (c ∷ front in_name (cs ++ rest), beyond in_name (cs ++ rest)) in if b then Some z else None) a.0
    ∙ some_pair (c ∷ front in_name (cs ++ rest)) (c ∷ cs) (beyond in_name (cs ++ rest)) rest (ap (λ (xs : List ℕ). c ∷ xs) s.front_is) s.beyond_is

pub record IsNameAt (cs name rest : List ℕ) : Type 0 where
  pub named : is_name name ≡ true
  pub is : name ++ rest ≡ cs

pub name_is : (cs : List ℕ) (z : List ℕ × List ℕ) → name_at cs ≡ Some z → IsNameAt cs z.0 z.1
name_is [] z e = cc
name_is (c ∷ cs) z e = at (begins_name c) refl e
  where
    at : (b : Bool) → begins_name c ≡ b → (let y : List ℕ × List ℕ = (c ∷ front in_name cs, beyond in_name cs) in (if b then Some y else None) ≡ Some z) → IsNameAt (c ∷ cs) z.0 z.1
    at true h q =
        let y : List ℕ × List ℕ = (c ∷ front in_name cs, beyond in_name cs) in
        let r : y ≡ z = cc in
        subst (λ (z : List ℕ × List ℕ). IsNameAt (c ∷ cs) z.0 z.1) r (record { named = and_from _ _ h (front_all in_name cs); is = ap (λ (xs : List ℕ). c ∷ xs) (front_beyond in_name cs) })
    at false h q = cc

pub no_name_at : (c : ℕ) (cs : List ℕ) → begins_name c ≡ false → name_at (c ∷ cs) ≡ None
no_name_at c cs h = ap (λ (b : Bool). let z : List ℕ × List ℕ = (c ∷ front in_name cs, beyond in_name cs) in if b then Some z else None) h

-- what follows a name is not in it, where it is white space or a mark
pub blank_stops : (space rest : List ℕ) (c : ℕ) → list_all is_blank space ≡ true → in_name c ≡ false → Stops in_name (space ++ c ∷ rest)
blank_stops [] rest c h mark = mark
blank_stops (s ∷ space) rest c h mark = blank_not_in_name s (and_parts (is_blank s) (list_all is_blank space) h).0

pub name_after_blank : (n rest : List ℕ) → is_name n ≡ true → Stops is_blank (n ++ rest)
name_after_blank [] rest h = cc
name_after_blank (c ∷ cs) rest h = begins_not_blank c (and_parts (begins_name c) (list_all in_name cs) h).0

-- Literals.

pub quoted_read : (l : Literal) (rest : List ℕ) → is_quote l.quote ≡ true → list_all (is_other l.quote) l.text ≡ true → (let z : Literal × List ℕ = (l, rest) in quoted_at (literal_then l rest) ≡ Some z)
quoted_read l rest q all =
    let stops : is_other l.quote l.quote ≡ false = ap not (eq-eqb l.quote l.quote refl) in
    let s = split_at (is_other l.quote) l.text (l.quote ∷ rest) all stops in
    let cs = l.text ++ l.quote ∷ rest in
    ap (λ (b : Bool). if b then closed l.quote (front (is_other l.quote) cs) (beyond (is_other l.quote) cs) else None) q
    ∙ ap (λ (xs : List ℕ). closed l.quote xs (beyond (is_other l.quote) cs)) s.front_is
    ∙ ap (closed l.quote l.text) s.beyond_is

pub record IsQuotedAt (cs : List ℕ) (l : Literal) (rest : List ℕ) : Type 0 where
  pub quoted : is_quote l.quote ≡ true
  pub is : literal_then l rest ≡ cs

-- what ends a text in quotes is its quote
beyond_other : (q : ℕ) (cs : List ℕ) (c : ℕ) (rest : List ℕ) → beyond (is_other q) cs ≡ c ∷ rest → c ≡ q
beyond_other q [] c rest e = cc
beyond_other q (x ∷ cs) c rest e = at (nat_eq x q) refl e (λ z. beyond_other q cs c rest z)
  where
    at : (b : Bool) → nat_eq x q ≡ b → (if not b then beyond (is_other q) cs else x ∷ cs) ≡ c ∷ rest → (beyond (is_other q) cs ≡ c ∷ rest → c ≡ q) → c ≡ q
    at true h e ih = let s : x ≡ c = cc in sym s ∙ eqb-true x q h
    at false h e ih = ih e

pub quoted_is : (cs : List ℕ) (z : Literal × List ℕ) → quoted_at cs ≡ Some z → IsQuotedAt cs z.0 z.1
quoted_is [] z e = cc
quoted_is (q ∷ cs) z e = at (is_quote q) refl e
  where
    ends : (h : is_quote q ≡ true) (ds : List ℕ) → beyond (is_other q) cs ≡ ds → closed q (front (is_other q) cs) ds ≡ Some z → IsQuotedAt (q ∷ cs) z.0 z.1
    ends h [] b e = cc
    ends h (c ∷ ds) b e =
        let y : Literal × List ℕ = (record { quote = q; text = front (is_other q) cs }, ds) in
        let r : y ≡ z = cc in
        let last : c ≡ q = beyond_other q cs c ds b in
        let is : front (is_other q) cs ++ q ∷ ds ≡ cs = ap (λ (x : ℕ). front (is_other q) cs ++ x ∷ ds) (sym last) ∙ ap (λ (xs : List ℕ). front (is_other q) cs ++ xs) (sym b) ∙ front_beyond (is_other q) cs in
        subst (λ (z : Literal × List ℕ). IsQuotedAt (q ∷ cs) z.0 z.1) r (record { quoted = h; is = ap (λ (xs : List ℕ). q ∷ xs) is })

    at : (b : Bool) → is_quote q ≡ b → (if b then closed q (front (is_other q) cs) (beyond (is_other q) cs) else None) ≡ Some z → IsQuotedAt (q ∷ cs) z.0 z.1
    at true h e = ends h (beyond (is_other q) cs) refl e
    at false h e = cc

-- Attributes.

quoted_others : (q : ℕ) (cs : List ℕ) → list_all (may_be_quoted q) cs ≡ true → list_all (is_other q) cs ≡ true
quoted_others q [] h = refl
quoted_others q (c ∷ cs) h =
    let a = and_parts (may_be_quoted q c) (list_all (may_be_quoted q) cs) h in
    and_from (is_other q c) (list_all (is_other q) cs) (other (and_parts _ _ a.0).1) (quoted_others q cs a.1)
  where
    other : not (c == 60 || c == q) ≡ true → is_other q c ≡ true
    other h = at (nat_eq c 60) (nat_eq c q) h
      where
        at : (x y : Bool) → not (x || y) ≡ true → not y ≡ true
        at true y h = cc
        at false y h = h

literal_of : Attribute → Literal
literal_of a = record { quote = a.quote; text = a.value }

pub attribute_read : (a : Attribute) (rest : List ℕ) → IsAttribute a → (let z : Attribute × List ℕ = (a, rest) in attribute_at (attribute_then a rest) ≡ Some z)
unfolding attribute_at literal_of
attribute_read a rest h =
    let v = literal_then (literal_of a) rest in
    let e = a.after_equals ++ v in
    let n = a.before_equals ++ 61 ∷ e in
    let cs = a.space ++ (a.name ++ n) in
    let s1 = split_at is_blank a.space (a.name ++ n) h.blank_space (name_after_blank a.name n h.named) in
    let s2 = split_at is_blank a.before_equals (61 ∷ e) h.blank_before refl in
    let s3 = split_at is_blank a.after_equals v h.blank_after (quote_not_blank a.quote h.quoted) in
    let zn : List ℕ × List ℕ = (a.name, n) in
    let named : name_at (beyond is_blank cs) ≡ Some zn = ap name_at s1.beyond_is ∙ name_read a.name n h.named (blank_stops a.before_equals e 61 h.blank_before refl) in
    let equals : strip (codes "=") (beyond is_blank n) ≡ Some e = ap (strip (codes "=")) s2.beyond_is in
    let zq : Literal × List ℕ = (literal_of a, rest) in
    let quoted : quoted_at (beyond is_blank e) ≡ Some zq = ap quoted_at s3.beyond_is ∙ quoted_read (literal_of a) rest h.quoted (quoted_others a.quote a.value h.characters) in
    then_is _ zn (λ n. equals_at (front is_blank cs) n.0 n.1) named
    ∙ ap (λ (xs : List ℕ). equals_at xs a.name n) s1.front_is
    ∙ then_is _ e (λ rest. value_at a.space a.name (front is_blank n) rest) equals
    ∙ ap (λ (xs : List ℕ). value_at a.space a.name xs e) s2.front_is
    ∙ then_is _ zq (λ q. let z : Attribute × List ℕ = (attribute_from a.space a.name a.before_equals (front is_blank e) q.0, q.1) in Some z) quoted
    ∙ ap (λ (xs : List ℕ). let z : Attribute × List ℕ = (attribute_from a.space a.name a.before_equals xs (literal_of a), rest) in Some z) s3.front_is

-- the form of an attribute that was read
pub record IsAttributeAt (cs : List ℕ) (a : Attribute) (rest : List ℕ) : Type 0 where
  pub is : attribute_then a rest ≡ cs
  pub right : attribute_is_right a ≡ true → IsAttribute a

some_not_empty : (xs : List ℕ) → is_some xs ≡ true → xs ≢ []
some_not_empty [] h e = cc
some_not_empty (x ∷ xs) h e = cc

pub attribute_is : (cs : List ℕ) (z : Attribute × List ℕ) → attribute_at cs ≡ Some z → IsAttributeAt cs z.0 z.1
unfolding attribute_at literal_of
attribute_is cs z e =
    let n = came (name_at (beyond is_blank cs)) (λ n. equals_at (front is_blank cs) n.0 n.1) z e in
    let q = came (strip (codes "=") (beyond is_blank n.from.1)) (λ rest. value_at (front is_blank cs) n.from.0 (front is_blank n.from.1) rest) z n.gives in
    let v = came (quoted_at (beyond is_blank q.from)) (λ v. let y : Attribute × List ℕ = (attribute_from (front is_blank cs) n.from.0 (front is_blank n.from.1) (front is_blank q.from) v.0, v.1) in Some y) z q.gives in
    let ni = name_is (beyond is_blank cs) n.from n.was in
    let qi = strip_is (codes "=") (beyond is_blank n.from.1) q.from q.was in
    let vi = quoted_is (beyond is_blank q.from) v.from v.was in
    let a = attribute_from (front is_blank cs) n.from.0 (front is_blank n.from.1) (front is_blank q.from) v.from.0 in
    let y : Attribute × List ℕ = (a, v.from.1) in
    let same : y ≡ z = cc in
    let e3 : front is_blank q.from ++ literal_then v.from.0 v.from.1 ≡ q.from = ap (λ (xs : List ℕ). front is_blank q.from ++ xs) vi.is ∙ front_beyond is_blank q.from in
    let e2 : front is_blank n.from.1 ++ 61 ∷ q.from ≡ n.from.1 = ap (λ (xs : List ℕ). front is_blank n.from.1 ++ xs) qi ∙ front_beyond is_blank n.from.1 in
    let e1 : front is_blank cs ++ (n.from.0 ++ n.from.1) ≡ cs = ap (λ (xs : List ℕ). front is_blank cs ++ xs) ni.is ∙ front_beyond is_blank cs in
    let is : attribute_then a v.from.1 ≡ cs = ap (λ (xs : List ℕ). front is_blank cs ++ (n.from.0 ++ (front is_blank n.from.1 ++ 61 ∷ xs))) e3 ∙ ap (λ (xs : List ℕ). front is_blank cs ++ (n.from.0 ++ xs)) e2 ∙ e1 in
    subst (λ (z : Attribute × List ℕ). IsAttributeAt cs z.0 z.1) same (record {
      is = is;
      right = λ h.
          let p = and_parts _ _ h in
          let o = and_parts _ _ p.0 in
          record {
            some_space = some_not_empty (front is_blank cs) o.0;
            blank_space = front_all is_blank cs;
            named = ni.named;
            blank_before = front_all is_blank n.from.1;
            blank_after = front_all is_blank q.from;
            quoted = vi.quoted;
            characters = o.1;
            references = p.1;
          };
    })

pub empty_some : (xs : List ℕ) → xs ≢ [] → is_some xs ≡ true
empty_some [] h = absurd (h refl)
empty_some (x ∷ xs) h = refl

pub attribute_right : (a : Attribute) → IsAttribute a → attribute_is_right a ≡ true
attribute_right a h = and_from _ _ (and_from _ _ (empty_some a.space h.some_space) h.characters) h.references

pub attributes_right : (xs : List Attribute) → AreAttributes xs → list_all attribute_is_right xs ≡ true
attributes_right [] h = refl
attributes_right (a ∷ xs) h = and_from (attribute_is_right a) (list_all attribute_is_right xs) (attribute_right a h.0) (attributes_right xs h.1)

-- Attributes in turn.

pub attributes_read : (xs : List Attribute) (rest : List ℕ) → AreAttributes xs → attribute_at rest ≡ None → (n : ℕ) → length xs ≤ n → (let z : List Attribute × List ℕ = (xs, rest) in attributes_at n (attributes_then xs rest) ≡ z)
attributes_read [] rest h none zero l = refl
attributes_read [] rest h none (suc n) l = ap (λ o. attributes_by o rest (λ rest. attributes_at n rest)) none
attributes_read (a ∷ xs) rest h none zero l = absurd (omega arith)
attributes_read (a ∷ xs) rest h none (suc n) l =
    let found : Attribute × List ℕ = (a, attributes_then xs rest) in
    let more = attributes_read xs rest h.1 none n (omega arith) in
    ap (λ o. attributes_by o (attribute_then a (attributes_then xs rest)) (λ rest. attributes_at n rest)) (attribute_read a (attributes_then xs rest) h.0)
    ∙ ap (λ (z : List Attribute × List ℕ). let y : List Attribute × List ℕ = (a ∷ z.0, z.1) in y) more

-- an attribute has a character
pub longer : (a : Attribute) (rest : List ℕ) → length rest < length (attribute_then a rest)
longer a rest =
    let v = a.value ++ a.quote ∷ rest in
    let e = a.after_equals ++ a.quote ∷ v in
    let n = a.before_equals ++ 61 ∷ e in
    let l0 = length-append a.value (a.quote ∷ rest) in
    let l1 = length-append a.after_equals (a.quote ∷ v) in
    let l2 = length-append a.before_equals (61 ∷ e) in
    let l3 = length-append a.name n in
    let l4 = length-append a.space (a.name ++ n) in
    omega arith

pub attributes_long : (xs : List Attribute) (rest : List ℕ) → length xs ≤ length (attributes_then xs rest)
attributes_long [] rest = omega arith
attributes_long (a ∷ xs) rest = let m = attributes_long xs rest in let l = longer a (attributes_then xs rest) in omega arith

pub all_read : (xs : List Attribute) (rest : List ℕ) → AreAttributes xs → attribute_at rest ≡ None → (let z : List Attribute × List ℕ = (xs, rest) in all_attributes (attributes_then xs rest) ≡ z)
unfolding all_attributes
all_read xs rest h none = attributes_read xs rest h none (length (attributes_then xs rest)) (attributes_long xs rest)

pub record AreAt (cs : List ℕ) (xs : List Attribute) (rest : List ℕ) : Type 0 where
  pub is : attributes_then xs rest ≡ cs
  pub right : list_all attribute_is_right xs ≡ true → AreAttributes xs

pub attributes_are : (n : ℕ) (cs : List ℕ) → AreAt cs (attributes_at n cs).0 (attributes_at n cs).1
attributes_are zero cs = record { is = refl; right = λ h. tt }
attributes_are (suc n) cs = at (attribute_at cs) refl (λ rest. attributes_are n rest)
  where
    at : (o : Option (Attribute × List ℕ)) → attribute_at cs ≡ o → ((rest : List ℕ) → AreAt rest (attributes_at n rest).0 (attributes_at n rest).1) → AreAt cs (attributes_by o cs (λ rest. attributes_at n rest)).0 (attributes_by o cs (λ rest. attributes_at n rest)).1
    at None e ih = record { is = refl; right = λ h. tt }
    at (Some z) e ih =
        let i = attribute_is cs z e in
        let m = ih z.1 in
        record {
          is = ap (attribute_then z.0) m.is ∙ i.is;
          right = λ h. let p = and_parts _ _ h in (i.right p.0, m.right p.1);
        }

pub all_are : (cs : List ℕ) → AreAt cs (all_attributes cs).0 (all_attributes cs).1
unfolding all_attributes
all_are cs = attributes_are (length cs) cs

-- white space and a mark are no attribute
pub no_attribute : (space rest : List ℕ) (c : ℕ) → list_all is_blank space ≡ true → is_blank c ≡ false → begins_name c ≡ false → attribute_at (space ++ c ∷ rest) ≡ None
unfolding attribute_at
no_attribute space rest c h blank begins =
    let s = split_at is_blank space (c ∷ rest) h blank in
    ap (λ o. then_some o (λ n. equals_at (front is_blank (space ++ c ∷ rest)) n.0 n.1)) (ap name_at s.beyond_is ∙ no_name_at c rest begins)
