-- The tags of declared elements with any attributes.
use Rattle.std.proofs.Common.{◌≡◌, ◌⊎◌, inl, inr, ℕ, Bool, true, false, List, [], ◌∷◌, ◌++◌, Option, Some, None, refl, sym, ◌∙◌, ap, subst, append_assoc}
use Rattle.std.specs.Prelude.{◌||◌, bytes_eq, codes, map, if◌then◌else◌, nat_lt, ◌&&◌}
use Rattle.std.specs.List.{list_all, list_any}
use Rattle.std.proofs.lemmas.Bool.{or_cases, or_left, or_right, and_parts}
use Rattle.xml_text.specs.Characters.{is_blank}
use Rattle.xml_text.specs.Names.{is_name}
use Rattle.dtd_model.specs.Table.{Rule, Table}
use Rattle.derivatives.specs.Expressions.{Expr, Matches, star}
use Rattle.derivatives.specs.Derivatives.{chain_of, either_of}
use Rattle.page_model.specs.Attributes.{find_rule, is_some_rule}
use Rattle.page_model.specs.Broken.{IsLooseAttribute, AreLooseAttributes, IsLooseTag, IsLoose, loose_bytes}
use Rattle.page_model.specs.Parts.{Attribute, attribute_then, attributes_then, Tag, tag_then, is_quote}
use Rattle.page_model.specs.Pieces.{Piece, start_tag, empty_tag, after}
use Rattle.page_model.specs.Places.{Place, behind}
use Rattle.page_model.specs.Prolog.{IsSpace}
use Rattle.page_model.proofs.Names.{same_bytes, equal_bytes}
use Rattle.page_forms.specs.Words.{word, one_of_words}
use Rattle.page_forms.proofs.Spelling.{Chained, Runs, over, further, put_together}
use Rattle.page_forms.proofs.WordForms.{IsWordOf}
use Rattle.coarse_forms.specs.CoarseForms.{value_bytes}
use Rattle.coarse_forms.specs.Laws.{OfBytes}
use Rattle.broken_forms.specs.LooseForms.{names_of, loose_attribute, behind_name, loose_tag_form}
use Rattle.broken_forms.specs.Laws.{LooseTagsAreSpelled}
use Rattle.broken_forms.proofs.Bytes.{bytes_apart, tells_blanks, tells_gap, tells_name, tells_words, Value, tells_value}
use Rattle.broken_forms.proofs.Coarse.{tag_bytes}
use Rattle.broken_forms.proofs.Telling.{Tells, tells_as, tells_chain, tells_either, tells_star, tells_word, Quoted, tells_quoted}

-- Attributes.

record IsAttributeText (w : List ℕ) : Type 0 where
  attribute : Attribute
  loose : IsLooseAttribute attribute
  bytes : OfBytes attribute.value
  is : attribute_then attribute [] ≡ w

abbrev Blank : List ℕ → Type 0
Blank w = list_all is_blank w ≡ true

abbrev Parts : List ℕ → Type 0
Parts = Chained IsSpace (Chained (λ w. is_name w ≡ true) (Chained Blank (Chained (λ w. codes "=" ≡ w) (Chained Blank (Quoted Value)))))

attribute_into : (w : List ℕ) → Parts w → IsAttributeText w
attribute_into w a =
    let b = a.goes_on in
    let c = b.goes_on in
    let e = c.goes_on in
    let f = e.goes_on in
    let v = f.goes_on in
    record {
      attribute = record { space = a.first; name = b.first; before_equals = c.first; after_equals = f.first; quote = v.quote; value = v.text };
      loose = record { some_space = a.begins.some; blank_space = a.begins.blank; named = b.begins; blank_before = c.begins; blank_after = f.begins; quoted = v.quoted; value = v.between.0 };
      bytes = v.between.1;
      is = put_together refl (put_together refl (put_together refl (put_together e.begins (put_together refl v.is f.is) e.is) c.is) b.is) a.is;
    }

attribute_from : (w : List ℕ) → IsAttributeText w → Parts w
attribute_from w k =
    let x = k.attribute in
    let l = k.loose in
    record {
      first = x.space;
      second = x.name ++ (x.before_equals ++ 61 ∷ (x.after_equals ++ x.quote ∷ (x.value ++ x.quote ∷ [])));
      begins = record { some = l.some_space; blank = l.blank_space };
      goes_on = record {
        first = x.name;
        second = x.before_equals ++ 61 ∷ (x.after_equals ++ x.quote ∷ (x.value ++ x.quote ∷ []));
        begins = l.named;
        goes_on = record {
          first = x.before_equals;
          second = 61 ∷ (x.after_equals ++ x.quote ∷ (x.value ++ x.quote ∷ []));
          begins = l.blank_before;
          goes_on = record {
            first = codes "=";
            second = x.after_equals ++ x.quote ∷ (x.value ++ x.quote ∷ []);
            begins = refl;
            goes_on = record {
              first = x.after_equals;
              second = x.quote ∷ (x.value ++ x.quote ∷ []);
              begins = l.blank_after;
              goes_on = record { quote = x.quote; text = x.value; quoted = l.quoted; between = (l.value, k.bytes); is = refl };
              is = refl;
            };
            is = refl;
          };
          is = refl;
        };
        is = refl;
      };
      is = k.is;
    }

tells_attribute : Tells loose_attribute IsAttributeText
tells_attribute =
    tells_as
    (tells_chain tells_gap (tells_chain tells_name (tells_chain tells_blanks (tells_chain (tells_word (codes "=")) (tells_chain tells_blanks (tells_quoted value_bytes Value tells_value))))))
    attribute_into attribute_from

attribute_more : (a : Attribute) (rest : List ℕ) → attribute_then a [] ++ rest ≡ attribute_then a rest
attribute_more a rest = simp append_assoc

record AreAttributeTexts (w : List ℕ) : Type 0 where
  all : List Attribute
  loose : AreLooseAttributes all
  is : attributes_then all [] ≡ w

attributes_into : {w : List ℕ} → Runs IsAttributeText w → AreAttributeTexts w
attributes_into over = record { all = []; loose = tt; is = refl }
attributes_into (further {first = first} {more = more} a r) =
    let k = attributes_into r in
    record { all = a.attribute ∷ k.all; loose = (a.loose, k.loose); is = sym (attribute_more a.attribute (attributes_then k.all [])) ∙ put_together a.is k.is refl }

-- the value of an attribute, and what stands behind it, are bytes where all is
value_bytes_of : (a : Attribute) (rest : List ℕ) → OfBytes (attribute_then a rest) → OfBytes a.value × OfBytes rest
value_bytes_of a rest h =
    let from_quote : List ℕ = a.value ++ a.quote ∷ rest in
    let from_equals : List ℕ = a.after_equals ++ a.quote ∷ from_quote in
    let b = (bytes_apart a.space (a.name ++ (a.before_equals ++ 61 ∷ from_equals)) h).1 in
    let c = (bytes_apart a.name (a.before_equals ++ 61 ∷ from_equals) b).1 in
    let d = (bytes_apart a.before_equals (61 ∷ from_equals) c).1 in
    let e = (bytes_apart (61 ∷ []) from_equals d).1 in
    let f = (bytes_apart a.after_equals (a.quote ∷ from_quote) e).1 in
    let g = (bytes_apart (a.quote ∷ []) from_quote f).1 in
    let v = bytes_apart a.value (a.quote ∷ rest) g in
    (v.0, (bytes_apart (a.quote ∷ []) rest v.1).1)

attributes_from : (all : List Attribute) (rest : List ℕ) → AreLooseAttributes all → OfBytes (attributes_then all rest) → (w : List ℕ) × Runs IsAttributeText w × (w ++ rest ≡ attributes_then all rest) × OfBytes rest
attributes_from [] rest l h = ([], over, refl, h)
attributes_from (a ∷ more) rest l h =
    let v = value_bytes_of a (attributes_then more rest) h in
    let k = attributes_from more rest l.1 v.1 in (
      attribute_then a [] ++ k.0,
      further (record { attribute = a; loose = l.0; bytes = v.0; is = refl }) k.1,
      append_assoc (attribute_then a []) k.0 rest ∙ ap (λ (z : List ℕ). attribute_then a [] ++ z) k.2 ∙ attribute_more a (attributes_then more rest),
      k.3,
    )

-- Tags.

abbrev Closer : List ℕ → Type 0
Closer w = (codes ">" ≡ w) ⊎ (codes "/>" ≡ w)

record IsTagText (names : List (List ℕ)) (w : List ℕ) : Type 0 where
  tag : Tag
  closer : List ℕ
  named : is_name tag.name ≡ true
  among : list_any (bytes_eq tag.name) names ≡ true
  attributes : AreLooseAttributes tag.attributes
  blank_space : Blank tag.space
  closes : Closer closer
  is : 60 ∷ tag_then tag closer ≡ w

abbrev TagParts : List (List ℕ) → List ℕ → Type 0
TagParts names = Chained (λ w. codes "<" ≡ w) (Chained (IsWordOf is_name names) (Chained (Runs IsAttributeText) (Chained Blank Closer)))

attributes_behind : (all : List Attribute) (rest : List ℕ) → attributes_then all [] ++ rest ≡ attributes_then all rest
attributes_behind [] rest = refl
attributes_behind (a ∷ more) rest =
    ap (λ (z : List ℕ). z ++ rest) (sym (attribute_more a (attributes_then more [])))
    ∙ append_assoc (attribute_then a []) (attributes_then more []) rest
    ∙ ap (λ (z : List ℕ). attribute_then a [] ++ z) (attributes_behind more rest)
    ∙ attribute_more a (attributes_then more rest)

tag_into : (names : List (List ℕ)) (w : List ℕ) → TagParts names w → IsTagText names w
tag_into names w a =
    let b = a.goes_on in
    let c = b.goes_on in
    let d = c.goes_on in
    let k = attributes_into c.begins in
    record {
      tag = record { name = b.first; attributes = k.all; space = d.first };
      closer = d.second;
      named = b.begins.passes;
      among = b.begins.among;
      attributes = k.loose;
      blank_space = d.begins;
      closes = d.goes_on;
      is = put_together a.begins (put_together refl (sym (attributes_behind k.all (d.first ++ d.second)) ∙ put_together k.is d.is c.is) b.is) a.is;
    }

tag_from : (names : List (List ℕ)) (tag : Tag) (closer : List ℕ) → is_name tag.name ≡ true → list_any (bytes_eq tag.name) names ≡ true → AreLooseAttributes tag.attributes → Blank tag.space → Closer closer
    → OfBytes (60 ∷ tag_then tag closer) → TagParts names (60 ∷ tag_then tag closer)
tag_from names tag closer h n l s c bytes =
    let b = (bytes_apart tag.name (attributes_then tag.attributes (tag.space ++ closer)) (bytes_apart (60 ∷ []) (tag_then tag closer) bytes).1).1 in
    let k = attributes_from tag.attributes (tag.space ++ closer) l b in
    record {
      first = codes "<";
      second = tag_then tag closer;
      begins = refl;
      goes_on = record {
        first = tag.name;
        second = attributes_then tag.attributes (tag.space ++ closer);
        begins = record { passes = h; among = n };
        goes_on = record { first = k.0; second = tag.space ++ closer; begins = k.1; goes_on = record { first = tag.space; second = closer; begins = s; goes_on = c; is = refl }; is = k.2 };
        is = refl;
      };
      is = refl;
    }

tells_parts : (names : List (List ℕ)) → Tells (loose_tag_form names) (TagParts names)
unfolding loose_tag_form
tells_parts names =
    tells_chain (tells_word (codes "<"))
    (tells_chain (tells_words names) (tells_chain (tells_star tells_attribute) (tells_chain tells_blanks (tells_either (tells_word (codes ">")) (tells_word (codes "/>"))))))

-- Declared names.

found_named : (name : List ℕ) (rules : List Rule) → is_some_rule (find_rule rules name) ≡ true → list_any (bytes_eq name) (map (λ (r : Rule). r.name) rules) ≡ true
found_named name [] h = cc
found_named name (r ∷ rules) h = at (bytes_eq r.name name) refl h (λ k. found_named name rules k)
  where
    at : (b : Bool) → bytes_eq r.name name ≡ b → is_some_rule (if b then Some r else find_rule rules name) ≡ true → (is_some_rule (find_rule rules name) ≡ true → list_any (bytes_eq name) (map (λ (r : Rule). r.name) rules) ≡ true)
        → list_any (bytes_eq name) (map (λ (r : Rule). r.name) (r ∷ rules)) ≡ true
    at true e h more = or_left (bytes_eq name r.name) (list_any (bytes_eq name) (map (λ (r : Rule). r.name) rules)) (equal_bytes name r.name (sym (same_bytes r.name name e)))
    at false e h more = or_right (bytes_eq name r.name) (list_any (bytes_eq name) (map (λ (r : Rule). r.name) rules)) (more h)

named_found : (name : List ℕ) (rules : List Rule) → list_any (bytes_eq name) (map (λ (r : Rule). r.name) rules) ≡ true → is_some_rule (find_rule rules name) ≡ true
named_found name [] h = cc
named_found name (r ∷ rules) h = at (bytes_eq r.name name) refl (or_cases (bytes_eq name r.name) (list_any (bytes_eq name) (map (λ (r : Rule). r.name) rules)) h) (λ k. named_found name rules k)
  where
    at : (b : Bool) → bytes_eq r.name name ≡ b → (bytes_eq name r.name ≡ true) ⊎ (list_any (bytes_eq name) (map (λ (r : Rule). r.name) rules) ≡ true)
        → (list_any (bytes_eq name) (map (λ (r : Rule). r.name) rules) ≡ true → is_some_rule (find_rule rules name) ≡ true) → is_some_rule (if b then Some r else find_rule rules name) ≡ true
    at true e h more = refl
    at false e (inl k) more = let z : true ≡ false = sym (equal_bytes r.name name (sym (same_bytes name r.name k))) ∙ e in cc
    at false e (inr k) more = more k

pub found_word : (table : Table) (name : List ℕ) → is_some_rule (find_rule table.elements name) ≡ true → list_any (bytes_eq name) (names_of table) ≡ true
found_word table name h = found_named name table.elements h

pub word_found : (table : Table) (name : List ℕ) → list_any (bytes_eq name) (names_of table) ≡ true → is_some_rule (find_rule table.elements name) ≡ true
word_found table name h = named_found name table.elements h

-- The law.

abbrev IsOne : Table → Piece → Type 0
IsOne table p = (tag : Tag) × ((p ≡ start_tag tag) ⊎ (p ≡ empty_tag tag)) × IsLooseTag table tag

-- a loose tag with these bytes
pub record IsTagOf (table : Table) (bytes : List ℕ) : Type 0 where
  pub piece : Piece
  pub one : IsOne table piece
  pub loose : (place : Place) → IsLoose table place piece
  pub leads : (place : Place) → after place piece ≡ behind 0
  pub is : loose_bytes piece ≡ bytes

pub shown : (table : Table) (bytes : List ℕ) → Matches (loose_tag_form (names_of table)) bytes → IsTagOf table bytes
shown table bytes d = let t = tag_into (names_of table) bytes ((tells_parts (names_of table)).shown bytes d) in at t t.closes
  where
    loose_tag : (t : IsTagText (names_of table) bytes) → IsLooseTag table t.tag
    loose_tag t = record { named = t.named; declared = word_found table t.tag.name t.among; attributes = t.attributes; blank_space = t.blank_space }

    at : (t : IsTagText (names_of table) bytes) → Closer t.closer → IsTagOf table bytes
    at t (inl e) = record {
      piece = start_tag t.tag;
      one = (t.tag, inl refl, loose_tag t);
      loose = λ place. loose_tag t;
      leads = λ place. refl;
      is = ap (λ (z : List ℕ). 60 ∷ tag_then t.tag z) e ∙ t.is;
    }
    at t (inr e) = record {
      piece = empty_tag t.tag;
      one = (t.tag, inr refl, loose_tag t);
      loose = λ place. loose_tag t;
      leads = λ place. refl;
      is = ap (λ (z : List ℕ). 60 ∷ tag_then t.tag z) e ∙ t.is;
    }

pub made : (table : Table) (tag : Tag) (closer : List ℕ) → Closer closer → IsLooseTag table tag → OfBytes (60 ∷ tag_then tag closer) → Matches (loose_tag_form (names_of table)) (60 ∷ tag_then tag closer)
made table tag closer c l b =
    (tells_parts (names_of table)).made (60 ∷ tag_then tag closer)
    (tag_from (names_of table) tag closer l.named (found_word table tag.name l.declared) l.attributes l.blank_space c b)

pub loose_tags_are_spelled : LooseTagsAreSpelled
loose_tags_are_spelled table bytes = (λ d. let q = shown table bytes d in (q.piece, q.one, subst OfBytes (sym q.is) (tag_bytes (names_of table) bytes d), q.is), λ q. subst (λ (z : List ℕ). Matches (loose_tag_form (names_of table)) z) q.3 (by q.0 q.1.0 q.1.1 q.1.2 q.2))
  where
    by : (p : Piece) (tag : Tag) → (p ≡ start_tag tag) ⊎ (p ≡ empty_tag tag) → IsLooseTag table tag → OfBytes (loose_bytes p) → Matches (loose_tag_form (names_of table)) (loose_bytes p)
    by p tag (inl e) l b =
        subst (λ (z : Piece). Matches (loose_tag_form (names_of table)) (loose_bytes z)) (sym e)
        (made table tag (codes ">") (inl refl) l (subst (λ (z : Piece). OfBytes (loose_bytes z)) e b))
    by p tag (inr e) l b =
        subst (λ (z : Piece). Matches (loose_tag_form (names_of table)) (loose_bytes z)) (sym e)
        (made table tag (codes "/>") (inr refl) l (subst (λ (z : Piece). OfBytes (loose_bytes z)) e b))
