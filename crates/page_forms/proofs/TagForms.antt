-- Start tags and tags of empty elements.
use Rattle.std.proofs.Common.{◌≡◌, ℕ, Bool, true, false, List, [], ◌∷◌, ◌++◌, refl, sym, ◌∙◌, ap, subst, append_assoc, length}
use Rattle.std.specs.Prelude.{nat_lt, nat_le, ◌&&◌, map, codes}
use Rattle.std.specs.List.{list_all}
use Rattle.std.proofs.lemmas.Bool.{and_parts, and_from}
use Rattle.xml_text.specs.Characters.{is_blank}
use Rattle.xml_text.specs.Names.{is_name}
use Rattle.dtd_model.specs.Lawful.{is_distinct, is_lawful_kind, are_names, are_lawful_attributes, attribute_limit}
use Rattle.dtd_model.specs.References.{is_known}
use Rattle.dtd_model.specs.Table.{Declared, Rule}
use Rattle.page_model.specs.Attributes.{attributes_fit, is_declared, is_once, all_there}
use Rattle.page_model.specs.Parts.{Attribute, attribute_then, attributes_then, Tag, tag_then, IsTag, refers_by}
use Rattle.page_model.specs.Pieces.{Piece, start_tag, empty_tag, piece_then}
use Rattle.page_forms.specs.Laws.{StartTagsAreSpelled, EmptyTagsAreSpelled}
use Rattle.page_forms.specs.Tags.{tag_form, start_tag_form, empty_tag_form}
use Rattle.page_forms.proofs.NameForms.{spells_blanks}
use Rattle.page_forms.proofs.Picking.{AreFit, AreLawfulEach, Distinct, attribute_behind, spells_attributes, distinct_names, lawful_each}
use Rattle.page_forms.proofs.Spelling.{Spells, Chained, put_together, spells_chain, spells_word, spells_as, is_form_of}
use Rattle.page_forms.proofs.WordForms.{name_ascii}

-- a tag that is as declared, with what closes it
record IsTagBy (closer : List ℕ) (entities : List (List ℕ)) (rule : Rule) (cs : List ℕ) : Type 0 where
  tag : Tag
  written : IsTag tag
  named : tag.name ≡ rule.name
  fits : attributes_fit entities rule.name rule.attributes tag.attributes ≡ true
  is : 60 ∷ tag_then tag closer ≡ cs

abbrev Blank : List ℕ → Type 0
Blank cs = list_all is_blank cs ≡ true

abbrev Parts : List ℕ → List (List ℕ) → Rule → List ℕ → Type 0
Parts closer entities rule =
    Chained (λ cs. codes "<" ≡ cs)
    (Chained (λ cs. rule.name ≡ cs) (Chained (AreFit entities rule.name rule.attributes) (Chained Blank (λ cs. closer ≡ cs))))

pub attributes_behind : (xs : List Attribute) (rest : List ℕ) → attributes_then xs rest ≡ attributes_then xs [] ++ rest
attributes_behind [] rest = refl
attributes_behind (x ∷ xs) rest =
    ap (attribute_then x) (attributes_behind xs rest)
    ∙ attribute_behind x (attributes_then xs [] ++ rest)
    ∙ sym (append_assoc (attribute_then x []) (attributes_then xs []) rest)
    ∙ ap (λ (z : List ℕ). z ++ rest) (sym (attribute_behind x (attributes_then xs [])))

into : (closer : List ℕ) (entities : List (List ℕ)) (rule : Rule) → is_name rule.name ≡ true → (cs : List ℕ) → Parts closer entities rule cs → IsTagBy closer entities rule cs
into closer entities rule h cs a =
    let b = a.goes_on in
    let c = b.goes_on in
    let f = c.begins in
    let e = c.goes_on in
    let tag : Tag = record { name = rule.name; attributes = f.attributes; space = e.first } in
    record {
      tag = tag;
      written = record { named = h; attributes = f.written; blank_space = e.begins };
      named = refl;
      fits = and_from
          (list_all (λ (a : Attribute). refers_by (is_known entities) a.value) f.attributes && list_all (is_declared rule.attributes) f.attributes && is_once f.attributes) (all_there rule.name rule.attributes f.attributes)
          (and_from (list_all (λ (a : Attribute). refers_by (is_known entities) a.value) f.attributes && list_all (is_declared rule.attributes) f.attributes) (is_once f.attributes)
          (and_from (list_all (λ (a : Attribute). refers_by (is_known entities) a.value) f.attributes) (list_all (is_declared rule.attributes) f.attributes) f.known f.declared) f.once) f.there;
      is = put_together a.begins (put_together b.begins (attributes_behind f.attributes (e.first ++ closer) ∙ put_together f.is (put_together refl e.goes_on e.is) c.is) b.is) a.is;
    }

from : (closer : List ℕ) (entities : List (List ℕ)) (rule : Rule) (cs : List ℕ) → IsTagBy closer entities rule cs → Parts closer entities rule cs
from closer entities rule cs t =
    let x = t.tag in
    let p = and_parts (list_all (λ (a : Attribute). refers_by (is_known entities) a.value) x.attributes && list_all (is_declared rule.attributes) x.attributes && is_once x.attributes) (all_there rule.name rule.attributes x.attributes) t.fits in
    let q = and_parts (list_all (λ (a : Attribute). refers_by (is_known entities) a.value) x.attributes && list_all (is_declared rule.attributes) x.attributes) (is_once x.attributes) p.0 in
    let r = and_parts (list_all (λ (a : Attribute). refers_by (is_known entities) a.value) x.attributes) (list_all (is_declared rule.attributes) x.attributes) q.0 in
    record {
      first = codes "<";
      second = tag_then x closer;
      begins = refl;
      goes_on = record {
        first = x.name;
        second = attributes_then x.attributes (x.space ++ closer);
        begins = sym t.named;
        goes_on = record {
          first = attributes_then x.attributes [];
          second = x.space ++ closer;
          begins = record { attributes = x.attributes; written = t.written.attributes; known = r.0; declared = r.1; once = q.1; there = p.1; is = refl };
          goes_on = record { first = x.space; second = closer; begins = t.written.blank_space; goes_on = refl; is = refl };
          is = sym (attributes_behind x.attributes (x.space ++ closer));
        };
        is = refl;
      };
      is = t.is;
    }

-- a lawful list of declarations
record AreLawful (ds : List Declared) : Type 0 where
  each : AreLawfulEach ds
  distinct : Distinct ds

lawful_are : (ds : List Declared) → are_lawful_attributes ds ≡ true → AreLawful ds
lawful_are ds h =
    let names = map (λ (d : Declared). d.name) ds in
    let p = and_parts (nat_le (length ds) attribute_limit && are_names names) (list_all (λ (d : Declared). is_lawful_kind d.kind) ds) h in
    let q = and_parts (nat_le (length ds) attribute_limit) (are_names names) p.0 in
    let r = and_parts (is_distinct names) (list_all is_name names) q.1 in
    record { each = lawful_each ds r.1 p.1; distinct = distinct_names ds r.0 }

spells_tag : (closer : List ℕ) → list_all (λ c. nat_lt c 128) closer ≡ true → (entities : List (List ℕ)) (rule : Rule) → is_name rule.name ≡ true → are_lawful_attributes rule.attributes ≡ true
    → Spells (tag_form closer entities rule) (IsTagBy closer entities rule)
spells_tag closer small entities rule h l =
    let k = lawful_are rule.attributes l in
    spells_as
    (spells_chain (spells_word (codes "<") refl)
    (spells_chain (spells_word rule.name (name_ascii rule.name h))
    (spells_chain (spells_attributes entities rule.name rule.attributes k.each k.distinct) (spells_chain spells_blanks (spells_word closer small)))))
    (into closer entities rule h) (from closer entities rule)

pub start_tags_are_spelled : StartTagsAreSpelled
unfolding start_tag_form
start_tags_are_spelled entities rule h l = is_form_of (spells_as (spells_tag (codes ">") refl entities rule h l) put take)
  where
    put : (cs : List ℕ) → IsTagBy (codes ">") entities rule cs → (p : Piece) × ((tag : Tag) × (p ≡ start_tag tag) × IsTag tag × (tag.name ≡ rule.name) × (attributes_fit entities rule.name rule.attributes tag.attributes ≡ true)) × (piece_then p [] ≡ cs)
    put cs t = (start_tag t.tag, (t.tag, refl, t.written, t.named, t.fits), t.is)

    take : (cs : List ℕ) → ((p : Piece) × ((tag : Tag) × (p ≡ start_tag tag) × IsTag tag × (tag.name ≡ rule.name) × (attributes_fit entities rule.name rule.attributes tag.attributes ≡ true)) × (piece_then p [] ≡ cs)) → IsTagBy (codes ">") entities rule cs
    take cs q = record { tag = q.1.0; written = q.1.2; named = q.1.3; fits = q.1.4; is = sym (ap (λ (z : Piece). piece_then z []) q.1.1) ∙ q.2 }

pub empty_tags_are_spelled : EmptyTagsAreSpelled
unfolding empty_tag_form
empty_tags_are_spelled entities rule h l = is_form_of (spells_as (spells_tag (codes "/>") refl entities rule h l) put take)
  where
    put : (cs : List ℕ) → IsTagBy (codes "/>") entities rule cs → (p : Piece) × ((tag : Tag) × (p ≡ empty_tag tag) × IsTag tag × (tag.name ≡ rule.name) × (attributes_fit entities rule.name rule.attributes tag.attributes ≡ true)) × (piece_then p [] ≡ cs)
    put cs t = (empty_tag t.tag, (t.tag, refl, t.written, t.named, t.fits), t.is)

    take : (cs : List ℕ) → ((p : Piece) × ((tag : Tag) × (p ≡ empty_tag tag) × IsTag tag × (tag.name ≡ rule.name) × (attributes_fit entities rule.name rule.attributes tag.attributes ≡ true)) × (piece_then p [] ≡ cs)) → IsTagBy (codes "/>") entities rule cs
    take cs q = record { tag = q.1.0; written = q.1.2; named = q.1.3; fits = q.1.4; is = sym (ap (λ (z : Piece). piece_then z []) q.1.1) ∙ q.2 }
