-- Each lawful piece is read to its end, whatever stands behind it.
use Rattle.std.proofs.Common.{◌≡◌, ℕ, Bool, true, false, List, [], ◌∷◌, ◌++◌, Some, refl, sym, ◌∙◌, ap, subst}
use Rattle.std.specs.Prelude.{codes}
use Rattle.std.specs.List.{list_all}
use Rattle.std.proofs.lemmas.Bool.{and_parts, and_from}
use Rattle.text_base.specs.declared.page_token.PageToken.TheVariants as token
use Rattle.xml_text.specs.Characters.{is_blank}
use Rattle.xml_text.specs.Names.{begins_name, in_name, is_name}
use Rattle.dtd_model.specs.References.{Reference, entity, is_reference, is_known}
use Rattle.dtd_model.specs.Table.{Table}
use Rattle.page_model.specs.Attributes.{is_allowed, tag_fits}
use Rattle.page_model.specs.PageTokens.{IsLawful, piece_tokens}
use Rattle.page_model.specs.Parts.{Attribute, attributes_then, AreAttributes, reference_of, Tag, tag_then, IsTag, Leaf, character, reference, section, comment, instruction}
use Rattle.page_model.specs.Pieces.{Piece, mark, declaration, doctype, start_tag, empty_tag, end_tag, leaf, piece_then, after}
use Rattle.page_model.specs.Places.{Place, at_beginning, behind_mark, behind, is_early}
use Rattle.page_model.specs.Prolog.{Declaration, IsDeclaration, is_in_order}
use Rattle.piece_steps.specs.Readers.{whole}
use Rattle.page_model.specs.Fronts.{in_opener, in_target}
use Rattle.reference_steps.specs.Laws.{is_right_reference}
use Rattle.doctype_steps.specs.Laws.{inside_then}
use Rattle.page_insides.specs.Laws.{settle, read, ends_with}
use Rattle.page_insides.proofs.Leaves.{comments_read, sections_read, doctypes_read}
use Rattle.page_insides.proofs.References.{references_read}
use Rattle.tag_steps.specs.Laws.{HasLawfulKinds, end_then, tag_tokens}
use Rattle.tag_steps.proofs.StartTags.{start_tags_read}
use Rattle.tag_steps.proofs.EndTags.{end_tags_read}
use Rattle.opener_steps.specs.Laws.{read_first, comment_bang, section_bang, doctype_bang}
use Rattle.opener_steps.proofs.First.{first_read}
use Rattle.opener_steps.proofs.Openers.{openers_read}
use Rattle.target_steps.proofs.Targets.{targets_read}
use Rattle.declaration_steps.specs.Laws.{words_then}
use Rattle.declaration_steps.proofs.Declarations.{declarations_read}
use Rattle.page_reads.proofs.Bodies.{body_of, then_body, body_free, body_read}

abbrev IsRead : Table → Place → Piece → List ℕ → Type 0
IsRead table place p rest = read_first table place (piece_then p rest) ≡ whole (after place p) (piece_tokens table p) rest

-- a name begins a tag
record Led (text : List ℕ) : Type 0 where
  first : ℕ
  more : List ℕ
  is : text ≡ first ∷ more
  begins : begins_name first ≡ true

named : (name rest : List ℕ) → is_name name ≡ true → Led (name ++ rest)
named [] rest h = cc
named (c ∷ cs) rest h = record { first = c; more = cs ++ rest; is = refl; begins = (and_parts (begins_name c) (list_all in_name cs) h).0 }

tags : (table : Table) → HasLawfulKinds table → (place : Place) (tag : Tag) (empty : Bool) (rest : List ℕ) → IsTag tag → tag_fits table tag ≡ true → read_first table place (60 ∷ tag_then tag (end_then empty rest)) ≡ ends_with (tag_tokens table empty tag.name) rest
tags table kinds place tag empty rest h fits =
    let n = named tag.name (attributes_then tag.attributes (tag.space ++ end_then empty rest)) h.named in
    first_read.at_less table place (tag_then tag (end_then empty rest))
    ∙ ap (λ (w : List ℕ). read table place (in_opener (codes "<")) w) n.is
    ∙ openers_read.at_name table place n.first n.more n.begins
    ∙ start_tags_read.complete table kinds place tag empty n.first n.more rest h fits n.is

record Blank (text : List ℕ) : Type 0 where
  first : ℕ
  more : List ℕ
  is : text ≡ first ∷ more
  blank : is_blank first ≡ true

spaced : (xs : List Attribute) (rest : List ℕ) → AreAttributes xs → is_in_order xs ≡ true → Blank (attributes_then xs rest)
spaced [] rest h e = cc
spaced (x ∷ xs) rest h e = at x.space h.0.some_space h.0.blank_space
  where
    at : (ws : List ℕ) → (ws ≡ [] → ⊥) → list_all is_blank ws ≡ true → Blank (ws ++ (x.name ++ (x.before_equals ++ 61 ∷ (x.after_equals ++ x.quote ∷ (x.value ++ x.quote ∷ attributes_then xs rest)))))
    at [] some all = absurd (some refl)
    at (w ∷ ws) some all = record { first = w; more = _; is = refl; blank = (and_parts (is_blank w) (list_all is_blank ws) all).0 }

early : (place : Place) → is_early place ≡ true → is_early (settle place) ≡ true
early at_beginning e = refl
early behind_mark e = refl
early (behind k) e = cc

declared : (table : Table) (place : Place) (d : Declaration) (rest : List ℕ) → is_early place ≡ true → IsDeclaration d → IsRead table place (declaration d) rest
declared table place d rest e h =
    let b = spaced d.attributes (d.space ++ (codes "?>" ++ rest)) h.attributes h.in_order in
    first_read.at_less table place (codes "?xml" ++ words_then d rest)
    ∙ openers_read.at_question table place (codes "xml" ++ words_then d rest)
    ∙ ap (λ (w : List ℕ). read table place (in_target (Some [])) (codes "xml" ++ w)) b.is
    ∙ targets_read.at_declaration table place b.first b.more b.blank (early place e)
    ∙ declarations_read.complete table place d b.first b.more rest h b.blank b.is

right : (table : Table) (r : Reference) → is_reference r ≡ true → is_known table.entities r ≡ true → is_right_reference table.entities (reference_of (body_of r)) ≡ true
right table r h k = ap (is_right_reference table.entities) (body_read r h) ∙ and_from (is_reference r) (is_known table.entities r) h k

-- a reference is no entity that is not known
known : (table : Table) (r : Reference) → is_allowed table (leaf (reference r)) ≡ true → is_known table.entities r ≡ true
known table r h = h

leaves : (table : Table) (place : Place) (l : Leaf) (rest : List ℕ) → IsLawful table place (leaf l) → IsRead table place (leaf l) rest
leaves table place (character c) rest h = first_read.at_text table place c rest h.is.0 h.is.1
leaves table place (reference r) rest h =
    ap (read_first table place) (then_body r rest)
    ∙ first_read.at_ampersand table place (body_of r ++ 59 ∷ rest)
    ∙ references_read.complete table place (body_of r ++ 59 ∷ rest) rest (record { body = body_of r; spelled = refl; free = body_free r h.is.1; right = right table r h.is.1 (known table r h.allowed) })
leaves table place (section text) rest h =
    first_read.at_less table place (codes "![CDATA[" ++ (text ++ (codes "]]>" ++ rest)))
    ∙ openers_read.at_bang table place section_bang (codes "![CDATA[" ++ (text ++ (codes "]]>" ++ rest))) (text ++ (codes "]]>" ++ rest)) refl
    ∙ sections_read.complete table place (text ++ (codes "]]>" ++ rest)) rest (record { text = text; spelled = refl; is = h.is.1 })
leaves table place (comment text) rest h =
    first_read.at_less table place (codes "!--" ++ (text ++ (codes "-->" ++ rest)))
    ∙ openers_read.at_bang table place comment_bang (codes "!--" ++ (text ++ (codes "-->" ++ rest))) (text ++ (codes "-->" ++ rest)) refl
    ∙ comments_read.complete table place (text ++ (codes "-->" ++ rest)) rest (record { text = text; spelled = refl; is = h.is.1 })
leaves table place (instruction target text) rest h =
    first_read.at_less table place (63 ∷ (target ++ (text ++ (codes "?>" ++ rest))))
    ∙ openers_read.at_question table place (target ++ (text ++ (codes "?>" ++ rest)))
    ∙ targets_read.at_instruction table place target text rest h.is.1

pub each_is_read : (table : Table) → HasLawfulKinds table → (place : Place) (p : Piece) (rest : List ℕ) → IsLawful table place p → IsRead table place p rest
each_is_read table kinds place mark rest h = subst (λ (q : Place). read_first table q (0xFEFF ∷ rest) ≡ whole behind_mark [] rest) (sym h.is) (first_read.at_mark table rest)
each_is_read table kinds place (declaration d) rest h = declared table place d rest h.is.0 h.is.1
each_is_read table kinds place (doctype d) rest h =
    let inside = inside_then d rest in
    first_read.at_less table place (codes "!DOCTYPE" ++ inside)
    ∙ openers_read.at_bang table place doctype_bang (codes "!DOCTYPE" ++ inside) inside refl
    ∙ doctypes_read.complete table place inside rest (record { declared = d; spelled = refl; is = h.is; fits = h.allowed })
each_is_read table kinds place (start_tag tag) rest h = tags table kinds place tag false rest h.is h.allowed
each_is_read table kinds place (empty_tag tag) rest h = tags table kinds place tag true rest h.is h.allowed
each_is_read table kinds place (end_tag name space) rest h =
    first_read.at_less table place (47 ∷ (name ++ (space ++ 62 ∷ rest)))
    ∙ openers_read.at_slash table place (name ++ (space ++ 62 ∷ rest))
    ∙ end_tags_read.complete table place name space rest h.is.0 h.is.1 h.allowed
each_is_read table kinds place (leaf l) rest h = leaves table place l rest h
