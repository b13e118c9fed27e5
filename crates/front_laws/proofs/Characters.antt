-- The state of the reader of a page behind characters, by what is open.
use Rattle.std.proofs.Common.{◌≡◌, ℕ, Bool, true, false, List, [], ◌∷◌, ◌++◌, Option, Some, None, refl, sym, ◌∙◌, ap, subst}
use Rattle.std.specs.Prelude.{if◌then◌else◌, codes}
use Rattle.text_base.specs.declared.page_token.PageToken.{PageToken}
use Rattle.xml_text.specs.Characters.{is_character}
use Rattle.dtd_model.specs.Table.{Table}
use Rattle.page_model.specs.Parts.{attributes_then}
use Rattle.page_model.specs.Places.{Place, at_beginning, behind_mark, behind}
use Rattle.piece_steps.specs.Readers.{Move, go, done, fail, next}
use Rattle.page_model.specs.Fronts.{Open, nothing, in_reference, in_opener, in_tag_name, in_tag, at_empty_end, in_end_tag, in_comment, in_section, in_target, behind_target, in_instruction, in_declaration, at_declaration_end, in_doctype, kept_place, BehindAttributes, BehindWords, InInstruction, OpenStands}
use Rattle.page_model.specs.OpenDoctypes.{before_root}
use Rattle.page_model.specs.OpenValues.{in_entity}
use Rattle.page_steps.specs.PageSteps.{OpenMove, open_move, PageState, put_place, page_step, page_reader, is_inside}
use Rattle.page_reads.specs.Laws.{IsLawfulTable}
use Rattle.page_insides.specs.Laws.{settle}
use Rattle.page_insides.proofs.Settled.{at_open, kept_is, kept_settled}
use Rattle.page_step_laws.proofs.Opened.{all_open}
use Rattle.front_laws.proofs.Folds.{Folds, same, here, on, somewhere, Led, Embeds, embedded, any_symbol, all_any}
use Rattle.front_laws.proofs.Pages.{goes, open_step, Leads, more, go_on}
use Rattle.front_laws.proofs.Remarks.{comments, sections}
use Rattle.front_laws.proofs.References.{references}
use Rattle.front_laws.proofs.Tags.{tag_names, in_tags, empty_ends, end_tags}
use Rattle.front_laws.proofs.Openers.{openers, first_less}
use Rattle.front_laws.proofs.Targets.{targets, behind_targets, in_instructions, in_declarations, declaration_ends}
use Rattle.front_laws.proofs.Doctypes.{doctypes}

abbrev pub char_step : Table → PageState → ℕ → Option PageState
char_step table s c = goes ((page_reader table).step s c)

-- Inside a piece the place is settled.

page_embeds : (table : Table) (place : Place) → Embeds (open_step table (settle place)) (char_step table) (at_open place) any_symbol
unfolding page_step
page_embeds table place o c z h e = at (is_character c) refl (open_move table (settle place) o c) refl e
  where
    at : (x : Bool) → is_character c ≡ x → (m : OpenMove) → open_move table (settle place) o c ≡ m → (let n : Move Place PageToken PageState = if x then put_place (settle place) m else fail in goes n) ≡ Some z → Led (open_step table (settle place)) (at_open place) o c z
    at true q (go g) k e = record {
      g = g;
      led = ap (λ (b : Bool). if b then goes (open_move table (settle place) o c) else None) q ∙ ap goes k;
      is = sym (same _ z e) ∙ ap (λ (p : Place). record { place = p; inside = g }) (kept_settled g place ((all_open table (settle place) o c).opens g k));
    }
    at true q (done next tokens) k e = cc
    at true q fail k e = cc
    at false q m k e = cc

inside_leads : (table : Table) (place : Place) (o w : Open) (text : List ℕ) → Leads table (settle place) o text w → Folds (char_step table) (at_open place o) text (at_open place w)
inside_leads table place o w text f = embedded (at_open place) any_symbol (page_embeds table place) (all_any text) f.folds

abbrev first_state : Place → PageState
first_state place = record { place = place; inside = nothing }

abbrev Reads : Table → Place → List ℕ → Open → Type 0
Reads table place cs o = Folds (char_step table) (first_state place) cs (record { place = kept_place o [] place; inside = o })

first_kept : (place : Place) → place ≡ kept_place nothing [] place
first_kept at_beginning = refl
first_kept behind_mark = refl
first_kept (behind k) = refl

-- behind `<`
behind_less : (table : Table) (place : Place) (o : Open) (cs : List ℕ) → is_inside o ≡ true → Leads table (settle place) (in_opener (codes "<")) cs o → Reads table place (60 ∷ cs) o
unfolding page_step
behind_less table place o cs h f =
    on (somewhere (subst (λ (p : Place). Folds (char_step table) (record { place = p; inside = in_opener (codes "<") }) cs (record { place = kept_place o [] place; inside = o })) (sym (kept_is (in_opener (codes "<")) place refl))
    (subst (λ (p : Place). Folds (char_step table) (at_open place (in_opener (codes "<"))) cs (record { place = p; inside = o })) (sym (kept_is o place h)) (inside_leads table place (in_opener (codes "<")) o cs f))))

behind_ampersand : (table : Table) (place : Place) (o : Open) (cs : List ℕ) → is_inside o ≡ true → Leads table (settle place) (in_reference (in_entity [])) cs o → Reads table place (38 ∷ cs) o
unfolding page_step
behind_ampersand table place o cs h f =
    on (somewhere (subst (λ (p : Place). Folds (char_step table) (record { place = p; inside = in_reference (in_entity []) }) cs (record { place = kept_place o [] place; inside = o })) (sym (kept_is (in_reference (in_entity [])) place refl))
    (subst (λ (p : Place). Folds (char_step table) (at_open place (in_reference (in_entity []))) cs (record { place = p; inside = o })) (sym (kept_is o place h)) (inside_leads table place (in_reference (in_entity [])) o cs f))))

-- a comment, a section and a document type declaration, from their openers on
over_comment : (table : Table) (place : Place) (text : List ℕ) (w : Open) → Leads table place (in_comment 0) text w → Leads table place (in_opener (codes "<")) (codes "!--" ++ text) w
over_comment table place text w f = more (in_opener (codes "<")) 33 (go_on (more (in_opener (codes "<!")) 45 (go_on (more (in_opener (codes "<!-")) 45 (go_on f)))))

over_section : (table : Table) (place : Place) (text : List ℕ) (w : Open) → Leads table place (in_section 0) text w → Leads table place (in_opener (codes "<")) (codes "![CDATA[" ++ text) w
over_section table place text w f =
    more (in_opener (codes "<")) 33 (go_on (more (in_opener (codes "<!")) 91 (go_on (more (in_opener (codes "<![")) 67 (go_on (more (in_opener (codes "<![C")) 68 (go_on (more (in_opener (codes "<![CD")) 65
    (go_on (more (in_opener (codes "<![CDA")) 84 (go_on (more (in_opener (codes "<![CDAT")) 65 (go_on (more (in_opener (codes "<![CDATA")) 91 (go_on f)))))))))))))))

over_doctype : (table : Table) (place : Place) (text : List ℕ) (w : Open) → Leads table place (in_doctype (before_root false)) text w → Leads table place (in_opener (codes "<")) (codes "!DOCTYPE" ++ text) w
over_doctype table place text w f =
    more (in_opener (codes "<")) 33 (go_on (more (in_opener (codes "<!")) 68 (go_on (more (in_opener (codes "<!D")) 79 (go_on (more (in_opener (codes "<!DO")) 67 (go_on (more (in_opener (codes "<!DOC")) 84
    (go_on (more (in_opener (codes "<!DOCT")) 89 (go_on (more (in_opener (codes "<!DOCTY")) 80 (go_on (more (in_opener (codes "<!DOCTYP")) 69 (go_on f)))))))))))))))

from : (table : Table) (place : Place) (o : Open) (cs other : List ℕ) → cs ≡ other → Reads table place other o → Reads table place cs o
from table place o cs other e f = subst (λ (w : List ℕ). Reads table place w o) (sym e) f

-- where what is open stands, the reader has it open, if it goes on so far
pub reads_so : (table : Table) → IsLawfulTable table → (place : Place) (o : Open) (cs : List ℕ) → OpenStands table o cs → Reads table place cs o
reads_so table lawful place nothing cs e = from table place nothing cs [] e (here (ap (λ (p : Place). record { place = p; inside = nothing }) (first_kept place)))
reads_so table lawful place (in_reference r) cs (text, e, h) = from table place (in_reference r) cs (38 ∷ text) e (behind_ampersand table place (in_reference r) text refl (references table (settle place) r text h))
reads_so table lawful place (in_opener begun) [] (e, some, h) = absurd (some refl)
reads_so table lawful place (in_opener begun) (c ∷ cs) (e, some, h) =
    from table place (in_opener begun) (c ∷ cs) (60 ∷ cs) (ap (λ (x : ℕ). x ∷ cs) (first_less c cs h))
    (behind_less table place (in_opener begun) cs refl (subst (λ (x : List ℕ). Leads table (settle place) (in_opener (codes "<")) cs (in_opener x)) e (openers table (settle place) c cs h)))
reads_so table lawful place (in_tag_name name) cs (e, some, h) = from table place (in_tag_name name) cs (60 ∷ name) e (behind_less table place (in_tag_name name) name refl (tag_names table (settle place) name (some, h)))
reads_so table lawful place (in_tag name names o) cs (rule, rest, found, b, h) =
    let text = name ++ attributes_then b.attributes rest in
    from table place (in_tag name names o) cs (60 ∷ text) b.is
    (behind_less table place (in_tag name names o) text refl (in_tags table lawful (settle place) name names rule o text rest found (subst (λ (w : List ℕ). BehindAttributes table name names w rest) b.is b) h))
reads_so table lawful place (at_empty_end name names) cs (space, b, h) =
    let text = name ++ attributes_then b.attributes (space ++ codes "/") in
    from table place (at_empty_end name names) cs (60 ∷ text) b.is
    (behind_less table place (at_empty_end name names) text refl (empty_ends table lawful (settle place) name names text space (subst (λ (w : List ℕ). BehindAttributes table name names w (space ++ codes "/")) b.is b) h))
reads_so table lawful place (in_end_tag name spaced) cs (space, e, h, b, k) = from table place (in_end_tag name spaced) cs (60 ∷ 47 ∷ (name ++ space)) e (behind_less table place (in_end_tag name spaced) (47 ∷ (name ++ space)) refl (end_tags table (settle place) name space spaced h b k))
reads_so table lawful place (in_comment dashes) cs (text, e, h) =
    from table place (in_comment dashes) cs (60 ∷ (codes "!--" ++ text)) e
    (behind_less table place (in_comment dashes) (codes "!--" ++ text) refl (over_comment table (settle place) text (in_comment dashes) (subst (λ (n : ℕ). Leads table (settle place) (in_comment 0) text (in_comment n)) (sym h) (comments table (settle place) text 0))))
reads_so table lawful place (in_section brackets) cs (text, e, h) =
    from table place (in_section brackets) cs (60 ∷ (codes "![CDATA[" ++ text)) e
    (behind_less table place (in_section brackets) (codes "![CDATA[" ++ text) refl (over_section table (settle place) text (in_section brackets) (subst (λ (n : ℕ). Leads table (settle place) (in_section 0) text (in_section n)) (sym h) (sections table (settle place) text 0))))
reads_so table lawful place (in_target o) cs (target, e, h, k) =
    from table place (in_target o) cs (60 ∷ 63 ∷ target) e
    (behind_less table place (in_target o) (63 ∷ target) refl (subst (λ (x : Option (List ℕ)). Leads table (settle place) (in_opener (codes "<")) (63 ∷ target) (in_target x)) (sym k) (targets table (settle place) target h)))
reads_so table lawful place behind_target cs (target, e, h) = from table place behind_target cs (60 ∷ 63 ∷ (target ++ codes "?")) e (behind_less table place behind_target (63 ∷ (target ++ codes "?")) refl (behind_targets table (settle place) target h))
reads_so table lawful place (in_instruction asked) cs i =
    let text = 63 ∷ (i.target ++ i.blank ∷ i.text) in
    from table place (in_instruction asked) cs (60 ∷ text) i.is (behind_less table place (in_instruction asked) text refl (in_instructions table (settle place) asked text (subst (InInstruction asked) i.is i)))
reads_so table lawful place (in_declaration names o) cs (rest, b, h) =
    let text = 63 ∷ (codes "xml" ++ attributes_then b.attributes rest) in
    from table place (in_declaration names o) cs (60 ∷ text) b.is
    (behind_less table place (in_declaration names o) text refl (in_declarations table (settle place) names o text rest (subst (λ (w : List ℕ). BehindWords names w rest) b.is b) h))
reads_so table lawful place at_declaration_end cs (names, space, b, h) =
    let text = 63 ∷ (codes "xml" ++ attributes_then b.attributes (space ++ codes "?")) in
    from table place at_declaration_end cs (60 ∷ text) b.is
    (behind_less table place at_declaration_end text refl (declaration_ends table (settle place) names text space (subst (λ (w : List ℕ). BehindWords names w (space ++ codes "?")) b.is b) h))
reads_so table lawful place (in_doctype o) cs (text, e, h) =
    from table place (in_doctype o) cs (60 ∷ (codes "!DOCTYPE" ++ text)) e (behind_less table place (in_doctype o) (codes "!DOCTYPE" ++ text) refl (over_doctype table (settle place) text (in_doctype o) (doctypes table (settle place) o text h)))
