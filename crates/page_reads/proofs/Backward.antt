-- What is read to an end is a lawful piece.
use Rattle.std.proofs.Common.{◌≡◌, ℕ, Bool, true, false, List, [], ◌∷◌, ◌++◌, refl, sym, ◌∙◌, ap}
use Rattle.std.specs.Prelude.{codes}
use Rattle.std.proofs.lemmas.Bool.{and_parts, and_from}
use Rattle.text_base.specs.declared.page_token.PageToken.{PageToken}
use Rattle.text_base.specs.declared.page_token.PageToken.TheVariants as token
use Rattle.xml_text.specs.Names.{begins_name}
use Rattle.dtd_model.specs.References.{Reference, is_reference, is_known}
use Rattle.dtd_model.specs.Table.{Table}
use Rattle.page_model.specs.PageTokens.{IsLawful, piece_tokens}
use Rattle.page_model.specs.Parts.{Leaf, tag_then, character, reference, section, comment, instruction, reference_of}
use Rattle.page_model.specs.Pieces.{Piece, mark, declaration, doctype, start_tag, empty_tag, end_tag, leaf, piece_then, may_follow, after}
use Rattle.page_model.specs.Places.{Place, at_beginning, behind_mark, behind, is_early}
use Rattle.page_model.proofs.Appended.{piece_more}
use Rattle.piece_steps.specs.Readers.{whole}
use Rattle.piece_steps.specs.Reads.{Begins}
use Rattle.page_steps.specs.PageSteps.{page_language}
use Rattle.page_insides.specs.Laws.{settle, Ended, IsReferenceThen}
use Rattle.page_insides.proofs.Leaves.{comments_read, sections_read, doctypes_read}
use Rattle.page_insides.proofs.References.{references_read}
use Rattle.tag_steps.specs.Laws.{HasLawfulKinds, end_then, tag_tokens, IsTagThen, IsEndThen}
use Rattle.tag_steps.proofs.StartTags.{start_tags_read}
use Rattle.tag_steps.proofs.EndTags.{end_tags_read}
use Rattle.opener_steps.specs.Laws.{read_first, Begun, less, ampersand, order_mark, text, comment_bang, section_bang, doctype_bang, Opened, bang, question, slash, name}
use Rattle.opener_steps.proofs.First.{first_read}
use Rattle.opener_steps.proofs.Openers.{openers_read}
use Rattle.target_steps.specs.Laws.{Targeted, instruction as instruction_there, declaration as declaration_there}
use Rattle.target_steps.proofs.Targets.{targets_read}
use Rattle.declaration_steps.proofs.Declarations.{declarations_read}
use Rattle.page_reads.proofs.Bodies.{read_spelled}

abbrev Is : Table → Place → List ℕ → Place → List PageToken → List ℕ → Type 0
Is table place cs next given rest = Begins (page_language table) place cs next given rest

begins : (table : Table) (place : Place) (p : Piece) (cs : List ℕ) (next : Place) (given : List PageToken) (rest : List ℕ) → IsLawful table place p → piece_then p rest ≡ cs → after place p ≡ next → piece_tokens table p ≡ given → Is table place cs next given rest
begins table place p cs next given rest h e k t = record { piece = p; lawful = h; spelled = sym (piece_more p rest) ∙ e; leads = k; gives = t }

from_early : (place : Place) → is_early (settle place) ≡ true → is_early place ≡ true
from_early at_beginning e = refl
from_early behind_mark e = refl
from_early (behind k) e = cc

from_tag : (table : Table) (place next : Place) (cs : List ℕ) (given : List PageToken) (rest : List ℕ) → IsTagThen table cs rest next given → Is table place (60 ∷ cs) next given rest
from_tag table place next cs given rest t = at t.empty t.spelled t.gives
  where
    at : (empty : Bool) → tag_then t.tag (end_then empty rest) ≡ cs → given ≡ tag_tokens table empty t.tag.name → Is table place (60 ∷ cs) next given rest
    at false e g = begins table place (start_tag t.tag) (60 ∷ cs) next given rest (record { is = t.is; allowed = t.fits }) (ap (λ (w : List ℕ). 60 ∷ w) e) (sym t.leads) (sym g)
    at true e g = begins table place (empty_tag t.tag) (60 ∷ cs) next given rest (record { is = t.is; allowed = t.fits }) (ap (λ (w : List ℕ). 60 ∷ w) e) (sym t.leads) (sym g)

from_end : (table : Table) (place next : Place) (cs : List ℕ) (given : List PageToken) (rest : List ℕ) → IsEndThen table cs rest next given → Is table place (60 ∷ 47 ∷ cs) next given rest
from_end table place next cs given rest t =
    begins table place (end_tag t.name t.space) (60 ∷ 47 ∷ cs) next given rest (record { is = (t.named, t.blank); allowed = t.declared }) (ap (λ (w : List ℕ). 60 ∷ 47 ∷ w) t.spelled) (sym t.leads) (sym t.gives)

from_target : (table : Table) (place next : Place) (cs : List ℕ) (given : List PageToken) (rest : List ℕ) → Targeted table place next given rest cs → Is table place (60 ∷ 63 ∷ cs) next given rest
from_target table place next _ given rest (instruction_there target chars h k t) =
    begins table place (leaf (instruction target chars)) (60 ∷ 63 ∷ (target ++ (chars ++ (codes "?>" ++ rest)))) next given rest (record { is = (any place, h); allowed = refl }) refl (sym k) (sym t)
  where
    any : (place : Place) → may_follow place (instruction target chars) ≡ true
    any at_beginning = refl
    any behind_mark = refl
    any (behind k) = refl
from_target table place next _ given rest (declaration_there b left blank early e) =
    let d = declarations_read.sound table place next b left given rest blank e in
    begins table place (declaration d.declared) (60 ∷ 63 ∷ (codes "xml" ++ b ∷ left)) next given rest (record { is = (from_early place early, d.is); allowed = refl }) (ap (λ (w : List ℕ). codes "<?xml" ++ w) d.spelled) (sym d.leads) (sym d.gives)

follows : (place : Place) (l : Leaf) → Type 0
follows place l = may_follow place l ≡ true

follows_reference : (place : Place) (r : Reference) → follows place (reference r)
unfolding follows
follows_reference at_beginning r = refl
follows_reference behind_mark r = refl
follows_reference (behind k) r = refl

follows_section : (place : Place) (chars : List ℕ) → follows place (section chars)
unfolding follows
follows_section at_beginning chars = refl
follows_section behind_mark chars = refl
follows_section (behind k) chars = refl

follows_comment : (place : Place) (chars : List ℕ) → follows place (comment chars)
unfolding follows
follows_comment at_beginning chars = refl
follows_comment behind_mark chars = refl
follows_comment (behind k) chars = refl

from_less : (table : Table) → HasLawfulKinds table → (place next : Place) (cs : List ℕ) (given : List PageToken) (rest : List ℕ) → Opened table place (whole next given rest) cs → Is table place (60 ∷ cs) next given rest
unfolding follows
from_less table kinds place next _ given rest (bang comment_bang cs left e r) =
    let c = comments_read.sound table place next left given rest r in
    begins table place (leaf (comment c.is.text)) (60 ∷ cs) next given rest (record { is = (follows_comment place c.is.text, c.is.is); allowed = refl }) (ap (λ (w : List ℕ). codes "<!--" ++ w) c.is.spelled ∙ sym e) (sym c.leads) (sym c.gives)
from_less table kinds place next _ given rest (bang section_bang cs left e r) =
    let c = sections_read.sound table place next left given rest r in
    begins table place (leaf (section c.is.text)) (60 ∷ cs) next given rest (record { is = (follows_section place c.is.text, c.is.is); allowed = refl }) (ap (λ (w : List ℕ). codes "<![CDATA[" ++ w) c.is.spelled ∙ sym e) (sym c.leads) (sym c.gives)
from_less table kinds place next _ given rest (bang doctype_bang cs left e r) =
    let c = doctypes_read.sound table place next left given rest r in
    begins table place (doctype c.is.declared) (60 ∷ cs) next given rest (record { is = c.is.is; allowed = c.is.fits }) (ap (λ (w : List ℕ). codes "<!DOCTYPE" ++ w) c.is.spelled ∙ sym e) (sym c.leads) (sym c.gives)
from_less table kinds place next _ given rest (question left r) = from_target table place next left given rest (targets_read.sound table place next left given rest r)
from_less table kinds place next _ given rest (slash left r) = from_end table place next left given rest (end_tags_read.sound table place next left given rest r)
from_less table kinds place next _ given rest (name n left b r) = from_tag table place next (n ∷ left) given rest (start_tags_read.sound table kinds place next n left given rest (and_from (begins_name n) true b refl) r)

from_ampersand : (table : Table) (place next : Place) (cs : List ℕ) (given : List PageToken) (rest : List ℕ) → Ended (IsReferenceThen table) (token.Text ∷ []) cs next given rest → Is table place (38 ∷ cs) next given rest
unfolding follows
from_ampersand table place next cs given rest r =
    let p = and_parts (is_reference (reference_of r.is.body)) (is_known table.entities (reference_of r.is.body)) r.is.right in
    begins table place (leaf (reference (reference_of r.is.body))) (38 ∷ cs) next given rest (record { is = (follows_reference place (reference_of r.is.body), p.0); allowed = p.1 }) (read_spelled r.is.body rest ∙ ap (λ (w : List ℕ). 38 ∷ w) r.is.spelled) (sym r.leads) (sym r.gives)

from_begun : (table : Table) → HasLawfulKinds table → (place next : Place) (cs : List ℕ) (given : List PageToken) (rest : List ℕ) → Begun table place cs next given rest → Is table place cs next given rest
from_begun table kinds place _ _ _ _ (less cs next given rest e) = from_less table kinds place next cs given rest (openers_read.sound table place next cs given rest e)
from_begun table kinds place _ _ _ _ (ampersand cs next given rest e) = from_ampersand table place next cs given rest (references_read.sound table place next cs given rest e)
from_begun table kinds place _ _ _ _ (order_mark rest e) = begins table place mark (0xFEFF ∷ rest) behind_mark [] rest (record { is = e; allowed = refl }) refl refl refl
from_begun table kinds place _ _ _ _ (text c rest f p) = begins table place (leaf (character c)) (c ∷ rest) _ _ rest (record { is = (f, p); allowed = refl }) refl refl refl

pub nothing_else : (table : Table) → HasLawfulKinds table → (place next : Place) (cs : List ℕ) (given : List PageToken) (rest : List ℕ) → read_first table place cs ≡ whole next given rest → Is table place cs next given rest
nothing_else table kinds place next cs given rest e = from_begun table kinds place next cs given rest (first_read.sound table place next cs given rest e)
