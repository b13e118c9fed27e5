-- Behind each character of a piece that goes on, something is open.
use Rattle.std.proofs.Common.{◌≡◌, ℕ, Bool, true, false, List, [], ◌∷◌, Option, Some, None, refl, sym, ◌∙◌, ap}
use Rattle.std.specs.Prelude.{if◌then◌else◌, nat_eq, nat_le, min, bytes_eq, codes, suc, not, ◌&&◌, ◌||◌, ◌++◌}
use Rattle.text_base.specs.declared.page_token.PageToken.{PageToken}
use Rattle.xml_text.specs.Characters.{is_blank, is_character}
use Rattle.xml_text.specs.Names.{begins_name, in_name, is_name}
use Rattle.dtd_model.specs.Table.{Rule, Table}
use Rattle.page_model.specs.Attributes.{find_rule}
use Rattle.page_model.specs.Places.{Place, at_beginning, behind_mark, behind, is_early}
use Rattle.page_model.specs.Parts.{character}
use Rattle.page_model.specs.Pieces.{may_follow}
use Rattle.piece_steps.specs.Insides.{Turn, on, out, stop, inside, closing}
use Rattle.piece_steps.specs.Readers.{Move, go, done, fail}
use Rattle.page_model.specs.Fronts.{Open, nothing, in_reference, in_opener, in_tag_name, in_tag, at_empty_end, in_end_tag, in_comment, in_section, in_target, behind_target, in_instruction, in_declaration, at_declaration_end, in_doctype, kept_place}
use Rattle.page_model.specs.OpenDoctypes.{before_root}
use Rattle.page_model.specs.OpenTags.{OpenAttribute, between}
use Rattle.page_model.specs.OpenValues.{in_entity}
use Rattle.page_steps.specs.AttributeSteps.{AttributeMove, stays, ends_with, leaves, stops, attribute_move}
use Rattle.page_steps.specs.DoctypeSteps.{begins, doctype_turn}
use Rattle.page_steps.specs.ReferenceSteps.{reference_step, reference_good}
use Rattle.page_steps.specs.TagSteps.{of_element, are_all, of_declaration}
use Rattle.page_steps.specs.PageSteps.{OpenMove, text_move, single_move, bang_move, less_move, tag_by, tag_move, empty_move, closed_move, end_name_move, more_target, may_be_target, is_reserved, is_xml, is_started, behind_move, question_move, declaration_by, open_move, PageState, put_place, page_step, is_inside}
use Rattle.page_step_laws.specs.Laws.{PiecesOpen}

-- where the move goes on, something is open
pub record Opens (m : OpenMove) : Type 0 where
  pub opens : (o : Open) → m ≡ go o → is_inside o ≡ true

goes : (o : Open) → is_inside o ≡ true → Opens (go o)
goes o h = record { opens = λ p e. ap is_inside (sym (same o p e)) ∙ h }
  where
    same : (o p : Open) → (let z : OpenMove = go o in z ≡ go p) → o ≡ p
    same o p e = cc

ends_it : (place : Place) (tokens : List PageToken) → Opens (done place tokens)
ends_it place tokens = record { opens = λ p e. other p e }
  where
    other : (p : Open) → (let z : OpenMove = done place tokens in z ≡ go p) → is_inside p ≡ true
    other p e = cc

fails : Opens fail
fails = record { opens = λ p e. other p e }
  where
    other : (p : Open) → (let z : OpenMove = fail in z ≡ go p) → is_inside p ≡ true
    other p e = cc

either : (b : Bool) (x y : OpenMove) → Opens x → Opens y → Opens (if b then x else y)
either true x y p q = p
either false x y p q = q

turned : {B : Type 0} (wrap : B → Open) (exit : OpenMove) → ((b : B) → is_inside (wrap b) ≡ true) → Opens exit → (t : Turn B) → Opens (inside wrap exit t)
turned wrap exit h e (on b) = goes (wrap b) (h b)
turned wrap exit h e out = e
turned wrap exit h e stop = fails

texts : (place : Place) (c : ℕ) → Opens (text_move place c)
texts place c = either (may_follow place (character c)) _ _ (ends_it _ _) fails

singles : (place : Place) (c : ℕ) → Opens (single_move place c)
singles at_beginning c = either (nat_eq c 0xFEFF) _ _ (ends_it _ _) (texts at_beginning c)
singles behind_mark c = texts behind_mark c
singles (behind k) c = texts (behind k) c

bangs : (cs : List ℕ) → Opens (bang_move cs)
bangs cs =
    either (bytes_eq cs (codes "<!--")) _ _ (goes (in_comment 0) refl)
    (either (bytes_eq cs (codes "<![CDATA[")) _ _ (goes (in_section 0) refl)
    (either (bytes_eq cs (codes "<!DOCTYPE")) _ _ (goes (in_doctype (before_root false)) refl)
    (either (begins (codes "<!--") cs || begins (codes "<![CDATA[") cs || begins (codes "<!DOCTYPE") cs) _ _ (goes (in_opener cs) refl) fails)))

lesses : (c : ℕ) → Opens (less_move c)
lesses c =
    either (nat_eq c 33) _ _ (goes (in_opener (codes "<!")) refl)
    (either (nat_eq c 63) _ _ (goes (in_target (Some [])) refl)
    (either (nat_eq c 47) _ _ (goes (in_end_tag [] false) refl) (either (begins_name c) _ _ (goes (in_tag_name (c ∷ [])) refl) fails)))

tags_by : (table : Table) (name : List ℕ) (rule : Rule) (names : List (List ℕ)) (c : ℕ) (m : AttributeMove) → Opens (tag_by table name rule names c m)
tags_by table name rule names c (stays o) = goes (in_tag name names o) refl
tags_by table name rule names c (ends_with more) = goes (in_tag name more (between false)) refl
tags_by table name rule names c leaves = either (nat_eq c 62 && are_all name rule.attributes names) _ _ (ends_it _ _) (either (nat_eq c 47) _ _ (goes (at_empty_end name names) refl) fails)
tags_by table name rule names c stops = fails

tags : (table : Table) (name : List ℕ) (names : List (List ℕ)) (o : OpenAttribute) (c : ℕ) (rule : Option Rule) → Opens (tag_move table name names o c rule)
tags table name names o c None = fails
tags table name names o c (Some rule) = tags_by table name rule names c (attribute_move (of_element table.entities rule.attributes) names o c)

empties : (table : Table) (name : List ℕ) (names : List (List ℕ)) (c : ℕ) (rule : Option Rule) → Opens (empty_move table name names c rule)
empties table name names c None = fails
empties table name names c (Some rule) = either (nat_eq c 62 && are_all name rule.attributes names) _ _ (ends_it _ _) fails

closeds : (table : Table) (name : List ℕ) (rule : Option Rule) → Opens (closed_move table name rule)
closeds table name None = fails
closeds table name (Some rule) = ends_it _ _

end_names : (table : Table) (name : List ℕ) (c : ℕ) → Opens (end_name_move table name c)
end_names table name c = either (is_name name) _ _ (either (is_blank c) _ _ (goes (in_end_tag name true) refl) (either (nat_eq c 62) _ _ (closeds table name (find_rule table.elements name)) fails)) fails

questions : (names : List (List ℕ)) (c : ℕ) → Opens (question_move names c)
questions [] c = fails
questions (version ∷ names) c = either (nat_eq c 63) _ _ (goes at_declaration_end refl) fails

declarations : (names : List (List ℕ)) (c : ℕ) (m : AttributeMove) → Opens (declaration_by names c m)
declarations names c (stays o) = goes (in_declaration names o) refl
declarations names c (ends_with more) = goes (in_declaration more (between false)) refl
declarations names c leaves = questions names c
declarations names c stops = fails

behinds : (place : Place) (o : Option (List ℕ)) (c : ℕ) → Opens (behind_move place o c)
behinds place o c =
    either (is_reserved o) _ _ (either (is_xml o && is_early place && is_blank c) _ _ (goes (in_declaration [] (between true)) refl) fails)
    (either (is_blank c) _ _ (goes (in_instruction false) refl) (either (nat_eq c 63) _ _ (goes behind_target refl) fails))

pub all_open : (table : Table) (place : Place) (o : Open) (c : ℕ) → Opens (open_move table place o c)
all_open table place nothing c = either (nat_eq c 60) _ _ (goes (in_opener (codes "<")) refl) (either (nat_eq c 38) _ _ (goes (in_reference (in_entity [])) refl) (singles place c))
all_open table place (in_reference r) c = turned in_reference _ (λ b. refl) (ends_it _ _) (closing reference_step (reference_good table.entities) 59 r c)
all_open table place (in_opener []) c = fails
all_open table place (in_opener (a ∷ [])) c = lesses c
all_open table place (in_opener (a ∷ b ∷ cs)) c = bangs ((a ∷ b ∷ cs) ++ c ∷ [])
all_open table place (in_tag_name name) c = either (in_name c) _ _ (goes (in_tag_name (name ++ c ∷ [])) refl) (tags table name [] (between false) c (find_rule table.elements name))
all_open table place (in_tag name names o) c = tags table name names o c (find_rule table.elements name)
all_open table place (at_empty_end name names) c = empties table name names c (find_rule table.elements name)
all_open table place (in_end_tag [] spaced) c = either (begins_name c && not spaced) _ _ (goes (in_end_tag (c ∷ []) false) refl) fails
all_open table place (in_end_tag (n ∷ name) spaced) c = either (in_name c && not spaced) _ _ (goes (in_end_tag ((n ∷ name) ++ c ∷ []) false) refl) (end_names table (n ∷ name) c)
all_open table place (in_comment dashes) c = either (nat_le 2 dashes) _ _ (either (nat_eq c 62) _ _ (ends_it _ _) fails) (either (nat_eq c 45) _ _ (goes (in_comment (suc dashes)) refl) (goes (in_comment 0) refl))
all_open table place (in_section brackets) c = either (nat_eq c 62 && nat_le 2 brackets) _ _ (ends_it _ _) (either (nat_eq c 93) _ _ (goes (in_section (min 2 (suc brackets))) refl) (goes (in_section 0) refl))
all_open table place (in_target o) c = either (may_be_target o c) _ _ (goes (in_target (more_target o c)) refl) (either (is_started o) _ _ (behinds place o c) fails)
all_open table place behind_target c = either (nat_eq c 62) _ _ (ends_it _ _) fails
all_open table place (in_instruction asked) c = either (nat_eq c 62 && asked) _ _ (ends_it _ _) (goes (in_instruction (nat_eq c 63)) refl)
all_open table place (in_declaration names o) c = declarations names c (attribute_move of_declaration names o c)
all_open table place at_declaration_end c = either (nat_eq c 62) _ _ (ends_it _ _) fails
all_open table place (in_doctype o) c = turned in_doctype _ (λ b. refl) (ends_it _ _) (doctype_turn table.doctype o c)

pub pieces_open : PiecesOpen
unfolding page_step
pieces_open table s g c e = at (is_character c) e
  where
    same : (s g : PageState) → (let z : Move Place PageToken PageState = go s in z ≡ go g) → s ≡ g
    same s g e = cc

    put : (m : OpenMove) → Opens m → put_place s.place m ≡ go g → is_inside g.inside ≡ true
    put (go o) h e = ap (λ (z : PageState). is_inside z.inside) (sym (same (record { place = kept_place o [] s.place; inside = o }) g e)) ∙ h.opens o refl
    put (done place tokens) h e = cc
    put fail h e = cc

    at : (b : Bool) → (let z : Move Place PageToken PageState = if b then put_place s.place (open_move table s.place s.inside c) else fail in z ≡ go g) → is_inside g.inside ≡ true
    at true e = put (open_move table s.place s.inside c) (all_open table s.place s.inside c) e
    at false e = cc
