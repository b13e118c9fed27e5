-- What is not kept of the place makes no difference to a character of several bytes.
use Rattle.std.proofs.Common.{◌≡◌, ℕ, suc, ◌≤◌, Bool, true, false, not, ◌&&◌, List, [], ◌∷◌, refl, sym, ◌∙◌, ap, arith, min}
use Rattle.std.specs.Prelude.{if◌then◌else◌, nat_eq}
use Rattle.std.proofs.lemmas.Bool.Decides.{nat_tests}
use Rattle.text_base.specs.declared.page_token.PageToken.{PageToken}
use Rattle.xml_text.specs.Characters.{is_character}
use Rattle.dtd_model.specs.Table.{Table}
use Rattle.page_model.specs.PageTokens.{sort_token}
use Rattle.page_model.specs.Parts.{character}
use Rattle.page_model.specs.Places.{Place, at_beginning, behind_mark, behind}
use Rattle.page_model.specs.Valid.{sort_of}
use Rattle.piece_steps.specs.Readers.{Move, go, done, fail}
use Rattle.page_model.specs.Fronts.{Open, nothing, in_reference, in_opener, in_tag_name, in_tag, at_empty_end, in_end_tag, in_comment, in_section, in_target, behind_target, in_instruction, in_declaration, at_declaration_end, in_doctype, kept_place}
use Rattle.page_model.specs.OpenValues.{in_entity}
use Rattle.page_steps.specs.PageSteps.{OpenMove, first_move, text_move, open_move, PageState, put_place, page_step, is_inside, page_hold}
use Rattle.page_step_laws.specs.Laws.{ReadByCharacters}
use Rattle.page_step_laws.proofs.Opened.{Opens, all_open}

not_less : (c : ℕ) → 128 ≤ c → nat_eq c 60 ≡ false
not_less c h = grind (arith, nat_tests)

not_ampersand : (c : ℕ) → 128 ≤ c → nat_eq c 38 ≡ false
not_ampersand c h = grind (arith, nat_tests)

not_greater : (c : ℕ) → 128 ≤ c → nat_eq c 62 ≡ false
not_greater c h = grind (arith, nat_tests)

not_bracket : (c : ℕ) → 128 ≤ c → nat_eq c 93 ≡ false
not_bracket c h = grind (arith, nat_tests)

-- brackets are kept only where nothing is open
kept_same : (o : Open) (k : ℕ) → is_inside o ≡ true → kept_place o [] (behind 0) ≡ kept_place o [] (behind k)
kept_same nothing k h = cc
kept_same (in_reference r) k h = refl
kept_same (in_opener begun) k h = refl
kept_same (in_tag_name name) k h = refl
kept_same (in_tag name names o) k h = refl
kept_same (at_empty_end name names) k h = refl
kept_same (in_end_tag name spaced) k h = refl
kept_same (in_comment dashes) k h = refl
kept_same (in_section brackets) k h = refl
kept_same (in_target o) k h = refl
kept_same behind_target k h = refl
kept_same (in_instruction asked) k h = refl
kept_same (in_declaration names o) k h = refl
kept_same at_declaration_end k h = refl
kept_same (in_doctype o) k h = refl

put_same : (m : OpenMove) (k : ℕ) → Opens m → put_place (behind 0) m ≡ put_place (behind k) m
put_same (go o) k h = ap (λ (p : Place). let s : PageState = record { place = p; inside = o } in let z : Move Place PageToken PageState = go s in z) (kept_same o k (h.opens o refl))
put_same (done place tokens) k h = refl
put_same fail k h = refl

text_same : (c k : ℕ) → 128 ≤ c → text_move (behind 0) c ≡ text_move (behind k) c
text_same c k h = flat 0 ∙ sym (flat k)
  where
    flat : (j : ℕ) → text_move (behind j) c ≡ done (behind 0) (sort_token (sort_of (character c)) ∷ [])
    flat j =
        ap (λ (b : Bool). let z : OpenMove = if not (b && nat_eq j 2) then done (behind (if nat_eq c 93 then min 2 (suc j) else 0)) (sort_token (sort_of (character c)) ∷ []) else fail in z) (not_greater c h)
        ∙ ap (λ (b : Bool). let z : OpenMove = done (behind (if b then min 2 (suc j) else 0)) (sort_token (sort_of (character c)) ∷ []) in z) (not_bracket c h)

first_same : (c k : ℕ) → 128 ≤ c → first_move (behind 0) c ≡ first_move (behind k) c
first_same c k h = flat 0 ∙ text_same c k h ∙ sym (flat k)
  where
    flat : (j : ℕ) → first_move (behind j) c ≡ text_move (behind j) c
    flat j =
        ap (λ (b : Bool). let z : OpenMove = if b then go (in_opener (60 ∷ [])) else (if nat_eq c 38 then go (in_reference (in_entity [])) else text_move (behind j) c) in z) (not_less c h)
        ∙ ap (λ (b : Bool). let z : OpenMove = if b then go (in_reference (in_entity [])) else text_move (behind j) c in z) (not_ampersand c h)

-- a move behind other pieces
move_same : (table : Table) (o : Open) (c k : ℕ) → 128 ≤ c → open_move table (behind 0) o c ≡ open_move table (behind k) o c
move_same table nothing c k h = first_same c k h
move_same table (in_reference r) c k h = refl
move_same table (in_opener begun) c k h = refl
move_same table (in_tag_name name) c k h = refl
move_same table (in_tag name names o) c k h = refl
move_same table (at_empty_end name names) c k h = refl
move_same table (in_end_tag name spaced) c k h = refl
move_same table (in_comment dashes) c k h = refl
move_same table (in_section brackets) c k h = refl
move_same table (in_target o) c k h = refl
move_same table behind_target c k h = refl
move_same table (in_instruction asked) c k h = refl
move_same table (in_declaration names o) c k h = refl
move_same table at_declaration_end c k h = refl
move_same table (in_doctype o) c k h = refl

held_place : (o : Open) (k : ℕ) → kept_place o (0x80 ∷ []) (behind k) ≡ behind 0
held_place nothing k = refl
held_place (in_reference r) k = refl
held_place (in_opener begun) k = refl
held_place (in_tag_name name) k = refl
held_place (in_tag name names o) k = refl
held_place (at_empty_end name names) k = refl
held_place (in_end_tag name spaced) k = refl
held_place (in_comment dashes) k = refl
held_place (in_section brackets) k = refl
held_place (in_target o) k = refl
held_place behind_target k = refl
held_place (in_instruction asked) k = refl
held_place (in_declaration names o) k = refl
held_place at_declaration_end k = refl
held_place (in_doctype o) k = refl

-- a move from a place
move_at : Table → Place → Open → ℕ → Move Place PageToken PageState
move_at table place o c = put_place place (open_move table place o c)

placed : (table : Table) (place : Place) (o : Open) (c : ℕ) → 128 ≤ c → move_at table (kept_place o (0x80 ∷ []) place) o c ≡ move_at table place o c
unfolding move_at
placed table at_beginning o c h = refl
placed table behind_mark o c h = refl
placed table (behind k) o c h =
    ap (λ (p : Place). put_place p (open_move table p o c)) (held_place o k)
    ∙ put_same (open_move table (behind 0) o c) k (all_open table (behind 0) o c)
    ∙ ap (put_place (behind k)) (move_same table o c k h)

pub read_by_characters : ReadByCharacters
unfolding page_step move_at
read_by_characters table = record {
  strict = λ s c h. ap (λ (b : Bool). let z : Move Place PageToken PageState = if b then put_place s.place (open_move table s.place s.inside c) else fail in z) h;
  holds = λ s c h. ap (λ (m : Move Place PageToken PageState). let z : Move Place PageToken PageState = if is_character c then m else fail in z) (placed table s.place s.inside c h);
}
