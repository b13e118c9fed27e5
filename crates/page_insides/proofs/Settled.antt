-- The reader of a page inside an open piece, by the small machine of its form.
use Rattle.std.proofs.Common.{◌≡◌, ℕ, Bool, true, false, List, [], Some, refl, ◌∙◌, ap}
use Rattle.std.specs.Prelude.{if◌then◌else◌}
use Rattle.text_base.specs.declared.page_token.PageToken.{PageToken}
use Rattle.xml_text.specs.Characters.{is_character}
use Rattle.dtd_model.specs.Table.{Table}
use Rattle.page_model.specs.Places.{Place, at_beginning, behind_mark, behind}
use Rattle.piece_steps.specs.Insides.{Turn, on, out, stop, past, inside, IsInside}
use Rattle.piece_steps.specs.Readers.{Move, go, done, fail, Outcome, whole, ends}
use Rattle.piece_steps.proofs.Within.{through, within}
use Rattle.page_model.specs.Fronts.{Open, nothing, in_reference, in_opener, in_tag_name, in_tag, at_empty_end, in_end_tag, in_comment, in_section, in_target, behind_target, in_instruction, in_declaration, at_declaration_end, in_doctype, kept_place}
use Rattle.page_steps.specs.PageSteps.{OpenMove, open_move, PageState, put_place, page_step, page_reader, is_inside}
use Rattle.page_insides.specs.Laws.{settle, read, ends_with}

-- a place is kept so inside a piece, and stays
pub kept_is : (o : Open) (place : Place) → is_inside o ≡ true → kept_place o [] place ≡ settle place
kept_is o at_beginning h = refl
kept_is o behind_mark h = refl
kept_is nothing (behind k) h = cc
kept_is (in_reference r) (behind k) h = refl
kept_is (in_opener begun) (behind k) h = refl
kept_is (in_tag_name name) (behind k) h = refl
kept_is (in_tag name names o) (behind k) h = refl
kept_is (at_empty_end name names) (behind k) h = refl
kept_is (in_end_tag name spaced) (behind k) h = refl
kept_is (in_comment dashes) (behind k) h = refl
kept_is (in_section brackets) (behind k) h = refl
kept_is (in_target o) (behind k) h = refl
kept_is behind_target (behind k) h = refl
kept_is (in_instruction asked) (behind k) h = refl
kept_is (in_declaration names o) (behind k) h = refl
kept_is at_declaration_end (behind k) h = refl
kept_is (in_doctype o) (behind k) h = refl

settle_settled : (place : Place) → settle (settle place) ≡ settle place
settle_settled at_beginning = refl
settle_settled behind_mark = refl
settle_settled (behind k) = refl

pub kept_settled : (o : Open) (place : Place) → is_inside o ≡ true → kept_place o [] (settle place) ≡ settle place
kept_settled o place h = kept_is o (settle place) h ∙ settle_settled place

abbrev pub at_open : Place → Open → PageState
at_open place o = record { place = settle place; inside = o }

-- for characters of XML alone
abbrev pub of_characters : {B : Type 0} → (B → ℕ → Turn B) → B → ℕ → Turn B
of_characters turn b c = if is_character c then turn b c else stop

pub page_inside : {B : Type 0} (table : Table) (place : Place) (wrap : B → Open) (turn : B → ℕ → Turn B) (tokens : List PageToken) → ((b : B) → is_inside (wrap b) ≡ true)
    → ((b : B) (c : ℕ) → open_move table (settle place) (wrap b) c ≡ inside wrap (done (behind 0) tokens) (turn b c)) → IsInside (page_reader table) (λ b. at_open place (wrap b)) (of_characters turn) (done (behind 0) tokens)
unfolding page_step
page_inside {B} table place wrap turn tokens open_is moves b c = ap (λ (m : OpenMove). let z : Move Place PageToken PageState = if is_character c then put_place (settle place) m else fail in z) (moves b c) ∙ at (is_character c)
  where
    E : Move Place PageToken PageState
    E = done (behind 0) tokens

    put : (t : Turn B) → put_place (settle place) (inside wrap (done (behind 0) tokens) t) ≡ inside (λ b. at_open place (wrap b)) (let z : Move Place PageToken PageState = done (behind 0) tokens in z) t
    put (on g) = ap (λ (p : Place). let s : PageState = record { place = p; inside = wrap g } in let z : Move Place PageToken PageState = go s in z) (kept_settled (wrap g) place (open_is g))
    put out = refl
    put stop = refl

    at : (x : Bool) → (let z : Move Place PageToken PageState = if x then put_place (settle place) (inside wrap (done (behind 0) tokens) (turn b c)) else fail in z)
        ≡ inside (λ b. at_open place (wrap b)) (let z : Move Place PageToken PageState = done (behind 0) tokens in z) (if x then turn b c else stop)
    at true = put (turn b c)
    at false = refl

abbrev pub Done : List PageToken → Move Place PageToken PageState
Done tokens = done (behind 0) tokens

-- forward: where the machine leaves, the piece ends
pub read_through : {B : Type 0} (table : Table) (place : Place) (wrap : B → Open) (turn : B → ℕ → Turn B) (tokens : List PageToken) (b : B) (text rest : List ℕ)
    → IsInside (page_reader table) (λ b. at_open place (wrap b)) turn (Done tokens) → past turn b text ≡ Some rest → read table place (wrap b) text ≡ ends_with tokens rest
read_through table place wrap turn tokens b text rest is e = through (page_reader table) (λ b. at_open place (wrap b)) turn (Done tokens) is text b rest e

-- back: where the piece ends, the machine left
pub record Back {B : Type 0} (turn : B → ℕ → Turn B) (b : B) (tokens : List PageToken) (text : List ℕ) (behind_it : Place) (given : List PageToken) (rest : List ℕ) : Type 0 where
  pub is_past : past turn b text ≡ Some rest
  pub leads : behind_it ≡ behind 0
  pub gives : given ≡ tokens

pub read_back : {B : Type 0} (table : Table) (place : Place) (wrap : B → Open) (turn : B → ℕ → Turn B) (tokens : List PageToken) (b : B) (text : List ℕ) (behind_it : Place) (given : List PageToken) (rest : List ℕ)
    → IsInside (page_reader table) (λ b. at_open place (wrap b)) turn (Done tokens) → read table place (wrap b) text ≡ whole behind_it given rest → Back turn b tokens text behind_it given rest
read_back {B} table place wrap turn tokens b text behind_it given rest is e =
    let l = within (page_reader table) (λ b. at_open place (wrap b)) turn (Done tokens) is text b behind_it given rest e in
    at l.left l.is_past l.then_ends
  where
    at : (left : List ℕ) → past turn b text ≡ Some left → (let z : Outcome Place PageToken PageState = whole (behind 0) tokens left in z ≡ whole behind_it given rest) → Back turn b tokens text behind_it given rest
    at left p e =
        let r : left ≡ rest = cc in
        let k : behind_it ≡ behind 0 = cc in
        let t : given ≡ tokens = cc in
        record { is_past = p ∙ ap Some r; leads = k; gives = t }
