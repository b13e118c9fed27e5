-- Comments, sections, instructions and document type declarations, read by the reader of a page.
use Rattle.std.proofs.Common.{◌≡◌, ℕ, suc, Bool, true, false, ◌&&◌, [], ◌∷◌, refl, sym, ◌∙◌, ap, min}
use Rattle.std.specs.Prelude.{if◌then◌else◌, nat_eq, nat_le}
use Rattle.text_base.specs.declared.page_token.PageToken.TheVariants as token
use Rattle.dtd_model.specs.Table.{Table}
use Rattle.page_model.specs.Places.{Place, behind}
use Rattle.piece_steps.specs.Insides.{Turn, on, out, stop, past, inside, IsInside}
use Rattle.piece_steps.specs.Readers.{go, done, fail}
use Rattle.page_model.specs.Fronts.{in_comment, in_section, in_instruction, in_doctype}
use Rattle.page_model.specs.OpenDoctypes.{before_root}
use Rattle.page_steps.specs.DoctypeSteps.{doctype_turn}
use Rattle.page_steps.specs.PageSteps.{OpenMove, comment_move, section_move, instruction_move, page_reader}
use Rattle.remark_steps.specs.Turns.{comment_turn, section_turn, instruction_turn}
use Rattle.remark_steps.proofs.Comments.{comments_left}
use Rattle.remark_steps.proofs.Sections.{sections_left}
use Rattle.remark_steps.proofs.Instructions.{instructions_left}
use Rattle.doctype_steps.specs.Laws.{turn}
use Rattle.doctype_steps.proofs.Doctypes.{doctypes_left}
use Rattle.page_insides.specs.Laws.{CommentsRead, SectionsRead, InstructionsRead, DoctypesRead}
use Rattle.page_insides.proofs.Settled.{at_open, page_inside, Done, read_through, read_back}

-- what a comment does with a character of XML
abbrev in_comments : ℕ → ℕ → Turn ℕ
in_comments dashes c = if nat_le 2 dashes then (if nat_eq c 62 then out else stop) else (if nat_eq c 45 then on (suc dashes) else on 0)

comment_is : (dashes c : ℕ) → comment_move dashes c ≡ inside in_comment (done (behind 0) (token.Misc ∷ [])) (in_comments dashes c)
comment_is dashes c = at (nat_le 2 dashes) (nat_eq c 62) (nat_eq c 45)
  where
    at : (x y z : Bool) → (let m : OpenMove = if x then (if y then done (behind 0) (token.Misc ∷ []) else fail) else (if z then go (in_comment (suc dashes)) else go (in_comment 0)) in m)
        ≡ inside in_comment (let m : OpenMove = done (behind 0) (token.Misc ∷ []) in m) (if x then (if y then out else stop) else (if z then on (suc dashes) else on 0))
    at true true z = refl
    at true false z = refl
    at false y true = refl
    at false y false = refl

comments : (table : Table) (place : Place) → IsInside (page_reader table) (λ b. at_open place (in_comment b)) comment_turn (Done (token.Misc ∷ []))
comments table place = page_inside table place in_comment in_comments (token.Misc ∷ []) (λ b. refl) comment_is

pub comments_read : CommentsRead
comments_read = record {
  complete = λ table place cs rest h. read_through table place in_comment comment_turn (token.Misc ∷ []) 0 cs rest (comments table place) (ap (past comment_turn 0) (sym h.spelled) ∙ comments_left.0 h.text rest h.is);
  sound = λ table place next cs given rest e.
      let b = read_back table place in_comment comment_turn (token.Misc ∷ []) 0 cs next given rest (comments table place) e in
      record { is = comments_left.1 cs rest b.is_past; leads = b.leads; gives = b.gives };
}

abbrev in_sections : ℕ → ℕ → Turn ℕ
in_sections brackets c = if nat_eq c 62 && nat_le 2 brackets then out else (if nat_eq c 93 then on (min 2 (suc brackets)) else on 0)

section_is : (brackets c : ℕ) → section_move brackets c ≡ inside in_section (done (behind 0) (token.Text ∷ [])) (in_sections brackets c)
section_is brackets c = at (nat_eq c 62 && nat_le 2 brackets) (nat_eq c 93)
  where
    at : (x y : Bool) → (let m : OpenMove = if x then done (behind 0) (token.Text ∷ []) else (if y then go (in_section (min 2 (suc brackets))) else go (in_section 0)) in m)
        ≡ inside in_section (let m : OpenMove = done (behind 0) (token.Text ∷ []) in m) (if x then out else (if y then on (min 2 (suc brackets)) else on 0))
    at true y = refl
    at false true = refl
    at false false = refl

sections : (table : Table) (place : Place) → IsInside (page_reader table) (λ b. at_open place (in_section b)) section_turn (Done (token.Text ∷ []))
sections table place = page_inside table place in_section in_sections (token.Text ∷ []) (λ b. refl) section_is

pub sections_read : SectionsRead
sections_read = record {
  complete = λ table place cs rest h. read_through table place in_section section_turn (token.Text ∷ []) 0 cs rest (sections table place) (ap (past section_turn 0) (sym h.spelled) ∙ sections_left.0 h.text rest h.is);
  sound = λ table place next cs given rest e.
      let b = read_back table place in_section section_turn (token.Text ∷ []) 0 cs next given rest (sections table place) e in
      record { is = sections_left.1 cs rest b.is_past; leads = b.leads; gives = b.gives };
}

abbrev in_instructions : Bool → ℕ → Turn Bool
in_instructions asked c = if nat_eq c 62 && asked then out else on (nat_eq c 63)

instruction_is : (asked : Bool) (c : ℕ) → instruction_move asked c ≡ inside in_instruction (done (behind 0) (token.Misc ∷ [])) (in_instructions asked c)
instruction_is asked c = at (nat_eq c 62 && asked)
  where
    at : (x : Bool) → (let m : OpenMove = if x then done (behind 0) (token.Misc ∷ []) else go (in_instruction (nat_eq c 63)) in m) ≡ inside in_instruction (let m : OpenMove = done (behind 0) (token.Misc ∷ []) in m) (if x then out else on (nat_eq c 63))
    at true = refl
    at false = refl

instructions : (table : Table) (place : Place) → IsInside (page_reader table) (λ b. at_open place (in_instruction b)) instruction_turn (Done (token.Misc ∷ []))
instructions table place = page_inside table place in_instruction in_instructions (token.Misc ∷ []) (λ b. refl) instruction_is

pub instructions_read : InstructionsRead
instructions_read = record {
  complete = λ table place cs rest h. read_through table place in_instruction instruction_turn (token.Misc ∷ []) false cs rest (instructions table place) (ap (past instruction_turn false) (sym h.spelled) ∙ instructions_left.0 h.text rest h.is);
  sound = λ table place next cs given rest e.
      let b = read_back table place in_instruction instruction_turn (token.Misc ∷ []) false cs next given rest (instructions table place) e in
      record { is = instructions_left.1 cs rest b.is_past; leads = b.leads; gives = b.gives };
}

doctypes : (table : Table) (place : Place) → IsInside (page_reader table) (λ b. at_open place (in_doctype b)) (turn table.doctype) (Done (token.Doctype ∷ []))
doctypes table place = page_inside table place in_doctype (doctype_turn table.doctype) (token.Doctype ∷ []) (λ b. refl) (λ b c. refl)

pub doctypes_read : DoctypesRead
doctypes_read = record {
  complete = λ table place cs rest h.
      read_through table place in_doctype (turn table.doctype) (token.Doctype ∷ []) (before_root false) cs rest (doctypes table place) (ap (past (turn table.doctype) (before_root false)) (sym h.spelled) ∙ doctypes_left.0 table.doctype h.declared rest h.is h.fits);
  sound = λ table place next cs given rest e.
      let b = read_back table place in_doctype (turn table.doctype) (token.Doctype ∷ []) (before_root false) cs next given rest (doctypes table place) e in
      record { is = doctypes_left.1 table.doctype cs rest b.is_past; leads = b.leads; gives = b.gives };
}
