-- References, read by the reader of a page.
use Rattle.std.proofs.Common.{◌≡◌, ℕ, Bool, true, false, ◌&&◌, List, [], ◌∷◌, ◌++◌, Option, Some, None, refl, sym, ◌∙◌, ap, arith}
use Rattle.std.specs.Prelude.{if◌then◌else◌, nat_eq}
use Rattle.std.specs.Char.{is_ascii_digit, is_ascii_hexdigit}
use Rattle.std.proofs.lemmas.Bool.Decides.{nat_tests}
use Rattle.text_base.specs.declared.page_token.PageToken.{PageToken}
use Rattle.text_base.specs.declared.page_token.PageToken.TheVariants as token
use Rattle.xml_text.specs.Characters.{is_character}
use Rattle.xml_text.specs.Names.{begins_name, in_name}
use Rattle.dtd_model.specs.Table.{Table}
use Rattle.page_model.specs.Places.{Place, behind}
use Rattle.page_model.specs.Parts.{reference_of}
use Rattle.piece_steps.specs.Insides.{Turn, on, out, stop, turned, past, inside, IsInside, accepts, stepped, closing}
use Rattle.piece_steps.proofs.Within.{is_none, past_closer, Closed, closer_past}
use Rattle.page_model.specs.Fronts.{Open, in_reference}
use Rattle.page_model.specs.OpenValues.{OpenReference, in_entity, at_number, in_decimal, in_hexadecimal}
use Rattle.page_steps.specs.ReferenceSteps.{decimal_step, hexadecimal_step, reference_step, reference_good}
use Rattle.page_steps.specs.PageSteps.{page_reader}
use Rattle.reference_steps.specs.Laws.{is_right_reference}
use Rattle.reference_steps.proofs.References.{references_accepted}
use Rattle.page_insides.specs.Laws.{IsReferenceThen, ReferencesRead}
use Rattle.page_insides.proofs.Settled.{at_open, of_characters, page_inside, Done, read_through, read_back}

-- what is no character of XML stands in no reference
no_sign : (c : ℕ) → is_character c ≡ false → nat_eq c 35 ≡ false
no_sign c h = grind (arith, nat_tests)

no_x : (c : ℕ) → is_character c ≡ false → nat_eq c 120 ≡ false
no_x c h = grind (arith, nat_tests)

no_semicolon : (c : ℕ) → is_character c ≡ false → nat_eq c 59 ≡ false
no_semicolon c h = grind (arith, nat_tests)

no_begin : (c : ℕ) → is_character c ≡ false → begins_name c ≡ false
no_begin c h = grind (arith, nat_tests)

no_name : (c : ℕ) → is_character c ≡ false → in_name c ≡ false
no_name c h = grind (arith, nat_tests)

no_digit : (c : ℕ) → is_character c ≡ false → is_ascii_digit c ≡ false
no_digit c h = grind (arith, nat_tests)

no_hexdigit : (c : ℕ) → is_character c ≡ false → is_ascii_hexdigit c ≡ false
no_hexdigit c h = grind (arith, nat_tests)

if_not : {A : Type 0} (b : Bool) (x y : A) → b ≡ false → (if b then x else y) ≡ y
if_not true x y h = cc
if_not false x y h = refl

no_step : (r : OpenReference) (c : ℕ) → is_character c ≡ false → reference_step r c ≡ None
no_step (in_entity []) c h = if_not (nat_eq c 35) _ _ (no_sign c h) ∙ if_not (begins_name c) _ _ (no_begin c h)
no_step (in_entity (n ∷ name)) c h = if_not (in_name c) _ _ (no_name c h)
no_step at_number c h = if_not (nat_eq c 120) _ _ (no_x c h) ∙ if_not (is_ascii_digit c) _ _ (no_digit c h)
no_step (in_decimal n) c h = if_not (is_ascii_digit c) _ _ (no_digit c h)
no_step (in_hexadecimal None) c h = if_not (is_ascii_hexdigit c) _ _ (no_hexdigit c h)
no_step (in_hexadecimal (Some n)) c h = if_not (is_ascii_hexdigit c) _ _ (no_hexdigit c h)

abbrev turn : List (List ℕ) → OpenReference → ℕ → Turn OpenReference
turn entities r c = closing reference_step (reference_good entities) 59 r c

stops : (entities : List (List ℕ)) (r : OpenReference) (c : ℕ) → is_character c ≡ false → turn entities r c ≡ stop
stops entities r c h = if_not (nat_eq c 59) (if reference_good entities r then out else stop) (stepped (reference_step r c)) (no_semicolon c h) ∙ ap stepped (no_step r c h)

characters_same : (entities : List (List ℕ)) (r : OpenReference) (c : ℕ) → turn entities r c ≡ of_characters (turn entities) r c
characters_same entities r c = at (is_character c) refl
  where
    at : (b : Bool) → is_character c ≡ b → turn entities r c ≡ (if b then turn entities r c else stop)
    at true h = refl
    at false h = stops entities r c h

references : (table : Table) (place : Place) → IsInside (page_reader table) (λ r. at_open place (in_reference r)) (turn table.entities) (Done (token.Text ∷ []))
references table place r c =
    page_inside table place in_reference (turn table.entities) (token.Text ∷ []) (λ b. refl) (λ b c. refl) r c
    ∙ ap (inside (λ r. at_open place (in_reference r)) (Done (token.Text ∷ []))) (sym (characters_same table.entities r c))

pub references_read : ReferencesRead
references_read = record {
  complete = λ table place cs rest h.
      read_through table place in_reference (turn table.entities) (token.Text ∷ []) (in_entity []) cs rest (references table place)
      (ap (past (turn table.entities) (in_entity [])) (sym h.spelled) ∙ past_closer reference_step (reference_good table.entities) 59 h.body (in_entity []) rest h.free (references_accepted table.entities h.body ∙ h.right));
  sound = λ table place next cs given rest e.
      let b = read_back table place in_reference (turn table.entities) (token.Text ∷ []) (in_entity []) cs next given rest (references table place) e in
      let l = closer_past reference_step (reference_good table.entities) 59 cs (in_entity []) rest b.is_past in
      record { is = record { body = l.text; spelled = sym l.is; free = l.none; right = sym (references_accepted table.entities l.text) ∙ l.accepted_by }; leads = b.leads; gives = b.gives };
}
