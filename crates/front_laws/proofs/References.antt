-- References: so much of a name, or the number that the digits write.
use Rattle.std.proofs.Common.{◌≡◌, ◌≢◌, ℕ, suc, ◌+◌, ◌*◌, Bool, true, false, List, [], ◌∷◌, ◌++◌, Option, Some, None, refl, sym, ◌∙◌, ap, subst, append_assoc, append-nil, min, arith}
use Rattle.std.specs.Prelude.{if◌then◌else◌, nat_eq}
use Rattle.std.specs.Char.{is_ascii_digit, is_ascii_hexdigit, digit_value}
use Rattle.std.specs.List.{list_all}
use Rattle.std.proofs.lemmas.Bool.{and_parts}
use Rattle.std.proofs.lemmas.Bool.Decides.{nat_tests}
use Rattle.text_base.specs.declared.page_token.PageToken.TheVariants as token
use Rattle.xml_text.specs.Names.{begins_name, in_name}
use Rattle.dtd_model.specs.References.{number_written}
use Rattle.dtd_model.specs.Table.{Table}
use Rattle.page_model.specs.Places.{Place, behind}
use Rattle.piece_steps.specs.Insides.{Turn, on as turn_on, out, stop, stepped, closing}
use Rattle.page_model.specs.Fronts.{Open, in_reference}
use Rattle.page_model.specs.OpenValues.{OpenReference, in_entity, at_number, in_decimal, in_hexadecimal, capped, HexadecimalStands, ReferenceStands}
use Rattle.page_steps.specs.ReferenceSteps.{reference_step, reference_good}
use Rattle.front_laws.proofs.Folds.{Folds, here, on, nowhere, somewhere, either, Led, Embeds, embedded, any_symbol, all_any}
use Rattle.front_laws.proofs.Pages.{Leads, not_both, turn_goes, turn_embeds}

abbrev Reads : OpenReference → List ℕ → OpenReference → Type 0
Reads r text w = Folds reference_step r text w

entities : (text : List ℕ) (n : ℕ) (name : List ℕ) → Reads (in_entity (n ∷ name)) text (in_entity ((n ∷ name) ++ text))
entities [] n name = here (ap in_entity (sym (append-nil (n ∷ name))))
entities (c ∷ cs) n name =
    on (either (in_name c) (Some (in_entity ((n ∷ name) ++ c ∷ []))) None
    (λ h. somewhere (subst (λ (x : List ℕ). Reads (in_entity (n ∷ (name ++ c ∷ []))) cs (in_entity (n ∷ x))) (append_assoc name (c ∷ []) cs) (entities cs n (name ++ c ∷ []))))
    (λ h. nowhere))

no_sign : (c : ℕ) → in_name c ≡ true → nat_eq c 35 ≡ false
no_sign c h = grind (arith, nat_tests)

entity : (name : List ℕ) → list_all in_name name ≡ true → Reads (in_entity []) name (in_entity name)
entity [] h = here refl
entity (c ∷ cs) h =
    on (either (nat_eq c 35) (Some at_number) (if begins_name c then Some (in_entity (c ∷ [])) else None)
    (λ e. not_both (nat_eq c 35) e (no_sign c (and_parts (in_name c) (list_all in_name cs) h).0))
    (λ e. either (begins_name c) (Some (in_entity (c ∷ []))) None (λ b. somewhere (entities cs c [])) (λ b. nowhere)))

tens : (n d : ℕ) → capped (capped n * 10 + d) ≡ capped (n * 10 + d)
tens n d = omega arith

sixteens : (n d : ℕ) → capped (capped n * 16 + d) ≡ capped (n * 16 + d)
sixteens n d = omega arith

decimals : (text : List ℕ) (n : ℕ) → Reads (in_decimal (capped n)) text (in_decimal (capped (number_written 10 n text)))
decimals [] n = here refl
decimals (c ∷ cs) n =
    on (either (is_ascii_digit c) (Some (in_decimal (capped (capped n * 10 + digit_value c)))) None
    (λ h. somewhere (subst (λ (x : ℕ). Reads (in_decimal x) cs (in_decimal (capped (number_written 10 (n * 10 + digit_value c) cs)))) (sym (tens n (digit_value c))) (decimals cs (n * 10 + digit_value c))))
    (λ h. nowhere))

hexadecimals : (text : List ℕ) (n : ℕ) → Reads (in_hexadecimal (Some (capped n))) text (in_hexadecimal (Some (capped (number_written 16 n text))))
hexadecimals [] n = here refl
hexadecimals (c ∷ cs) n =
    on (either (is_ascii_hexdigit c) (Some (in_hexadecimal (Some (capped (capped n * 16 + digit_value c))))) None
    (λ h. somewhere (subst (λ (x : ℕ). Reads (in_hexadecimal (Some x)) cs (in_hexadecimal (Some (capped (number_written 16 (n * 16 + digit_value c) cs))))) (sym (sixteens n (digit_value c))) (hexadecimals cs (n * 16 + digit_value c))))
    (λ h. nowhere))

no_x : (c : ℕ) → is_ascii_digit c ≡ true → nat_eq c 120 ≡ false
no_x c h = grind (arith, nat_tests)

decimal : (digits : List ℕ) → digits ≢ [] → list_all is_ascii_digit digits ≡ true → Reads at_number digits (in_decimal (capped (number_written 10 0 digits)))
decimal [] some h = absurd (some refl)
decimal (c ∷ cs) some h =
    on (either (nat_eq c 120) (Some (in_hexadecimal None)) (if is_ascii_digit c then Some (in_decimal (capped (0 * 10 + digit_value c))) else None)
    (λ e. not_both (nat_eq c 120) e (no_x c (and_parts (is_ascii_digit c) (list_all is_ascii_digit cs) h).0))
    (λ e. either (is_ascii_digit c) (Some (in_decimal (capped (0 * 10 + digit_value c)))) None (λ d. somewhere (decimals cs (0 * 10 + digit_value c))) (λ d. nowhere)))

hexadecimal : (o : Option ℕ) (digits : List ℕ) → HexadecimalStands o digits → Reads (in_hexadecimal None) digits (in_hexadecimal o)
hexadecimal None digits h = subst (λ (w : List ℕ). Reads (in_hexadecimal None) w (in_hexadecimal None)) (sym h) (here refl)
hexadecimal (Some n) [] (some, all, is) = absurd (some refl)
hexadecimal (Some n) (c ∷ cs) (some, all, is) =
    on (either (is_ascii_hexdigit c) (Some (in_hexadecimal (Some (capped (0 * 16 + digit_value c))))) None
    (λ d. somewhere (subst (λ (x : ℕ). Reads (in_hexadecimal (Some (capped (0 * 16 + digit_value c)))) cs (in_hexadecimal (Some x))) (sym is) (hexadecimals cs (0 * 16 + digit_value c))))
    (λ d. nowhere))

-- behind the `&`
pub reference_reads : (r : OpenReference) (cs : List ℕ) → ReferenceStands r cs → Reads (in_entity []) cs r
reference_reads (in_entity name) cs (e, h) = subst (λ (w : List ℕ). Reads (in_entity []) w (in_entity name)) (sym e) (entity name h)
reference_reads at_number cs e = subst (λ (w : List ℕ). Reads (in_entity []) w at_number) (sym e) (on (somewhere (here refl)))
reference_reads (in_decimal n) cs (digits, e, some, all, is) =
    subst (λ (w : List ℕ). Reads (in_entity []) w (in_decimal n)) (sym e)
    (on (somewhere (subst (λ (x : ℕ). Reads at_number digits (in_decimal x)) (sym is) (decimal digits some all))))
reference_reads (in_hexadecimal o) cs (digits, e, h) =
    subst (λ (w : List ℕ). Reads (in_entity []) w (in_hexadecimal o)) (sym e) (on (somewhere (on (somewhere (hexadecimal o digits h)))))

-- up to a `;`
closing_embeds : (table : Table) → Embeds reference_step (λ r c. turn_goes (closing reference_step (reference_good table.entities) 59 r c)) (λ r. r) any_symbol
closing_embeds table b c z h e = at (nat_eq c 59) (reference_good table.entities b) (reference_step b c) refl e
  where
    at : (x y : Bool) (o : Option OpenReference) → reference_step b c ≡ o → (let t : Turn OpenReference = if x then (if y then out else stop) else stepped o in turn_goes t) ≡ Some z → Led reference_step (λ r. r) b c z
    at true true o q e = cc
    at true false o q e = cc
    at false y None q e = cc
    at false y (Some g) q e = record { g = g; led = q; is = sym (let k : g ≡ z = cc in k) }

pub references : (table : Table) (place : Place) (r : OpenReference) (cs : List ℕ) → ReferenceStands r cs → Leads table place (in_reference (in_entity [])) cs (in_reference r)
references table place r cs h = record {
  folds = embedded in_reference any_symbol
      (turn_embeds table place in_reference (λ r c. closing reference_step (reference_good table.entities) 59 r c) (behind 0) (token.Text ∷ []) (λ b c. refl)) (all_any cs)
      (embedded (λ r. r) any_symbol (closing_embeds table) (all_any cs) (reference_reads r cs h));
}
