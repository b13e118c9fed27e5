-- References and values of which nothing can come stay so.
use Rattle.std.proofs.Common.{◌≡◌, ℕ, ◌+◌, ◌*◌, ◌≤◌, Bool, true, false, ◌&&◌, ◌||◌, List, [], ◌∷◌, ◌++◌, Option, Some, None, refl, sym, ◌∙◌, ap, arith}
use Rattle.std.specs.Prelude.{if◌then◌else◌, nat_le, bytes_eq}
use Rattle.std.specs.Char.{is_ascii_digit, is_ascii_hexdigit, digit_value}
use Rattle.std.specs.List.{list_any}
use Rattle.std.proofs.lemmas.Bool.{leb-false}
use Rattle.std.proofs.lemmas.List.Folds.{list_any-append}
use Rattle.xml_text.specs.Characters.{is_character}
use Rattle.xml_text.specs.Names.{in_name, is_name}
use Rattle.dtd_model.specs.References.{known_entities}
use Rattle.page_model.specs.OpenValues.{OpenReference, in_entity, at_number, in_decimal, in_hexadecimal, capped}
use Rattle.page_steps.specs.ReferenceSteps.{reference_step, reference_good}
use Rattle.page_endings.specs.Ending.{reference_can_end}
use Rattle.page_endings.proofs.Begins.{some_less, none_among}

-- there is no step, or it leads where the test fails
abbrev pub Stuck : {B : Type 0} → (B → Bool) → Option B → Type 0
Stuck test None = Unit {0}
Stuck test (Some g) = test g ≡ false

pub stuck_if : {B : Type 0} (test : B → Bool) (b : Bool) (g : B) → test g ≡ false → Stuck test (if b then Some g else None)
stuck_if test true g e = e
stuck_if test false g e = tt

beyond : (n : ℕ) → nat_le n 0x10FFFF ≡ false → is_character n ≡ false
beyond n e = let l = leb-false n 0x10FFFF e in grind arith

grown : (n base d : ℕ) → 1 ≤ base → nat_le n 0x10FFFF ≡ false → 0x110000 ≤ n * base + d
grown n base d b e = let l = leb-false n 0x10FFFF e in grind arith

capped_large : (n : ℕ) → 0x110000 ≤ n → capped n ≡ 0x110000
capped_large n h = omega arith

large : (n base d : ℕ) → 1 ≤ base → nat_le n 0x10FFFF ≡ false → nat_le (capped (n * base + d)) 0x10FFFF ≡ false
large n base d b e = ap (λ (m : ℕ). nat_le m 0x10FFFF) (capped_large (n * base + d) (grown n base d b e))

pub reference_stuck : (entities : List (List ℕ)) (r : OpenReference) (c : ℕ) → reference_can_end entities r ≡ false → Stuck (reference_can_end entities) (reference_step r c)
reference_stuck entities (in_entity []) c e = cc
reference_stuck entities (in_entity (n ∷ name)) c e = stuck_if (reference_can_end entities) (in_name c) (in_entity ((n ∷ name) ++ c ∷ [])) (some_less (known_entities ++ entities) (n ∷ name) c e)
reference_stuck entities at_number c e = cc
reference_stuck entities (in_decimal n) c e = stuck_if (reference_can_end entities) (is_ascii_digit c) (in_decimal (capped (n * 10 + digit_value c))) (large n 10 (digit_value c) (omega arith) e)
reference_stuck entities (in_hexadecimal None) c e = cc
reference_stuck entities (in_hexadecimal (Some n)) c e = stuck_if (reference_can_end entities) (is_ascii_hexdigit c) (in_hexadecimal (Some (capped (n * 16 + digit_value c)))) (large n 16 (digit_value c) (omega arith) e)

none_and : (x y : Bool) → y ≡ false → (x && y) ≡ false
none_and true y e = e
none_and false y e = refl

pub reference_not_good : (entities : List (List ℕ)) (r : OpenReference) → reference_can_end entities r ≡ false → reference_good entities r ≡ false
reference_not_good entities (in_entity name) e =
    none_and (is_name name) (list_any (bytes_eq name) known_entities || list_any (bytes_eq name) entities)
    (sym (list_any-append (bytes_eq name) known_entities entities) ∙ none_among (known_entities ++ entities) name e)
reference_not_good entities at_number e = refl
reference_not_good entities (in_decimal n) e = beyond n e
reference_not_good entities (in_hexadecimal None) e = refl
reference_not_good entities (in_hexadecimal (Some n)) e = beyond n e
