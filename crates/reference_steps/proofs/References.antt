-- References, character by character.
use Rattle.std.proofs.Common.{◌≡◌, ◌⊎◌, inl, inr, ℕ, ◌+◌, ◌*◌, ◌≤◌, ◌<◌, Bool, true, false, ◌&&◌, List, [], ◌∷◌, ◌++◌, Option, Some, None, refl, sym, ◌∙◌, ap, append-nil, append_assoc, arith, min}
use Rattle.std.specs.Prelude.{if◌then◌else◌, nat_eq}
use Rattle.std.specs.Char.{is_ascii_digit, is_ascii_hexdigit, digit_value}
use Rattle.std.specs.List.{list_all}
use Rattle.std.proofs.lemmas.Bool.{cases_lt, eqb-true}
use Rattle.std.proofs.lemmas.Bool.Decides.{nat_tests}
use Rattle.xml_text.specs.Characters.{is_character}
use Rattle.xml_text.specs.Names.{begins_name, in_name, is_name}
use Rattle.dtd_model.specs.References.{Reference, decimal, hexadecimal, entity, is_reference, is_known, is_some, number_written}
use Rattle.page_model.specs.Parts.{numbered, reference_of}
use Rattle.piece_steps.specs.Insides.{accepted, accepts}
use Rattle.page_model.specs.OpenValues.{OpenReference, in_entity, at_number, in_decimal, in_hexadecimal, capped}
use Rattle.page_steps.specs.ReferenceSteps.{entity_step, decimal_step, hexadecimal_step, reference_step, reference_good}
use Rattle.reference_steps.specs.Laws.{is_right_reference}

and_true : (x : Bool) → (x && true) ≡ x
and_true true = refl
and_true false = refl

-- Names.

not_all : (test : ℕ → Bool) (xs : List ℕ) (c : ℕ) (cs : List ℕ) → test c ≡ false → list_all test (xs ++ c ∷ cs) ≡ false
not_all test [] c cs h = ap (λ (b : Bool). b && list_all test cs) h
not_all test (x ∷ xs) c cs h = ap (λ (b : Bool). test x && b) (not_all test xs c cs h) ∙ none (test x)
  where
    none : (b : Bool) → (b && false) ≡ false
    none true = refl
    none false = refl

pub entity_accepted : (entities : List (List ℕ)) (cs : List ℕ) (n : ℕ) (name : List ℕ) → accepts reference_step (reference_good entities) (in_entity (n ∷ name)) cs ≡ is_right_reference entities (entity (n ∷ (name ++ cs)))
entity_accepted entities [] n name = ap (λ (w : List ℕ). is_right_reference entities (entity (n ∷ w))) (sym (append-nil name))
entity_accepted entities (c ∷ cs) n name = at (in_name c) refl (entity_accepted entities cs n (name ++ c ∷ []))
  where
    at : (b : Bool) → in_name c ≡ b → accepts reference_step (reference_good entities) (in_entity (n ∷ (name ++ c ∷ []))) cs ≡ is_right_reference entities (entity (n ∷ ((name ++ c ∷ []) ++ cs)))
        → accepted (if b then Some (in_entity (n ∷ (name ++ c ∷ []))) else None) (λ g. accepts reference_step (reference_good entities) g cs) ≡ is_right_reference entities (entity (n ∷ (name ++ c ∷ cs)))
    at true h ih = ih ∙ ap (λ (w : List ℕ). is_right_reference entities (entity (n ∷ w))) (append_assoc name (c ∷ []) cs)
    at false h ih = sym (ap (λ (b : Bool). (begins_name n && b) && is_known entities (entity (n ∷ (name ++ c ∷ cs)))) (not_all in_name name c cs h) ∙ none (begins_name n))
      where
        none : (b : Bool) → ((b && false) && is_known entities (entity (n ∷ (name ++ c ∷ cs)))) ≡ false
        none true = refl
        none false = refl

-- Numbers.

beyond_last : (n : ℕ) → 0x110000 ≤ n → is_character n ≡ false
beyond_last n h = grind arith

capped_small : (n : ℕ) → n < 0x110000 → capped n ≡ n
capped_small n h = omega arith

capped_large : (n : ℕ) → 0x110000 ≤ n → capped n ≡ 0x110000
capped_large n h = omega arith

capped_character : (n : ℕ) → is_character (capped n) ≡ is_character n
capped_character n = at (cases_lt n 0x110000)
  where
    at : (n < 0x110000) ⊎ (0x110000 ≤ n) → is_character (capped n) ≡ is_character n
    at (inl l) = ap is_character (capped_small n l)
    at (inr l) = ap is_character (capped_large n l) ∙ sym (beyond_last n l)

abbrev Caps : ℕ → Type 0
Caps base = (n d : ℕ) → capped (capped n * base + d) ≡ capped (n * base + d)

caps_ten : Caps 10
caps_ten n d = at (cases_lt n 0x110000)
  where
    at : (n < 0x110000) ⊎ (0x110000 ≤ n) → capped (capped n * 10 + d) ≡ capped (n * 10 + d)
    at (inl l) = ap (λ (m : ℕ). capped (m * 10 + d)) (capped_small n l)
    at (inr l) = ap (λ (m : ℕ). capped (m * 10 + d)) (capped_large n l) ∙ capped_large (0x110000 * 10 + d) (omega arith) ∙ sym (capped_large (n * 10 + d) (omega arith))

caps_sixteen : Caps 16
caps_sixteen n d = at (cases_lt n 0x110000)
  where
    at : (n < 0x110000) ⊎ (0x110000 ≤ n) → capped (capped n * 16 + d) ≡ capped (n * 16 + d)
    at (inl l) = ap (λ (m : ℕ). capped (m * 16 + d)) (capped_small n l)
    at (inr l) = ap (λ (m : ℕ). capped (m * 16 + d)) (capped_large n l) ∙ capped_large (0x110000 * 16 + d) (omega arith) ∙ sym (capped_large (n * 16 + d) (omega arith))

-- digits behind a number
digits_accepted : (entities : List (List ℕ)) (base : ℕ) (test : ℕ → Bool) (wrap : ℕ → OpenReference) → Caps base
    → ((n c : ℕ) → reference_step (wrap n) c ≡ (if test c then Some (wrap (capped (n * base + digit_value c))) else None)) → ((n : ℕ) → reference_good entities (wrap n) ≡ is_character n)
    → (cs : List ℕ) (n : ℕ) → accepts reference_step (reference_good entities) (wrap (capped n)) cs ≡ (list_all test cs && is_character (number_written base n cs))
digits_accepted entities base test wrap caps steps good [] n = good (capped n) ∙ capped_character n
digits_accepted entities base test wrap caps steps good (c ∷ cs) n =
    ap (λ (o : Option OpenReference). accepted o (λ g. accepts reference_step (reference_good entities) g cs)) (steps (capped n) c)
    ∙ at (test c) (digits_accepted entities base test wrap caps steps good cs (n * base + digit_value c))
  where
    at : (b : Bool) → accepts reference_step (reference_good entities) (wrap (capped (n * base + digit_value c))) cs ≡ (list_all test cs && is_character (number_written base (n * base + digit_value c) cs))
        → accepted (if b then Some (wrap (capped (capped n * base + digit_value c))) else None) (λ g. accepts reference_step (reference_good entities) g cs) ≡ ((b && list_all test cs) && is_character (number_written base (n * base + digit_value c) cs))
    at true ih = ap (λ (m : ℕ). accepts reference_step (reference_good entities) (wrap m) cs) (caps n (digit_value c)) ∙ ih
    at false ih = refl

decimals : (entities : List (List ℕ)) (cs : List ℕ) (n : ℕ) → accepts reference_step (reference_good entities) (in_decimal (capped n)) cs ≡ (list_all is_ascii_digit cs && is_character (number_written 10 n cs))
decimals entities = digits_accepted entities 10 is_ascii_digit in_decimal caps_ten (λ n c. refl) (λ n. refl)

hexadecimals : (entities : List (List ℕ)) (cs : List ℕ) (n : ℕ) → accepts reference_step (reference_good entities) (in_hexadecimal (Some (capped n))) cs ≡ (list_all is_ascii_hexdigit cs && is_character (number_written 16 n cs))
hexadecimals entities = digits_accepted entities 16 is_ascii_hexdigit (λ n. in_hexadecimal (Some n)) caps_sixteen (λ n c. refl) (λ n. refl)

hexadecimal_accepted : (entities : List (List ℕ)) (cs : List ℕ) → accepts reference_step (reference_good entities) (in_hexadecimal None) cs ≡ is_right_reference entities (hexadecimal cs)
hexadecimal_accepted entities [] = refl
hexadecimal_accepted entities (c ∷ cs) = at (is_ascii_hexdigit c)
  where
    at : (b : Bool) → accepted (if b then Some (in_hexadecimal (Some (capped (0 * 16 + digit_value c)))) else None) (λ g. accepts reference_step (reference_good entities) g cs)
        ≡ (((true && (b && list_all is_ascii_hexdigit cs)) && is_character (number_written 16 (0 * 16 + digit_value c) cs)) && true)
    at true = hexadecimals entities cs (0 * 16 + digit_value c) ∙ sym (and_true _)
    at false = refl

decimal_accepted : (entities : List (List ℕ)) (c : ℕ) (cs : List ℕ) → accepted (decimal_step 0 c) (λ g. accepts reference_step (reference_good entities) g cs) ≡ is_right_reference entities (decimal (c ∷ cs))
decimal_accepted entities c cs = at (is_ascii_digit c)
  where
    at : (b : Bool) → accepted (if b then Some (in_decimal (capped (0 * 10 + digit_value c))) else None) (λ g. accepts reference_step (reference_good entities) g cs)
        ≡ (((true && (b && list_all is_ascii_digit cs)) && is_character (number_written 10 (0 * 10 + digit_value c) cs)) && true)
    at true = decimals entities cs (0 * 10 + digit_value c) ∙ sym (and_true _)
    at false = refl

number_accepted : (entities : List (List ℕ)) (cs : List ℕ) → accepts reference_step (reference_good entities) at_number cs ≡ is_right_reference entities (numbered cs)
number_accepted entities [] = refl
number_accepted entities (c ∷ cs) = at (nat_eq c 120)
  where
    at : (b : Bool) → accepted (if b then Some (in_hexadecimal None) else decimal_step 0 c) (λ g. accepts reference_step (reference_good entities) g cs) ≡ is_right_reference entities (if b then hexadecimal cs else decimal (c ∷ cs))
    at true = hexadecimal_accepted entities cs
    at false = decimal_accepted entities c cs

pub references_accepted : (entities : List (List ℕ)) (cs : List ℕ) → accepts reference_step (reference_good entities) (in_entity []) cs ≡ is_right_reference entities (reference_of cs)
references_accepted entities [] = refl
references_accepted entities (c ∷ cs) = at (nat_eq c 35)
  where
    named : (b : Bool) → begins_name c ≡ b → accepted (if b then Some (in_entity (c ∷ [])) else None) (λ g. accepts reference_step (reference_good entities) g cs) ≡ ((b && list_all in_name cs) && is_known entities (entity (c ∷ cs)))
    named true h = entity_accepted entities cs c [] ∙ ap (λ (b : Bool). (b && list_all in_name cs) && is_known entities (entity (c ∷ cs))) h
    named false h = refl

    at : (b : Bool) → accepted (if b then Some at_number else (if begins_name c then Some (in_entity (c ∷ [])) else None)) (λ g. accepts reference_step (reference_good entities) g cs)
        ≡ is_right_reference entities (if b then numbered cs else entity (c ∷ cs))
    at true = number_accepted entities cs
    at false = named (begins_name c) refl
