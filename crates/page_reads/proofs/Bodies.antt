-- What a reference has between `&` and `;`.
use Rattle.std.proofs.Common.{◌≡◌, ℕ, Bool, true, false, not, ◌&&◌, List, [], ◌∷◌, ◌++◌, refl, sym, ◌∙◌, ap, arith}
use Rattle.std.specs.Prelude.{if◌then◌else◌, nat_eq}
use Rattle.std.specs.Char.{is_ascii_digit, is_ascii_hexdigit}
use Rattle.std.specs.List.{list_all}
use Rattle.std.proofs.lemmas.Bool.{and_parts, and_from, eqb-true}
use Rattle.std.proofs.lemmas.Bool.Decides.{nat_tests}
use Rattle.xml_text.specs.Characters.{is_character}
use Rattle.xml_text.specs.Names.{begins_name, in_name, is_name}
use Rattle.dtd_model.specs.References.{Reference, decimal, hexadecimal, entity, reference_then, is_reference, is_some, number_written}
use Rattle.page_model.specs.Parts.{numbered, reference_of}
use Rattle.piece_steps.proofs.Within.{is_none}
use Rattle.attribute_steps.proofs.Over.{begins_in}

pub body_of : Reference → List ℕ
body_of (decimal digits) = 35 ∷ digits
body_of (hexadecimal digits) = 35 ∷ 120 ∷ digits
body_of (entity name) = name

pub then_body : (r : Reference) (rest : List ℕ) → reference_then r rest ≡ 38 ∷ (body_of r ++ 59 ∷ rest)
unfolding body_of
then_body (decimal digits) rest = refl
then_body (hexadecimal digits) rest = refl
then_body (entity name) rest = refl

name_free : (c : ℕ) → in_name c ≡ true → is_none 59 c ≡ true
name_free c h = grind (arith, nat_tests)

digit_free : (c : ℕ) → is_ascii_digit c ≡ true → is_none 59 c ≡ true
digit_free c h = grind (arith, nat_tests)

hexadecimal_free : (c : ℕ) → is_ascii_hexdigit c ≡ true → is_none 59 c ≡ true
hexadecimal_free c h = grind (arith, nat_tests)

digit_not_x : (c : ℕ) → is_ascii_digit c ≡ true → nat_eq c 120 ≡ false
digit_not_x c h = grind (arith, nat_tests)

begins_not_number : (c : ℕ) → begins_name c ≡ true → nat_eq c 35 ≡ false
begins_not_number c h = grind (arith, nat_tests)

all_free : (test : ℕ → Bool) → ((c : ℕ) → test c ≡ true → is_none 59 c ≡ true) → (cs : List ℕ) → list_all test cs ≡ true → list_all (is_none 59) cs ≡ true
all_free test f [] h = refl
all_free test f (c ∷ cs) h = let p = and_parts (test c) (list_all test cs) h in and_from (is_none 59 c) (list_all (is_none 59) cs) (f c p.0) (all_free test f cs p.1)

pub body_free : (r : Reference) → is_reference r ≡ true → list_all (is_none 59) (body_of r) ≡ true
unfolding body_of
body_free (decimal digits) h = all_free is_ascii_digit digit_free digits (and_parts _ _ (and_parts _ _ h).0).1
body_free (hexadecimal digits) h = all_free is_ascii_hexdigit hexadecimal_free digits (and_parts _ _ (and_parts _ _ h).0).1
body_free (entity []) h = cc
body_free (entity (c ∷ cs)) h = let p = and_parts (begins_name c) (list_all in_name cs) h in all_free in_name name_free (c ∷ cs) (and_from (in_name c) (list_all in_name cs) (begins_in c p.0) p.1)

pub body_read : (r : Reference) → is_reference r ≡ true → reference_of (body_of r) ≡ r
unfolding body_of
body_read (decimal []) h = cc
body_read (decimal (d ∷ ds)) h =
    let p = (and_parts (list_all is_ascii_digit (d ∷ ds)) (is_character (number_written 10 0 (d ∷ ds))) h).0 in
    ap (λ (b : Bool). if b then hexadecimal ds else decimal (d ∷ ds)) (digit_not_x d (and_parts (is_ascii_digit d) (list_all is_ascii_digit ds) p).0)
body_read (hexadecimal digits) h = refl
body_read (entity []) h = cc
body_read (entity (c ∷ cs)) h = ap (λ (b : Bool). if b then numbered cs else entity (c ∷ cs)) (begins_not_number c (and_parts (begins_name c) (list_all in_name cs) h).0)

-- and what was read there is spelled so
number_same : (cs : List ℕ) (rest : List ℕ) → reference_then (numbered cs) rest ≡ 38 ∷ 35 ∷ (cs ++ 59 ∷ rest)
number_same [] rest = refl
number_same (c ∷ cs) rest = at (nat_eq c 120) refl
  where
    at : (b : Bool) → nat_eq c 120 ≡ b → reference_then (if b then hexadecimal cs else decimal (c ∷ cs)) rest ≡ 38 ∷ 35 ∷ c ∷ (cs ++ 59 ∷ rest)
    at true e = ap (λ (x : ℕ). 38 ∷ 35 ∷ x ∷ (cs ++ 59 ∷ rest)) (sym (eqb-true c 120 e))
    at false e = refl

pub read_spelled : (cs rest : List ℕ) → reference_then (reference_of cs) rest ≡ 38 ∷ (cs ++ 59 ∷ rest)
read_spelled [] rest = refl
read_spelled (c ∷ cs) rest = at (nat_eq c 35) refl
  where
    at : (b : Bool) → nat_eq c 35 ≡ b → reference_then (if b then numbered cs else entity (c ∷ cs)) rest ≡ 38 ∷ c ∷ (cs ++ 59 ∷ rest)
    at true e = number_same cs rest ∙ ap (λ (x : ℕ). 38 ∷ x ∷ (cs ++ 59 ∷ rest)) (sym (eqb-true c 35 e))
    at false e = refl
