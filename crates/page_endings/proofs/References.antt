-- Each reference that passes has an end.
use Rattle.std.proofs.Common.{◌≡◌, ◌⊎◌, inl, inr, ℕ, ◌+◌, ◌*◌, ◌≤◌, ◌<◌, Bool, true, false, ◌||◌, List, [], ◌∷◌, ◌++◌, Some, None, refl, sym, ◌∙◌, ap, subst, arith, append-nil, append_assoc}
use Rattle.std.specs.Prelude.{if◌then◌else◌, nat_eq, bytes_eq}
use Rattle.std.specs.List.{list_all, list_any}
use Rattle.std.proofs.lemmas.Bool.{and_parts, and_from, leb-true, cases_lt}
use Rattle.std.proofs.lemmas.Bool.Decides.{nat_tests}
use Rattle.std.proofs.lemmas.List.Folds.{list_any-append, list_all-append}
use Rattle.xml_text.specs.Characters.{is_character}
use Rattle.xml_text.specs.Names.{begins_name, in_name, is_name}
use Rattle.dtd_model.specs.References.{entity, is_known, known_entities}
use Rattle.piece_steps.specs.Insides.{accepted, accepts}
use Rattle.page_model.specs.OpenValues.{OpenReference, in_entity, at_number, in_decimal, in_hexadecimal, capped}
use Rattle.page_steps.specs.DoctypeSteps.{begins}
use Rattle.page_steps.specs.ReferenceSteps.{reference_step, reference_good}
use Rattle.page_endings.specs.Ending.{reference_can_end}
use Rattle.page_endings.proofs.Among.{begins_in}
use Rattle.page_endings.proofs.Declared.{itself, begun}

-- what makes a reference good: characters of names
pub record Referred (entities : List (List ℕ)) (r : OpenReference) : Type 0 where
  pub rest : List ℕ
  pub plain : list_all in_name rest ≡ true
  pub taken : accepts reference_step (reference_good entities) r rest ≡ true

-- Entities.

-- one of the names that passes, with what it is among
pub record PickedName (names : List (List ℕ)) (test : List ℕ → Bool) : Type 0 where
  pub name : List ℕ
  pub named : is_name name ≡ true
  pub among : list_any (bytes_eq name) names ≡ true
  pub passes : test name ≡ true

or_true : (b : Bool) → (b || true) ≡ true
or_true true = refl
or_true false = refl

pub picked_name : (names : List (List ℕ)) (test : List ℕ → Bool) → list_all is_name names ≡ true → list_any test names ≡ true → PickedName names test
picked_name [] test n e = cc
picked_name (x ∷ xs) test n e = let p = and_parts (is_name x) (list_all is_name xs) n in at (test x) refl e p (picked_name xs test p.1)
  where
    at : (b : Bool) → test x ≡ b → (b || list_any test xs) ≡ true → (is_name x ≡ true) × (list_all is_name xs ≡ true) → (list_any test xs ≡ true → PickedName xs test) → PickedName (x ∷ xs) test
    at true q i p ih = record { name = x; named = p.0; among = ap (λ (b : Bool). b || list_any (bytes_eq x) xs) (itself x); passes = q }
    at false q i p ih =
        let z = ih i in
        record { name = z.name; named = z.named; among = ap (λ (b : Bool). bytes_eq z.name x || b) z.among ∙ or_true (bytes_eq z.name x); passes = z.passes }

over_entity : (entities : List (List ℕ)) (n : ℕ) (name more : List ℕ) → list_all in_name more ≡ true → reference_good entities (in_entity (n ∷ (name ++ more))) ≡ true
    → accepts reference_step (reference_good entities) (in_entity (n ∷ name)) more ≡ true
over_entity entities n name [] h e = subst (λ (w : List ℕ). reference_good entities (in_entity (n ∷ w)) ≡ true) (append-nil name) e
over_entity entities n name (c ∷ more) h e =
    let p = and_parts (in_name c) (list_all in_name more) h in
    ap (λ (b : Bool). accepted (if b then Some (in_entity (n ∷ (name ++ c ∷ []))) else None) (λ g. accepts reference_step (reference_good entities) g more)) p.0
    ∙ over_entity entities n (name ++ c ∷ []) more p.1 (subst (λ (w : List ℕ). reference_good entities (in_entity (n ∷ w)) ≡ true) (sym (append_assoc name (c ∷ []) more)) e)

pub part_all : (test : ℕ → Bool) (xs ys : List ℕ) → list_all test (xs ++ ys) ≡ true → list_all test ys ≡ true
part_all test [] ys h = h
part_all test (x ∷ xs) ys h = part_all test xs ys (and_parts (test x) (list_all test (xs ++ ys)) h).1

pub name_all : (name : List ℕ) → is_name name ≡ true → list_all in_name name ≡ true
name_all [] h = cc
name_all (c ∷ cs) h = let p = and_parts (begins_name c) (list_all in_name cs) h in and_from (in_name c) (list_all in_name cs) (begins_in c p.0) p.1

no_sign : (c : ℕ) → begins_name c ≡ true → nat_eq c 35 ≡ false
no_sign c h = grind (arith, nat_tests)

entity_ends : (entities : List (List ℕ)) (front more : List ℕ) → is_name (front ++ more) ≡ true → reference_good entities (in_entity (front ++ more)) ≡ true → Referred entities (in_entity front)
entity_ends entities [] [] n e = cc
entity_ends entities [] (c ∷ more) n e =
    let p = and_parts (begins_name c) (list_all in_name more) n in
    record {
      rest = c ∷ more;
      plain = name_all (c ∷ more) n;
      taken = ap (λ (b : Bool). accepted (if b then Some at_number else (if begins_name c then Some (in_entity (c ∷ [])) else None)) (λ g. accepts reference_step (reference_good entities) g more)) (no_sign c p.0)
          ∙ ap (λ (b : Bool). accepted (if b then Some (in_entity (c ∷ [])) else None) (λ g. accepts reference_step (reference_good entities) g more)) p.0
          ∙ over_entity entities c [] more p.1 e;
    }
entity_ends entities (f ∷ front) more n e = record {
  rest = more;
  plain = part_all in_name (f ∷ front) more (name_all ((f ∷ front) ++ more) n);
  taken = over_entity entities f front more (part_all in_name (f ∷ front) more (name_all ((f ∷ front) ++ more) n)) e;
}

-- Numbers.

-- a number that is none of a character
abbrev Low : ℕ → Type 0
Low n = (n ≡ 0) ⊎ (((1 ≤ n) × (n ≤ 31)) ⊎ ((0xD800 ≤ n) × (n ≤ 0xFFFF)))

kinds : (n : ℕ) → is_character n ≡ false → n ≤ 0x10FFFF → Low n
kinds n e h = at (cases_lt n 1) (cases_lt n 32) (cases_lt n 0xD800)
  where
    high : 0xD800 ≤ n → n ≤ 0xFFFF
    high l = grind (arith, nat_tests)

    no : 32 ≤ n → n < 0xD800 → ⊥
    no l m = grind (arith, nat_tests)

    at : (n < 1) ⊎ (1 ≤ n) → (n < 32) ⊎ (32 ≤ n) → (n < 0xD800) ⊎ (0xD800 ≤ n) → Low n
    at (inl l) b c = inl (omega arith)
    at (inr l) (inl m) c = inr (inl (l, omega arith))
    at (inr l) (inr m) (inl k) = absurd (no m k)
    at (inr l) (inr m) (inr k) = inr (inr (k, high k))

middle : (n : ℕ) → 32 ≤ n → n < 0xD800 → is_character n ≡ true
middle n l m = grind (arith, nat_tests)

upper : (n : ℕ) → 0x10000 ≤ n → n ≤ 0x10FFFF → is_character n ≡ true
upper n l m = grind (arith, nat_tests)

under : (n : ℕ) → n ≤ 0x10FFFF → capped n ≡ n
under n h = omega arith

decimal_ends : (entities : List (List ℕ)) (n : ℕ) → n ≤ 0x10FFFF → Referred entities (in_decimal n)
decimal_ends entities n h = at (is_character n) refl
  where
    low : Low n → Referred entities (in_decimal n)
    low (inl e) = subst (λ (k : ℕ). Referred entities (in_decimal k)) (sym e) (record { rest = 57 ∷ []; plain = refl; taken = refl })
    low (inr (inl (l, m))) =
        let one : capped (n * 10 + 0) ≡ n * 10 = under (n * 10 + 0) (omega arith) ∙ omega arith in
        let two : capped (capped (n * 10 + 0) * 10 + 0) ≡ n * 100 = ap (λ (k : ℕ). capped (k * 10 + 0)) one ∙ under (n * 10 * 10 + 0) (omega arith) ∙ omega arith in
        record { rest = 48 ∷ 48 ∷ []; plain = refl; taken = ap is_character two ∙ middle (n * 100) (omega arith) (omega arith) }
    low (inr (inr (l, m))) =
        let one : capped (n * 10 + 0) ≡ n * 10 = under (n * 10 + 0) (omega arith) ∙ omega arith in
        record { rest = 48 ∷ []; plain = refl; taken = ap is_character one ∙ upper (n * 10) (omega arith) (omega arith) }

    at : (b : Bool) → is_character n ≡ b → Referred entities (in_decimal n)
    at true e = record { rest = []; plain = refl; taken = e }
    at false e = low (kinds n e h)

hexadecimal_ends : (entities : List (List ℕ)) (n : ℕ) → n ≤ 0x10FFFF → Referred entities (in_hexadecimal (Some n))
hexadecimal_ends entities n h = at (is_character n) refl
  where
    low : Low n → Referred entities (in_hexadecimal (Some n))
    low (inl e) = subst (λ (k : ℕ). Referred entities (in_hexadecimal (Some k))) (sym e) (record { rest = 57 ∷ []; plain = refl; taken = refl })
    low (inr (inl (l, m))) =
        let one : capped (n * 16 + 0) ≡ n * 16 = under (n * 16 + 0) (omega arith) ∙ omega arith in
        let two : capped (capped (n * 16 + 0) * 16 + 0) ≡ n * 256 = ap (λ (k : ℕ). capped (k * 16 + 0)) one ∙ under (n * 16 * 16 + 0) (omega arith) ∙ omega arith in
        record { rest = 48 ∷ 48 ∷ []; plain = refl; taken = ap is_character two ∙ middle (n * 256) (omega arith) (omega arith) }
    low (inr (inr (l, m))) =
        let one : capped (n * 16 + 0) ≡ n * 16 = under (n * 16 + 0) (omega arith) ∙ omega arith in
        record { rest = 48 ∷ []; plain = refl; taken = ap is_character one ∙ upper (n * 16) (omega arith) (omega arith) }

    at : (b : Bool) → is_character n ≡ b → Referred entities (in_hexadecimal (Some n))
    at true e = record { rest = []; plain = refl; taken = e }
    at false e = low (kinds n e h)

known_named : list_all is_name known_entities ≡ true
known_named = refl

-- each reference that passes
pub reference_ends : (entities : List (List ℕ)) (r : OpenReference) → list_all is_name entities ≡ true → reference_can_end entities r ≡ true → Referred entities r
reference_ends entities (in_entity front) n e = at (picked_name (known_entities ++ entities) (λ name. begins name front) all e)
  where
    all : list_all is_name (known_entities ++ entities) ≡ true
    all = list_all-append is_name known_entities entities ∙ and_from (list_all is_name known_entities) (list_all is_name entities) known_named n

    at : PickedName (known_entities ++ entities) (λ name. begins name front) → Referred entities (in_entity front)
    at p =
        let m = begun front p.name p.passes in
        let known : (list_any (bytes_eq p.name) known_entities || list_any (bytes_eq p.name) entities) ≡ true = sym (list_any-append (bytes_eq p.name) known_entities entities) ∙ p.among in
        let good : reference_good entities (in_entity p.name) ≡ true = and_from (is_name p.name) (is_known entities (entity p.name)) p.named known in
        entity_ends entities front m.0 (ap is_name (sym m.1) ∙ p.named) (ap (λ (w : List ℕ). reference_good entities (in_entity w)) (sym m.1) ∙ good)
reference_ends entities at_number n e = record { rest = 57 ∷ []; plain = refl; taken = refl }
reference_ends entities (in_decimal k) n e = decimal_ends entities k (leb-true k 0x10FFFF e)
reference_ends entities (in_hexadecimal None) n e = record { rest = 57 ∷ []; plain = refl; taken = refl }
reference_ends entities (in_hexadecimal (Some k)) n e = hexadecimal_ends entities k (leb-true k 0x10FFFF e)
