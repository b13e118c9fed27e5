-- Values that hold characters and references.
use Rattle.std.proofs.Common.{◌≡◌, ◌⊎◌, inl, inr, ℕ, zero, suc, ◌+◌, ◌<◌, ◌≤◌, Bool, true, false, List, [], ◌∷◌, ◌++◌, refl, sym, ◌∙◌, ap, subst, append_assoc, arith, length, length-append}
use Rattle.std.specs.Prelude.{not, ◌==◌, ◌&&◌, ◌||◌, if◌then◌else◌}
use Rattle.std.specs.Char.{is_ascii_digit, is_ascii_hexdigit}
use Rattle.std.specs.List.{list_all}
use Rattle.std.proofs.lemmas.Bool.{and_parts, and_from, or_parts, or_from, or_right, not-true, not_from_false, eqb-true, ne_eqb}
use Rattle.std.proofs.lemmas.Bool.Decides.{nat_tests}
use Rattle.std.proofs.lemmas.List.Folds.{list_all-append}
use Rattle.xml_text.specs.Characters.{is_character}
use Rattle.xml_text.specs.Names.{begins_name, in_name, is_name}
use Rattle.dtd_model.specs.References.{Reference, decimal, hexadecimal, entity, reference_then, is_some, is_reference, is_known, number_written}
use Rattle.derivatives.specs.Expressions.{Expr, star}
use Rattle.derivatives.specs.Derivatives.{either_of}
use Rattle.page_model.specs.Parts.{may_be_quoted, refers_by, up_to_semicolon, has_semicolon, numbered, reference_of, is_quote}
use Rattle.page_forms.specs.References.{reference_form}
use Rattle.page_forms.specs.Tags.{is_value, value_character}
use Rattle.page_forms.proofs.QuotedForms.{quote_small}
use Rattle.page_forms.proofs.OneCharacter.{IsCharacterOf, spells_character}
use Rattle.page_forms.proofs.ReferenceForms.{IsReference, spells_reference}
use Rattle.page_forms.proofs.Spelling.{Spells, Runs, over, further, spells_either, spells_star, spells_as}

-- what stands between `&` and `;`
abbrev body_of : Reference → List ℕ
body_of (decimal ds) = 35 ∷ ds
body_of (hexadecimal ds) = 35 ∷ 120 ∷ ds
body_of (entity name) = name

body_then : (r : Reference) (rest : List ℕ) → reference_then r rest ≡ 38 ∷ (body_of r ++ 59 ∷ rest)
body_then (decimal ds) rest = refl
body_then (hexadecimal ds) rest = refl
body_then (entity name) rest = refl

-- a character of a name, or `#`
abbrev in_body : ℕ → Bool
in_body c = in_name c || c == 35

digit_in : (c : ℕ) → is_ascii_digit c ≡ true → in_body c ≡ true
digit_in c h = grind (arith, nat_tests)

hexdigit_in : (c : ℕ) → is_ascii_hexdigit c ≡ true → in_body c ≡ true
hexdigit_in c h = grind (arith, nat_tests)

name_in : (c : ℕ) → in_name c ≡ true → in_body c ≡ true
name_in c h = grind (arith, nat_tests)

begins_in_body : (c : ℕ) → begins_name c ≡ true → in_body c ≡ true
begins_in_body c h = grind (arith, nat_tests)

pub all_in : (test other : ℕ → Bool) → ((c : ℕ) → test c ≡ true → other c ≡ true) → (cs : List ℕ) → list_all test cs ≡ true → list_all other cs ≡ true
all_in test other f [] h = refl
all_in test other f (c ∷ cs) h = let p = and_parts (test c) (list_all test cs) h in and_from (other c) (list_all other cs) (f c p.0) (all_in test other f cs p.1)

number_digits : (ds : List ℕ) (test : ℕ → Bool) (b : Bool) → (is_some ds && list_all test ds && b) ≡ true → (is_some ds ≡ true) × (list_all test ds ≡ true)
number_digits ds test b h = and_parts (is_some ds) (list_all test ds) (and_parts (is_some ds && list_all test ds) b h).0

body_in : (r : Reference) → is_reference r ≡ true → list_all in_body (body_of r) ≡ true
body_in (decimal ds) h = all_in is_ascii_digit in_body digit_in ds (number_digits ds is_ascii_digit (is_character (number_written 10 0 ds)) h).1
body_in (hexadecimal ds) h = all_in is_ascii_hexdigit in_body hexdigit_in ds (number_digits ds is_ascii_hexdigit (is_character (number_written 16 0 ds)) h).1
body_in (entity []) h = refl
body_in (entity (c ∷ cs)) h = let p = and_parts (begins_name c) (list_all in_name cs) h in and_from (in_body c) (list_all in_body cs) (begins_in_body c p.0) (all_in in_name in_body name_in cs p.1)

-- and the reference is read of it
body_read : (r : Reference) → is_reference r ≡ true → reference_of (body_of r) ≡ r
body_read (decimal []) h = refl
body_read (decimal (d ∷ ds)) h =
    let p = and_parts (is_ascii_digit d) (list_all is_ascii_digit ds) (number_digits (d ∷ ds) is_ascii_digit (is_character (number_written 10 0 (d ∷ ds))) h).1 in
    ap (λ (x : Bool). if x then hexadecimal ds else decimal (d ∷ ds)) (no_x d p.0)
  where
    no_x : (d : ℕ) → is_ascii_digit d ≡ true → (d == 120) ≡ false
    no_x d h = grind (arith, nat_tests)
body_read (hexadecimal ds) h = refl
body_read (entity []) h = refl
body_read (entity (c ∷ cs)) h =
    let p = and_parts (begins_name c) (list_all in_name cs) h in ap (λ (x : Bool). if x then numbered cs else entity (c ∷ cs)) (no_hash c p.0)
  where
    no_hash : (c : ℕ) → begins_name c ≡ true → (c == 35) ≡ false
    no_hash c h = grind (arith, nat_tests)

-- whatever stands between `&` and `;` is the body of what is read of it
body_back : (cs : List ℕ) → body_of (reference_of cs) ≡ cs
body_back [] = refl
body_back (c ∷ cs) = at (c == 35) refl
  where
    number : (cs : List ℕ) → body_of (numbered cs) ≡ 35 ∷ cs
    number [] = refl
    number (d ∷ ds) = by (d == 120) refl
      where
        by : (x : Bool) → (d == 120) ≡ x → body_of (if x then hexadecimal ds else decimal (d ∷ ds)) ≡ 35 ∷ d ∷ ds
        by true e = ap (λ (z : ℕ). 35 ∷ z ∷ ds) (sym (eqb-true d 120 e))
        by false e = refl

    at : (x : Bool) → (c == 35) ≡ x → body_of (if x then numbered cs else entity (c ∷ cs)) ≡ c ∷ cs
    at true e = number cs ∙ ap (λ (z : ℕ). z ∷ cs) (sym (eqb-true c 35 e))
    at false e = refl

-- Where a body stands in a text.

no_semicolon : (c : ℕ) → in_body c ≡ true → (c == 59) ≡ false
no_semicolon c h = grind (arith, nat_tests)

no_ampersand : (c : ℕ) → in_body c ≡ true → (c == 38) ≡ false
no_ampersand c h = grind (arith, nat_tests)

body_up_to : (body rest : List ℕ) → list_all in_body body ≡ true → up_to_semicolon (body ++ 59 ∷ rest) ≡ body
body_up_to [] rest h = refl
body_up_to (c ∷ body) rest h =
    let p = and_parts (in_body c) (list_all in_body body) h in
    ap (λ (x : Bool). if x then [] else c ∷ up_to_semicolon (body ++ 59 ∷ rest)) (no_semicolon c p.0) ∙ ap (λ (z : List ℕ). c ∷ z) (body_up_to body rest p.1)

some_semicolon : (body rest : List ℕ) → has_semicolon (body ++ 59 ∷ rest) ≡ true
some_semicolon [] rest = refl
some_semicolon (c ∷ body) rest = or_right (c == 59) (has_semicolon (body ++ 59 ∷ rest)) (some_semicolon body rest)

pub plain_refers : (test : Reference → Bool) (c : ℕ) (cs : List ℕ) → (c == 38) ≡ false → refers_by test (c ∷ cs) ≡ refers_by test cs
plain_refers test c cs h = ap (λ (x : Bool). (if x then has_semicolon cs && test (reference_of (up_to_semicolon cs)) else true) && refers_by test cs) h

body_refers : (test : Reference → Bool) (body rest : List ℕ) → list_all in_body body ≡ true → refers_by test (body ++ 59 ∷ rest) ≡ refers_by test rest
body_refers test [] rest h = refl
body_refers test (c ∷ body) rest h =
    let p = and_parts (in_body c) (list_all in_body body) h in plain_refers test c (body ++ 59 ∷ rest) (no_ampersand c p.0) ∙ body_refers test body rest p.1

-- a reference before a text
reference_refers : (test : Reference → Bool) (r : Reference) (rest : List ℕ) → is_reference r ≡ true → test r ≡ true → refers_by test rest ≡ true → refers_by test (reference_then r rest) ≡ true
reference_refers test r rest h t e =
    let b = body_in r h in
    ap (refers_by test) (body_then r rest)
    ∙ and_from (has_semicolon (body_of r ++ 59 ∷ rest) && test (reference_of (up_to_semicolon (body_of r ++ 59 ∷ rest)))) (refers_by test (body_of r ++ 59 ∷ rest))
    (and_from (has_semicolon (body_of r ++ 59 ∷ rest)) (test (reference_of (up_to_semicolon (body_of r ++ 59 ∷ rest)))) (some_semicolon (body_of r) rest)
    (ap test (ap reference_of (body_up_to (body_of r) rest b) ∙ body_read r h) ∙ t))
    (body_refers test (body_of r) rest b ∙ e)

body_quoted : (q : ℕ) → is_quote q ≡ true → (c : ℕ) → in_body c ≡ true → may_be_quoted q c ≡ true
body_quoted q h c e = grind (arith, nat_tests)

marks_quoted : (q : ℕ) → is_quote q ≡ true → (may_be_quoted q 38 ≡ true) × (may_be_quoted q 59 ≡ true)
marks_quoted q h = (grind (arith, nat_tests), grind (arith, nat_tests))

reference_quoted : (q : ℕ) → is_quote q ≡ true → (r : Reference) (rest : List ℕ) → is_reference r ≡ true → list_all (may_be_quoted q) rest ≡ true → list_all (may_be_quoted q) (reference_then r rest) ≡ true
reference_quoted q h r rest g e =
    let m = marks_quoted q h in
    ap (list_all (may_be_quoted q)) (body_then r rest)
    ∙ and_from (may_be_quoted q 38) (list_all (may_be_quoted q) (body_of r ++ 59 ∷ rest)) m.0
    (list_all-append (may_be_quoted q) (body_of r) (59 ∷ rest)
    ∙ and_from (list_all (may_be_quoted q) (body_of r)) (list_all (may_be_quoted q) (59 ∷ rest)) (all_in in_body (may_be_quoted q) (body_quoted q h) (body_of r) (body_in r g))
    (and_from (may_be_quoted q 59) (list_all (may_be_quoted q) rest) m.1 e))

-- The value by its parts.

pub record IsValue (entities : List (List ℕ)) (q : ℕ) (cs : List ℕ) : Type 0 where
  pub quoted : list_all (may_be_quoted q) cs ≡ true
  pub refers : refers_by is_reference cs ≡ true
  pub known : refers_by (is_known entities) cs ≡ true

pub value_is : (entities : List (List ℕ)) (q : ℕ) (cs : List ℕ) → IsValue entities q cs → is_value entities q cs ≡ true
value_is entities q cs v =
    and_from (list_all (may_be_quoted q) cs && refers_by is_reference cs) (refers_by (is_known entities) cs) (and_from (list_all (may_be_quoted q) cs) (refers_by is_reference cs) v.quoted v.refers) v.known

pub is_value_of : (entities : List (List ℕ)) (q : ℕ) (cs : List ℕ) → is_value entities q cs ≡ true → IsValue entities q cs
is_value_of entities q cs h =
    let p = and_parts (list_all (may_be_quoted q) cs && refers_by is_reference cs) (refers_by (is_known entities) cs) h in
    let r = and_parts (list_all (may_be_quoted q) cs) (refers_by is_reference cs) p.0 in
    record { quoted = r.0; refers = r.1; known = p.1 }

abbrev Plain : ℕ → List ℕ → Type 0
Plain q = IsCharacterOf (λ c. not (c == 60 || c == 38 || c == q))

abbrev Part : List (List ℕ) → ℕ → List ℕ → Type 0
Part entities q cs = Plain q cs ⊎ IsReference entities cs

plain_parts : (q c : ℕ) → (is_character c && not (c == 60 || c == 38 || c == q)) ≡ true → (may_be_quoted q c ≡ true) × ((c == 38) ≡ false)
plain_parts q c h =
    let p = and_parts (is_character c) (not (c == 60 || c == 38 || c == q)) h in
    let r = or_parts (c == 60 || c == 38) (c == q) (not-true (c == 60 || c == 38 || c == q) p.1) in
    let s = or_parts (c == 60) (c == 38) r.0 in
    (and_from (is_character c) (not (c == 60 || c == q)) p.0 (not_from_false (c == 60 || c == q) (or_from (c == 60) (c == q) s.0 r.1)), s.1)

parts_plain : (q c : ℕ) → may_be_quoted q c ≡ true → (c == 38) ≡ false → (is_character c && not (c == 60 || c == 38 || c == q)) ≡ true
parts_plain q c h e =
    let p = and_parts (is_character c) (not (c == 60 || c == q)) h in
    let r = or_parts (c == 60) (c == q) (not-true (c == 60 || c == q) p.1) in
    and_from (is_character c) (not (c == 60 || c == 38 || c == q)) p.0
    (not_from_false (c == 60 || c == 38 || c == q) (or_from (c == 60 || c == 38) (c == q) (or_from (c == 60) (c == 38) r.0 e) r.1))

plain_more : (entities : List (List ℕ)) (q c : ℕ) (cs : List ℕ) → may_be_quoted q c ≡ true → (c == 38) ≡ false → IsValue entities q cs → IsValue entities q (c ∷ cs)
plain_more entities q c cs h e v = record {
  quoted = and_from (may_be_quoted q c) (list_all (may_be_quoted q) cs) h v.quoted;
  refers = plain_refers is_reference c cs e ∙ v.refers;
  known = plain_refers (is_known entities) c cs e ∙ v.known;
}

then_is_before : (r : Reference) (rest : List ℕ) → reference_then r rest ≡ reference_then r [] ++ rest
then_is_before r rest =
    body_then r rest ∙ ap (λ (z : List ℕ). 38 ∷ z) (sym (append_assoc (body_of r) (59 ∷ []) rest)) ∙ ap (λ (z : List ℕ). z ++ rest) (sym (body_then r []))

parts_value : (entities : List (List ℕ)) (q : ℕ) → is_quote q ≡ true → {cs : List ℕ} → Runs (Part entities q) cs → IsValue entities q cs
parts_value entities q h over = record { quoted = refl; refers = refl; known = refl }
parts_value entities q h (further {more = more} (inl o) rs) =
    let p = plain_parts q o.character o.passes in
    subst (λ (z : List ℕ). IsValue entities q (z ++ more)) o.is (plain_more entities q o.character more p.0 p.1 (parts_value entities q h rs))
parts_value entities q h (further {first = first} {more = more} (inr r) rs) =
    let v = parts_value entities q h rs in
    subst (IsValue entities q) (then_is_before r.to more ∙ ap (λ (z : List ℕ). z ++ more) r.is) (record {
      quoted = reference_quoted q h r.to more r.lawful v.quoted;
      refers = reference_refers is_reference r.to more r.lawful r.lawful v.refers;
      known = reference_refers (is_known entities) r.to more r.lawful r.known v.known;
    })

-- what stands up to the first `;`, and what behind it
record AtSemicolon (cs : List ℕ) : Type 0 where
  rest : List ℕ
  is : up_to_semicolon cs ++ 59 ∷ rest ≡ cs

at_semicolon : (cs : List ℕ) → has_semicolon cs ≡ true → AtSemicolon cs
at_semicolon [] h = absurd (no h)
  where
    no : false ≡ true → ⊥
    no e = cc
at_semicolon (c ∷ cs) h = at (c == 59) refl h (λ g. at_semicolon cs g)
  where
    put : (x : Bool) → (c == 59) ≡ x → (rest : List ℕ) → (if x then [] else c ∷ up_to_semicolon cs) ++ 59 ∷ rest ≡ c ∷ cs → AtSemicolon (c ∷ cs)
    put x e rest i = record { rest = rest; is = ap (λ (b : Bool). (if b then [] else c ∷ up_to_semicolon cs) ++ 59 ∷ rest) e ∙ i }

    at : (x : Bool) → (c == 59) ≡ x → (x || has_semicolon cs) ≡ true → (has_semicolon cs ≡ true → AtSemicolon cs) → AtSemicolon (c ∷ cs)
    at true e h f = put true e cs (ap (λ (z : ℕ). z ∷ cs) (sym (eqb-true c 59 e)))
    at false e h f = let s = f h in put false e s.rest (ap (λ (z : List ℕ). c ∷ z) s.is)

refers_behind : (test : Reference → Bool) (xs ys : List ℕ) → refers_by test (xs ++ ys) ≡ true → refers_by test ys ≡ true
refers_behind test [] ys h = h
refers_behind test (x ∷ xs) ys h =
    refers_behind test xs ys (and_parts (if x == 38 then has_semicolon (xs ++ ys) && test (reference_of (up_to_semicolon (xs ++ ys))) else true) (refers_by test (xs ++ ys)) h).1

quoted_behind : (q : ℕ) (xs ys : List ℕ) → list_all (may_be_quoted q) (xs ++ ys) ≡ true → list_all (may_be_quoted q) ys ≡ true
quoted_behind q xs ys h = (and_parts (list_all (may_be_quoted q) xs) (list_all (may_be_quoted q) ys) (sym (list_all-append (may_be_quoted q) xs ys) ∙ h)).1

value_behind : (entities : List (List ℕ)) (q : ℕ) (xs ys : List ℕ) → IsValue entities q (xs ++ ys) → IsValue entities q ys
value_behind entities q xs ys v = record { quoted = quoted_behind q xs ys v.quoted; refers = refers_behind is_reference xs ys v.refers; known = refers_behind (is_known entities) xs ys v.known }

-- an `&` begins a reference
refers_first : (test : Reference → Bool) (cs : List ℕ) → refers_by test (38 ∷ cs) ≡ true → (has_semicolon cs ≡ true) × (test (reference_of (up_to_semicolon cs)) ≡ true)
refers_first test cs h =
    and_parts (has_semicolon cs) (test (reference_of (up_to_semicolon cs))) (and_parts (has_semicolon cs && test (reference_of (up_to_semicolon cs))) (refers_by test cs) h).0

value_parts : (entities : List (List ℕ)) (q n : ℕ) (cs : List ℕ) → length cs ≤ n → IsValue entities q cs → Runs (Part entities q) cs
value_parts entities q n [] l v = over
value_parts entities q zero (c ∷ cs) l v = absurd (omega (arith, l))
value_parts entities q (suc n) (c ∷ cs) l v = at (c == 38) refl (λ xs m w. value_parts entities q n xs m w)
  where
    plain : (c == 38) ≡ false → Runs (Part entities q) cs → Runs (Part entities q) (c ∷ cs)
    plain e r =
        further {first = c ∷ []} (inl (record { character = c; passes = parts_plain q c (and_parts (may_be_quoted q c) (list_all (may_be_quoted q) cs) v.quoted).0 e; is = refl })) r

    shorter : (body rest : List ℕ) → body ++ 59 ∷ rest ≡ cs → length rest ≤ n
    shorter body rest e =
        let a : length (body ++ 59 ∷ rest) ≡ length body + length (59 ∷ rest) = length-append body (59 ∷ rest) in
        let b : length (body ++ 59 ∷ rest) ≡ length cs = ap length e in
        let d : length (59 ∷ rest) ≡ suc (length rest) = refl in
        omega (arith, l, a, b, d)

    referring : IsValue entities q (38 ∷ cs) → ((xs : List ℕ) → length xs ≤ n → IsValue entities q xs → Runs (Part entities q) xs) → Runs (Part entities q) (38 ∷ cs)
    referring w f =
        let r = refers_first is_reference cs w.refers in
        let k = refers_first (is_known entities) cs w.known in
        let s = at_semicolon cs r.0 in
        let body = up_to_semicolon cs in
        let whole : (38 ∷ (body ++ 59 ∷ [])) ++ s.rest ≡ 38 ∷ cs = ap (λ (z : List ℕ). 38 ∷ z) (append_assoc body (59 ∷ []) s.rest ∙ s.is) in
        subst (Runs (Part entities q)) whole
        (further {first = 38 ∷ (body ++ 59 ∷ [])} (inr (record {
          to = reference_of body;
          lawful = r.1;
          known = k.1;
          is = body_then (reference_of body) [] ∙ ap (λ (z : List ℕ). 38 ∷ (z ++ 59 ∷ [])) (body_back body);
        })) (f s.rest (shorter body s.rest s.is) (value_behind entities q (38 ∷ (body ++ 59 ∷ [])) s.rest (subst (IsValue entities q) (sym whole) w))))

    at : (x : Bool) → (c == 38) ≡ x → ((xs : List ℕ) → length xs ≤ n → IsValue entities q xs → Runs (Part entities q) xs) → Runs (Part entities q) (c ∷ cs)
    at true e f = let is : 38 ≡ c = sym (eqb-true c 38 e) in subst (λ (z : ℕ). Runs (Part entities q) (z ∷ cs)) is (referring (subst (λ (z : ℕ). IsValue entities q (z ∷ cs)) (sym is) v) f)
    at false e f = plain e (f cs (omega (arith, l)) (value_behind entities q (c ∷ []) cs v))

spells_plain : (q : ℕ) → is_quote q ≡ true → Spells (value_character q) (Plain q)
spells_plain q h = spells_character (λ c. not (c == 60 || c == 38 || c == q)) (λ c l. beyond c l)
  where
    small : q < 128
    small = quote_small q h

    beyond : (c : ℕ) → 128 ≤ c → not (c == 60 || c == 38 || c == q) ≡ true
    beyond c l =
        not_from_false (c == 60 || c == 38 || c == q)
        (or_from (c == 60 || c == 38) (c == q) (or_from (c == 60) (c == 38) (ne_eqb c 60 (λ e. absurd (omega (arith, l, e)))) (ne_eqb c 38 (λ e. absurd (omega (arith, l, e)))))
        (ne_eqb c q (λ e. let s = small in absurd (omega (arith, l, e, s)))))

pub spells_value : (entities : List (List ℕ)) (q : ℕ) → is_quote q ≡ true → Spells (star (either_of (value_character q) (reference_form entities))) (IsValue entities q)
spells_value entities q h =
    spells_as (spells_star (spells_either (spells_plain q h) (spells_reference entities))) (λ cs r. parts_value entities q h r) (λ cs v. value_parts entities q (length cs) cs (omega arith) v)
