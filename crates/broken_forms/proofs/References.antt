-- References to known entities and by any numbers, and end tags of declared elements.
use Rattle.std.proofs.Common.{◌≡◌, ◌⊎◌, inl, inr, ℕ, ◌<◌, Bool, true, false, List, [], ◌∷◌, ◌++◌, refl, sym, ◌∙◌, ap, subst, arith}
use Rattle.std.specs.Prelude.{bytes_eq, ◌&&◌, ◌||◌, codes}
use Rattle.std.specs.Char.{is_ascii_digit, is_ascii_hexdigit}
use Rattle.std.specs.List.{list_all, list_any}
use Rattle.std.specs.Str.{encode_utf8_all}
use Rattle.std.proofs.lemmas.Bool.{and_parts, and_from, or_cases, or_left, or_right}
use Rattle.std.proofs.lemmas.Bool.Decides.{nat_tests}
use Rattle.xml_text.specs.Characters.{is_blank}
use Rattle.xml_text.specs.Names.{is_name}
use Rattle.dtd_model.specs.References.{Reference, decimal, hexadecimal, entity, reference_then, is_some, is_known, known_entities}
use Rattle.dtd_model.specs.Table.{Table}
use Rattle.derivatives.specs.Expressions.{Expr, Matches}
use Rattle.page_model.specs.Attributes.{find_rule, is_some_rule}
use Rattle.page_model.specs.Broken.{is_loose_reference, loose_bytes}
use Rattle.page_model.specs.PageTokens.{piece_bytes}
use Rattle.page_model.specs.Parts.{reference}
use Rattle.page_model.specs.Pieces.{Piece, end_tag, leaf, piece_then}
use Rattle.page_forms.specs.Words.{one_of_words, blanks}
use Rattle.page_forms.proofs.NameForms.{FirstAnd, spells_class, spells_first_and, spells_blanks}
use Rattle.page_forms.proofs.Spelling.{Spells, Chained, spells_chain, spells_either, spells_word, spells_as}
use Rattle.page_forms.proofs.WordForms.{IsWordOf, spells_words, name_ascii}
use Rattle.coarse_forms.specs.Laws.{OfBytes}
use Rattle.coarse_forms.proofs.Counted.{coarse_bytes}
use Rattle.broken_forms.specs.LooseForms.{names_of, end_form, some_digits, loose_reference_form}
use Rattle.broken_forms.specs.Laws.{EndsAreSpelled, LooseReferencesAreSpelled}
use Rattle.broken_forms.proofs.Coarse.{ends_within, references_within}
use Rattle.broken_forms.proofs.LooseTags.{found_word, word_found}

-- Digits.

abbrev Digits : (ℕ → Bool) → List ℕ → Type 0
Digits is_digit cs = (is_some cs && list_all is_digit cs) ≡ true

spells_digits : (is_digit : ℕ → Bool) → ((c : ℕ) → is_digit c ≡ true → c < 128) → Spells (some_digits is_digit) (Digits is_digit)
spells_digits is_digit small = spells_as (spells_first_and (spells_class is_digit small) (spells_class is_digit small)) into from
  where
    into : (cs : List ℕ) → FirstAnd is_digit is_digit cs → Digits is_digit cs
    into cs f = subst (Digits is_digit) f.is (and_from (is_digit f.head) (list_all is_digit f.tail) f.head_passes f.tail_passes)

    from : (cs : List ℕ) → Digits is_digit cs → FirstAnd is_digit is_digit cs
    from [] h = cc
    from (c ∷ cs) h = let p = and_parts (is_digit c) (list_all is_digit cs) h in record { head = c; tail = cs; head_passes = p.0; tail_passes = p.1; is = refl }

digit_small : (c : ℕ) → is_ascii_digit c ≡ true → c < 128
digit_small c h = grind (arith, nat_tests)

hexdigit_small : (c : ℕ) → is_ascii_hexdigit c ≡ true → c < 128
hexdigit_small c h = grind (arith, nat_tests)

-- References.

-- a loose reference, spelled by the characters
record IsReference (table : Table) (cs : List ℕ) : Type 0 where
  to : Reference
  loose : is_loose_reference table to ≡ true
  is : reference_then to [] ≡ cs

abbrev Numbers : List ℕ → Type 0
Numbers = Chained (λ cs. codes "#" ≡ cs) (λ cs. Digits is_ascii_digit cs ⊎ Chained (λ ds. codes "x" ≡ ds) (Digits is_ascii_hexdigit) cs)

abbrev Names : List (List ℕ) → List ℕ → Type 0
Names entities cs = IsWordOf is_name known_entities cs ⊎ IsWordOf is_name entities cs

abbrev Body : List (List ℕ) → List ℕ → Type 0
Body entities cs = Numbers cs ⊎ Names entities cs

-- `&` before it and `;` behind
abbrev wrapped : List ℕ → List ℕ
wrapped cs = 38 ∷ (cs ++ 59 ∷ [])

numbers_into : (table : Table) (first second : List ℕ) → codes "#" ≡ first → Digits is_ascii_digit second ⊎ Chained (λ ds. codes "x" ≡ ds) (Digits is_ascii_hexdigit) second → IsReference table (wrapped (first ++ second))
numbers_into table first second e (inl n) = record { to = decimal second; loose = n; is = ap (λ (z : List ℕ). wrapped (z ++ second)) e }
numbers_into table first second e (inr k) = record {
  to = hexadecimal k.second;
  loose = k.goes_on;
  is = ap (λ (z : List ℕ). wrapped (35 ∷ (z ++ k.second))) k.begins ∙ ap (λ (z : List ℕ). wrapped (35 ∷ z)) k.is ∙ ap (λ (z : List ℕ). wrapped (z ++ second)) e;
}

names_into : (table : Table) (cs : List ℕ) → Names table.entities cs → IsReference table (wrapped cs)
names_into table cs (inl i) =
    record { to = entity cs; loose = and_from (is_name cs) (is_known table.entities (entity cs)) i.passes (or_left (list_any (bytes_eq cs) known_entities) (list_any (bytes_eq cs) table.entities) i.among); is = refl }
names_into table cs (inr i) =
    record { to = entity cs; loose = and_from (is_name cs) (is_known table.entities (entity cs)) i.passes (or_right (list_any (bytes_eq cs) known_entities) (list_any (bytes_eq cs) table.entities) i.among); is = refl }

body_into : (table : Table) (cs : List ℕ) → Body table.entities cs → IsReference table (wrapped cs)
body_into table cs (inl k) = subst (λ (z : List ℕ). IsReference table (wrapped z)) k.is (numbers_into table k.first k.second k.begins k.goes_on)
body_into table cs (inr n) = names_into table cs n

abbrev Parts : List (List ℕ) → List ℕ → Type 0
Parts entities = Chained (λ cs. codes "&" ≡ cs) (Chained (Body entities) (λ cs. codes ";" ≡ cs))

parts_into : (table : Table) (cs : List ℕ) → Parts table.entities cs → IsReference table cs
parts_into table cs c =
    let k = c.goes_on in
    subst (IsReference table)
    (ap (λ (z : List ℕ). z ++ (k.first ++ 59 ∷ [])) c.begins ∙ ap (λ (z : List ℕ). c.first ++ z) (ap (λ (z : List ℕ). k.first ++ z) k.goes_on ∙ k.is) ∙ c.is)
    (body_into table k.first k.begins)

unwrapped : (entities : List (List ℕ)) (cs : List ℕ) → Body entities cs → Parts entities (wrapped cs)
unwrapped entities cs b = record { first = codes "&"; second = cs ++ 59 ∷ []; begins = refl; goes_on = record { first = cs; second = codes ";"; begins = b; goes_on = refl; is = refl }; is = refl }

parts_from : (table : Table) (cs : List ℕ) → IsReference table cs → Parts table.entities cs
parts_from table cs r = subst (Parts table.entities) r.is (at r.to r.loose)
  where
    at : (r : Reference) → is_loose_reference table r ≡ true → Parts table.entities (reference_then r [])
    at (decimal ds) h = unwrapped table.entities (35 ∷ ds) (inl (record { first = codes "#"; second = ds; begins = refl; goes_on = inl h; is = refl }))
    at (hexadecimal ds) h = unwrapped table.entities (35 ∷ 120 ∷ ds) (inl (record {
      first = codes "#";
      second = 120 ∷ ds;
      begins = refl;
      goes_on = inr (record { first = codes "x"; second = ds; begins = refl; goes_on = h; is = refl });
      is = refl;
    }))
    at (entity name) h =
        let p = and_parts (is_name name) (is_known table.entities (entity name)) h in
        unwrapped table.entities name (inr (by p.0 (or_cases (list_any (bytes_eq name) known_entities) (list_any (bytes_eq name) table.entities) p.1)))
      where
        by : is_name name ≡ true → (list_any (bytes_eq name) known_entities ≡ true) ⊎ (list_any (bytes_eq name) table.entities ≡ true) → Names table.entities name
        by g (inl m) = inl (record { passes = g; among = m })
        by g (inr m) = inr (record { passes = g; among = m })

spells_reference : (table : Table) → Spells (loose_reference_form table.entities) (IsReference table)
unfolding loose_reference_form
spells_reference table =
    spells_as
    (spells_chain (spells_word (codes "&") refl)
    (spells_chain
    (spells_either (spells_chain (spells_word (codes "#") refl) (spells_either (spells_digits is_ascii_digit digit_small) (spells_chain (spells_word (codes "x") refl) (spells_digits is_ascii_hexdigit hexdigit_small))))
    (spells_either (spells_words is_name name_ascii known_entities) (spells_words is_name name_ascii table.entities)))
    (spells_word (codes ";") refl)))
    (parts_into table) (parts_from table)

pub reference_shown : (table : Table) (bytes : List ℕ) → Matches (loose_reference_form table.entities) bytes → (r : Reference) × (is_loose_reference table r ≡ true) × (piece_bytes (leaf (reference r)) ≡ bytes)
reference_shown table bytes d =
    let s = (spells_reference table).shown bytes d in
    (s.are.to, s.are.loose, ap encode_utf8_all s.are.is ∙ s.is)

pub reference_made : (table : Table) (r : Reference) → is_loose_reference table r ≡ true → Matches (loose_reference_form table.entities) (piece_bytes (leaf (reference r)))
reference_made table r h = (spells_reference table).made (reference_then r []) (record { to = r; loose = h; is = refl })

pub loose_references_are_spelled : LooseReferencesAreSpelled
loose_references_are_spelled table bytes = (
  λ d. let s = reference_shown table bytes d in (leaf (reference s.0), (s.0, refl, s.1), subst OfBytes (sym s.2) (coarse_bytes bytes ((references_within table.entities).goes bytes d)), s.2),
  λ q. subst (λ (z : List ℕ). Matches (loose_reference_form table.entities) z) (ap loose_bytes (sym q.1.1) ∙ q.3) (reference_made table q.1.0 q.1.2),
)

-- End tags.

record IsEnd (table : Table) (cs : List ℕ) : Type 0 where
  name : List ℕ
  space : List ℕ
  named : is_name name ≡ true
  blank : list_all is_blank space ≡ true
  declared : is_some_rule (find_rule table.elements name) ≡ true
  is : piece_then (end_tag name space) [] ≡ cs

abbrev EndParts : Table → List ℕ → Type 0
EndParts table = Chained (λ cs. codes "</" ≡ cs) (Chained (IsWordOf is_name (names_of table)) (Chained (λ cs. list_all is_blank cs ≡ true) (λ cs. codes ">" ≡ cs)))

end_into : (table : Table) (cs : List ℕ) → EndParts table cs → IsEnd table cs
end_into table cs c =
    let k = c.goes_on in
    let s = k.goes_on in
    record {
      name = k.first;
      space = s.first;
      named = k.begins.passes;
      blank = s.begins;
      declared = word_found table k.first k.begins.among;
      is = ap (λ (z : List ℕ). z ++ (k.first ++ (s.first ++ 62 ∷ []))) c.begins ∙ ap (λ (z : List ℕ). c.first ++ z) (ap (λ (z : List ℕ). k.first ++ z) (ap (λ (z : List ℕ). s.first ++ z) s.goes_on ∙ s.is) ∙ k.is) ∙ c.is;
    }

end_from : (table : Table) (cs : List ℕ) → IsEnd table cs → EndParts table cs
end_from table cs e =
    subst (EndParts table) e.is
    (record {
      first = codes "</";
      second = e.name ++ (e.space ++ 62 ∷ []);
      begins = refl;
      goes_on = record {
        first = e.name;
        second = e.space ++ 62 ∷ [];
        begins = record { passes = e.named; among = found_word table e.name e.declared };
        goes_on = record { first = e.space; second = 62 ∷ []; begins = e.blank; goes_on = refl; is = refl };
        is = refl;
      };
      is = refl;
    })

spells_end : (table : Table) → Spells (end_form (names_of table)) (IsEnd table)
unfolding end_form
spells_end table =
    spells_as (spells_chain (spells_word (codes "</") refl) (spells_chain (spells_words is_name name_ascii (names_of table)) (spells_chain spells_blanks (spells_word (codes ">") refl)))) (end_into table) (end_from table)

pub end_shown : (table : Table) (bytes : List ℕ) → Matches (end_form (names_of table)) bytes
    → (name : List ℕ) × (space : List ℕ) × (is_name name ≡ true) × (list_all is_blank space ≡ true) × (is_some_rule (find_rule table.elements name) ≡ true) × (piece_bytes (end_tag name space) ≡ bytes)
end_shown table bytes d =
    let s = (spells_end table).shown bytes d in
    (s.are.name, s.are.space, s.are.named, s.are.blank, s.are.declared, ap encode_utf8_all s.are.is ∙ s.is)

pub end_made : (table : Table) (name space : List ℕ) → is_name name ≡ true → list_all is_blank space ≡ true → is_some_rule (find_rule table.elements name) ≡ true → Matches (end_form (names_of table)) (piece_bytes (end_tag name space))
end_made table name space h s d = (spells_end table).made (piece_then (end_tag name space) []) (record { name = name; space = space; named = h; blank = s; declared = d; is = refl })

pub ends_are_spelled : EndsAreSpelled
ends_are_spelled table bytes = (
  λ d. let s = end_shown table bytes d in (end_tag s.0 s.1, (s.0, s.1, refl, s.2, s.3, s.4), subst OfBytes (sym s.5) (coarse_bytes bytes ((ends_within (names_of table)).goes bytes d)), s.5),
  λ q. subst (λ (z : List ℕ). Matches (end_form (names_of table)) z) (ap loose_bytes (sym q.1.2) ∙ q.3) (end_made table q.1.0 q.1.1 q.1.3 q.1.4 q.1.5),
)
