-- References.
use Rattle.std.proofs.Common.{◌≡◌, ◌⊎◌, inl, inr, ℕ, Bool, true, false, List, [], ◌∷◌, ◌++◌, refl, sym, ◌∙◌, ap, subst}
use Rattle.std.specs.Prelude.{bytes_eq, ◌&&◌, ◌||◌, codes}
use Rattle.std.specs.Char.{is_ascii_digit, is_ascii_hexdigit}
use Rattle.std.specs.List.{list_all, list_any}
use Rattle.std.proofs.lemmas.Bool.{and_parts, and_from, or_cases, or_left, or_right}
use Rattle.xml_text.specs.Characters.{is_character}
use Rattle.xml_text.specs.Names.{is_name}
use Rattle.dtd_model.specs.References.{Reference, decimal, hexadecimal, entity, reference_then, number_written, is_some, is_reference, is_known, known_entities}
use Rattle.page_model.specs.Parts.{reference}
use Rattle.page_model.specs.Pieces.{Piece, leaf, piece_then}
use Rattle.page_forms.specs.Laws.{ReferencesAreSpelled}
use Rattle.page_forms.specs.References.{reference_form}
use Rattle.page_forms.proofs.CharacterNumbers.{IsNumber, spells_decimal, spells_hexadecimal}
use Rattle.page_forms.proofs.Spelling.{Spells, Chained, spells_chain, spells_either, spells_word, spells_as, is_form_of}
use Rattle.page_forms.proofs.WordForms.{IsWordOf, spells_words, name_ascii}

-- a reference that the definition knows, spelled by the characters
pub record IsReference (entities : List (List ℕ)) (cs : List ℕ) : Type 0 where
  pub to : Reference
  pub lawful : is_reference to ≡ true
  pub known : is_known entities to ≡ true
  pub is : reference_then to [] ≡ cs

abbrev Numbers : List ℕ → Type 0
Numbers = Chained (λ cs. codes "#" ≡ cs) (λ cs. IsNumber 10 is_ascii_digit cs ⊎ Chained (λ ds. codes "x" ≡ ds) (IsNumber 16 is_ascii_hexdigit) cs)

abbrev Names : List (List ℕ) → List ℕ → Type 0
Names entities cs = IsWordOf is_name known_entities cs ⊎ IsWordOf is_name entities cs

abbrev Body : List (List ℕ) → List ℕ → Type 0
Body entities cs = Numbers cs ⊎ Names entities cs

-- `&` before it and `;` behind
abbrev wrapped : List ℕ → List ℕ
wrapped cs = 38 ∷ (cs ++ 59 ∷ [])

number_good : (base : ℕ) (is_digit : ℕ → Bool) (cs : List ℕ) → IsNumber base is_digit cs → (is_some cs && list_all is_digit cs && is_character (number_written base 0 cs)) ≡ true
number_good base is_digit cs n =
    and_from (is_some cs && list_all is_digit cs) (is_character (number_written base 0 cs)) (and_from (is_some cs) (list_all is_digit cs) n.some n.digits) n.character

good_number : (base : ℕ) (is_digit : ℕ → Bool) (cs : List ℕ) → (is_some cs && list_all is_digit cs && is_character (number_written base 0 cs)) ≡ true → IsNumber base is_digit cs
good_number base is_digit cs h =
    let p = and_parts (is_some cs && list_all is_digit cs) (is_character (number_written base 0 cs)) h in
    let q = and_parts (is_some cs) (list_all is_digit cs) p.0 in
    record { some = q.0; digits = q.1; character = p.1 }

numbers_into : (entities : List (List ℕ)) (first second : List ℕ) → codes "#" ≡ first → IsNumber 10 is_ascii_digit second ⊎ Chained (λ ds. codes "x" ≡ ds) (IsNumber 16 is_ascii_hexdigit) second → IsReference entities (wrapped (first ++ second))
numbers_into entities first second e (inl n) = record {
  to = decimal second;
  lawful = number_good 10 is_ascii_digit second n;
  known = refl;
  is = ap (λ (z : List ℕ). wrapped (z ++ second)) e;
}
numbers_into entities first second e (inr k) = record {
  to = hexadecimal k.second;
  lawful = number_good 16 is_ascii_hexdigit k.second k.goes_on;
  known = refl;
  is = ap (λ (z : List ℕ). wrapped (35 ∷ (z ++ k.second))) k.begins ∙ ap (λ (z : List ℕ). wrapped (35 ∷ z)) k.is ∙ ap (λ (z : List ℕ). wrapped (z ++ second)) e;
}

names_into : (entities : List (List ℕ)) (cs : List ℕ) → Names entities cs → IsReference entities (wrapped cs)
names_into entities cs (inl i) = record { to = entity cs; lawful = i.passes; known = or_left (list_any (bytes_eq cs) known_entities) (list_any (bytes_eq cs) entities) i.among; is = refl }
names_into entities cs (inr i) = record { to = entity cs; lawful = i.passes; known = or_right (list_any (bytes_eq cs) known_entities) (list_any (bytes_eq cs) entities) i.among; is = refl }

body_into : (entities : List (List ℕ)) (cs : List ℕ) → Body entities cs → IsReference entities (wrapped cs)
body_into entities cs (inl k) = subst (λ (z : List ℕ). IsReference entities (wrapped z)) k.is (numbers_into entities k.first k.second k.begins k.goes_on)
body_into entities cs (inr n) = names_into entities cs n

abbrev Parts : List (List ℕ) → List ℕ → Type 0
Parts entities = Chained (λ cs. codes "&" ≡ cs) (Chained (Body entities) (λ cs. codes ";" ≡ cs))

parts_into : (entities : List (List ℕ)) (cs : List ℕ) → Parts entities cs → IsReference entities cs
parts_into entities cs c =
    let k = c.goes_on in
    subst (IsReference entities)
    (ap (λ (z : List ℕ). z ++ (k.first ++ 59 ∷ [])) c.begins ∙ ap (λ (z : List ℕ). c.first ++ z) (ap (λ (z : List ℕ). k.first ++ z) k.goes_on ∙ k.is) ∙ c.is)
    (body_into entities k.first k.begins)

unwrapped : (entities : List (List ℕ)) (cs : List ℕ) → Body entities cs → Parts entities (wrapped cs)
unwrapped entities cs b = record { first = codes "&"; second = cs ++ 59 ∷ []; begins = refl; goes_on = record { first = cs; second = codes ";"; begins = b; goes_on = refl; is = refl }; is = refl }

parts_from : (entities : List (List ℕ)) (cs : List ℕ) → IsReference entities cs → Parts entities cs
parts_from entities cs r = subst (Parts entities) r.is (at r.to r.lawful r.known)
  where
    at : (r : Reference) → is_reference r ≡ true → is_known entities r ≡ true → Parts entities (reference_then r [])
    at (decimal ds) h k = unwrapped entities (35 ∷ ds) (inl (record { first = codes "#"; second = ds; begins = refl; goes_on = inl (good_number 10 is_ascii_digit ds h); is = refl }))
    at (hexadecimal ds) h k = unwrapped entities (35 ∷ 120 ∷ ds) (inl (record {
      first = codes "#";
      second = 120 ∷ ds;
      begins = refl;
      goes_on = inr (record { first = codes "x"; second = ds; begins = refl; goes_on = good_number 16 is_ascii_hexdigit ds h; is = refl });
      is = refl;
    }))
    at (entity name) h k = unwrapped entities name (inr (by (or_cases (list_any (bytes_eq name) known_entities) (list_any (bytes_eq name) entities) k)))
      where
        by : (list_any (bytes_eq name) known_entities ≡ true) ⊎ (list_any (bytes_eq name) entities ≡ true) → Names entities name
        by (inl m) = inl (record { passes = h; among = m })
        by (inr m) = inr (record { passes = h; among = m })

pub spells_reference : (entities : List (List ℕ)) → Spells (reference_form entities) (IsReference entities)
unfolding reference_form
spells_reference entities =
    spells_as
    (spells_chain (spells_word (codes "&") refl)
    (spells_chain
    (spells_either (spells_chain (spells_word (codes "#") refl) (spells_either spells_decimal (spells_chain (spells_word (codes "x") refl) spells_hexadecimal)))
    (spells_either (spells_words is_name name_ascii known_entities) (spells_words is_name name_ascii entities)))
    (spells_word (codes ";") refl)))
    (parts_into entities) (parts_from entities)

abbrev IsOne : List (List ℕ) → Piece → Type 0
IsOne entities p = (r : Reference) × (p ≡ leaf (reference r)) × (is_reference r ≡ true) × (is_known entities r ≡ true)

pub references_are_spelled : ReferencesAreSpelled
references_are_spelled entities = is_form_of (spells_as (spells_reference entities) into from)
  where
    into : (cs : List ℕ) → IsReference entities cs → (p : Piece) × IsOne entities p × (piece_then p [] ≡ cs)
    into cs r = (leaf (reference r.to), (r.to, refl, r.lawful, r.known), r.is)

    from : (cs : List ℕ) → ((p : Piece) × IsOne entities p × (piece_then p [] ≡ cs)) → IsReference entities cs
    from cs q = record { to = q.1.0; lawful = q.1.2; known = q.1.3; is = sym (ap (λ (z : Piece). piece_then z []) q.1.1) ∙ q.2 }
