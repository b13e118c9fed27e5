-- The XML declaration.
use Rattle.std.proofs.Common.{◌≡◌, ◌⊎◌, inl, inr, ℕ, ◌<◌, Bool, true, false, List, [], ◌∷◌, ◌++◌, refl, sym, ◌∙◌, ap, subst, append-nil, arith}
use Rattle.std.specs.Prelude.{◌==◌, ◌&&◌, ◌||◌, nat_lt, bytes_eq, codes}
use Rattle.std.specs.Char.{to_ascii_lowercase}
use Rattle.std.specs.List.{list_all}
use Rattle.std.specs.Str.{str_eq_ignore_ascii_case, str_to_ascii_lowercase}
use Rattle.std.proofs.lemmas.Bool.{and_parts, and_from, or_cases, or_left, or_right}
use Rattle.std.proofs.lemmas.Bool.Decides.{nat_tests}
use Rattle.xml_text.specs.Characters.{is_blank}
use Rattle.xml_text.specs.Names.{in_name, is_name}
use Rattle.dtd_model.specs.References.{is_reference}
use Rattle.derivatives.specs.Derivatives.{either_of}
use Rattle.page_model.specs.Parts.{Attribute, attribute_then, attributes_then, IsAttribute, AreAttributes, is_quote, may_be_quoted, refers_by}
use Rattle.page_model.specs.Pieces.{Piece, declaration, piece_then}
use Rattle.page_model.specs.Prolog.{Declaration, declaration_then, IsDeclaration, is_version, is_encoding, is_standalone, may_follow_version, is_in_order}
use Rattle.page_model.proofs.Names.{same_bytes, equal_bytes}
use Rattle.page_forms.specs.Declarations.{any_case, version_form, encoding_form, standalone_form, declaration_form}
use Rattle.page_forms.specs.Laws.{DeclarationsAreSpelled}
use Rattle.page_forms.specs.Remarks.{is_letter}
use Rattle.page_forms.specs.Words.{word}
use Rattle.page_forms.proofs.NameForms.{spells_class, spells_empty, spells_blanks}
use Rattle.page_forms.proofs.Picking.{attribute_behind}
use Rattle.page_forms.proofs.QuotedForms.{IsAttributeOf, MayStand, either_quote, spells_attribute_of}
use Rattle.page_forms.proofs.Spelling.{Spells, One, Chained, led, led_into, put_together, spells_chain, spells_either, spells_word, spells_as, is_form_of}
use Rattle.page_forms.proofs.TagForms.{attributes_behind}
use Rattle.page_forms.proofs.ValueForms.{named, name_named, named_quoted, refers_none}
use Rattle.page_forms.proofs.ValueTexts.{all_in}

no : false ≡ true → ⊥
no e = cc

-- Words in any case.

letter_small : (w c : ℕ) → nat_lt (to_ascii_lowercase w) 128 ≡ true → is_letter w c ≡ true → c < 128
letter_small w c l h = grind (arith, nat_tests)

case_from : (w : ℕ) (ws cs : List ℕ) → str_eq_ignore_ascii_case cs (w ∷ ws) ≡ true → Chained (One (is_letter w)) (λ ds. str_eq_ignore_ascii_case ds ws ≡ true) cs
case_from w ws [] h = absurd (no h)
case_from w ws (c ∷ cs) h = let p = and_parts (is_letter w c) (bytes_eq (str_to_ascii_lowercase cs) (str_to_ascii_lowercase ws)) h in led c cs p.0 p.1

none_from : (cs : List ℕ) → str_eq_ignore_ascii_case cs [] ≡ true → [] ≡ cs
none_from [] h = refl
none_from (c ∷ cs) h = absurd (no h)

spells_any_case : (ws : List ℕ) → list_all (λ w. nat_lt (to_ascii_lowercase w) 128) ws ≡ true → Spells (any_case ws) (λ cs. str_eq_ignore_ascii_case cs ws ≡ true)
spells_any_case [] h = spells_as spells_empty (λ cs e. ap (λ (z : List ℕ). str_eq_ignore_ascii_case z []) (sym e)) none_from
spells_any_case (w ∷ ws) h =
    let p = and_parts (nat_lt (to_ascii_lowercase w) 128) (list_all (λ w. nat_lt (to_ascii_lowercase w) 128) ws) h in
    spells_as (spells_chain (spells_class (is_letter w) (λ c g. letter_small w c p.0 g)) (spells_any_case ws p.1))
    (led_into (λ cs. str_eq_ignore_ascii_case cs (w ∷ ws) ≡ true) (λ c cs g e. and_from (is_letter w c) (bytes_eq (str_to_ascii_lowercase cs) (str_to_ascii_lowercase ws)) g e)) (case_from w ws)

letter_in_name : (w c : ℕ) → in_name w ≡ true → is_letter w c ≡ true → in_name c ≡ true
letter_in_name w c h g = grind (arith, nat_tests)

-- in any case, a word of characters of names is one
case_named : (ws cs : List ℕ) → list_all in_name ws ≡ true → str_eq_ignore_ascii_case cs ws ≡ true → list_all named cs ≡ true
case_named [] [] h g = refl
case_named [] (c ∷ cs) h g = absurd (no g)
case_named (w ∷ ws) [] h g = absurd (no g)
case_named (w ∷ ws) (c ∷ cs) h g =
    let p = and_parts (in_name w) (list_all in_name ws) h in
    let q = and_parts (is_letter w c) (bytes_eq (str_to_ascii_lowercase cs) (str_to_ascii_lowercase ws)) g in
    and_from (named c) (list_all named cs) (name_named c (letter_in_name w c p.0 q.0)) (case_named ws cs p.1 q.1)

-- The three attributes.

abbrev Version : ℕ → List ℕ → Type 0
Version q text = codes "1.0" ≡ text

abbrev InAnyCase : ℕ → List ℕ → Type 0
InAnyCase q text = str_eq_ignore_ascii_case text (codes "UTF-8") ≡ true

abbrev Alone : ℕ → List ℕ → Type 0
Alone q text = (codes "yes" ≡ text) ⊎ (codes "no" ≡ text)

-- a text of characters of names and white space may stand in quotes
named_text : (q : ℕ) → is_quote q ≡ true → (text : List ℕ) → list_all named text ≡ true → list_all (may_be_quoted q) text ≡ true
named_text q h text n = all_in named (may_be_quoted q) (named_quoted q h) text n

version_stands : MayStand Version
version_stands = record {
  quoted = λ q text h v. named_text q h text (ap (list_all named) (sym v) ∙ refl);
  refers = λ q text h v. ap (refers_by is_reference) (sym v) ∙ refl;
}

case_stands : MayStand InAnyCase
case_stands = record {
  quoted = λ q text h v. named_text q h text (case_named (codes "UTF-8") text refl v);
  refers = λ q text h v. refers_none is_reference text (case_named (codes "UTF-8") text refl v);
}

alone_named : (q : ℕ) (text : List ℕ) → Alone q text → list_all named text ≡ true
alone_named q text (inl e) = ap (list_all named) (sym e) ∙ refl
alone_named q text (inr e) = ap (list_all named) (sym e) ∙ refl

alone_stands : MayStand Alone
alone_stands = record {
  quoted = λ q text h v. named_text q h text (alone_named q text v);
  refers = λ q text h v. refers_none is_reference text (alone_named q text v);
}

spells_version : Spells version_form (IsAttributeOf (codes "version") Version)
spells_version = spells_attribute_of (codes "version") refl (λ q. word (codes "1.0")) Version version_stands (λ q h. spells_word (codes "1.0") refl)

spells_encoding : Spells encoding_form (IsAttributeOf (codes "encoding") InAnyCase)
spells_encoding = spells_attribute_of (codes "encoding") refl (λ q. any_case (codes "UTF-8")) InAnyCase case_stands (λ q h. spells_any_case (codes "UTF-8") refl)

spells_standalone : Spells standalone_form (IsAttributeOf (codes "standalone") Alone)
spells_standalone =
    spells_attribute_of (codes "standalone") refl (λ q. either_of (word (codes "yes")) (word (codes "no"))) Alone alone_stands
    (λ q h. spells_either (spells_word (codes "yes") refl) (spells_word (codes "no") refl))

-- What follows the version.

record Follows (cs : List ℕ) : Type 0 where
  attributes : List Attribute
  written : AreAttributes attributes
  order : may_follow_version attributes ≡ true
  is : attributes_then attributes [] ≡ cs

abbrev Encoding : List ℕ → Type 0
Encoding = IsAttributeOf (codes "encoding") InAnyCase

abbrev Standalone : List ℕ → Type 0
Standalone = IsAttributeOf (codes "standalone") Alone

abbrev Rests : List ℕ → Type 0
Rests cs = ([] ≡ cs) ⊎ (Chained Encoding (λ ds. ([] ≡ ds) ⊎ Standalone ds) cs ⊎ Standalone cs)

encodes : {cs : List ℕ} (k : Encoding cs) → is_encoding k.attribute ≡ true
encodes k =
    and_from (bytes_eq k.attribute.name (codes "encoding")) (str_eq_ignore_ascii_case k.attribute.value (codes "UTF-8")) (equal_bytes k.attribute.name (codes "encoding") (sym k.named)) k.value

alone : (text : List ℕ) → (codes "yes" ≡ text) ⊎ (codes "no" ≡ text) → (bytes_eq text (codes "yes") || bytes_eq text (codes "no")) ≡ true
alone text (inl e) = or_left (bytes_eq text (codes "yes")) (bytes_eq text (codes "no")) (equal_bytes text (codes "yes") (sym e))
alone text (inr e) = or_right (bytes_eq text (codes "yes")) (bytes_eq text (codes "no")) (equal_bytes text (codes "no") (sym e))

stands_alone : {cs : List ℕ} (k : Standalone cs) → is_standalone k.attribute ≡ true
stands_alone k =
    and_from (bytes_eq k.attribute.name (codes "standalone")) (bytes_eq k.attribute.value (codes "yes") || bytes_eq k.attribute.value (codes "no")) (equal_bytes k.attribute.name (codes "standalone") (sym k.named)) (alone k.attribute.value k.value)

encoding_only : (cs : List ℕ) → Encoding cs → Follows cs
encoding_only cs k = record { attributes = k.attribute ∷ []; written = (k.written, tt); order = or_left (is_encoding k.attribute) (is_standalone k.attribute) (encodes k); is = k.is }

rests_into : (cs : List ℕ) → Rests cs → Follows cs
rests_into cs (inl e) = record { attributes = []; written = tt; order = refl; is = e }
rests_into cs (inr (inl k)) = at k.goes_on
  where
    at : ([] ≡ k.second) ⊎ Standalone k.second → Follows cs
    at (inl e) = subst Follows (sym (append-nil k.first) ∙ ap (λ (z : List ℕ). k.first ++ z) e ∙ k.is) (encoding_only k.first k.begins)
    at (inr s) = record {
      attributes = k.begins.attribute ∷ s.attribute ∷ [];
      written = (k.begins.written, (s.written, tt));
      order = and_from (is_encoding k.begins.attribute) (is_standalone s.attribute) (encodes k.begins) (stands_alone s);
      is = attribute_behind k.begins.attribute (attribute_then s.attribute []) ∙ put_together k.begins.is s.is k.is;
    }
rests_into cs (inr (inr s)) = record { attributes = s.attribute ∷ []; written = (s.written, tt); order = or_right (is_encoding s.attribute) (is_standalone s.attribute) (stands_alone s); is = s.is }

encoding_of : (a : Attribute) → IsAttribute a → is_encoding a ≡ true → Encoding (attribute_then a [])
encoding_of a w h =
    let p = and_parts (bytes_eq a.name (codes "encoding")) (str_eq_ignore_ascii_case a.value (codes "UTF-8")) h in
    record { attribute = a; written = w; named = sym (same_bytes a.name (codes "encoding") p.0); value = p.1; is = refl }

standalone_of : (a : Attribute) → IsAttribute a → is_standalone a ≡ true → Standalone (attribute_then a [])
standalone_of a w h = record { attribute = a; written = w; named = sym (same_bytes a.name (codes "standalone") p.0); value = at (or_cases (bytes_eq a.value (codes "yes")) (bytes_eq a.value (codes "no")) p.1); is = refl }
  where
    p : (bytes_eq a.name (codes "standalone") ≡ true) × ((bytes_eq a.value (codes "yes") || bytes_eq a.value (codes "no")) ≡ true)
    p = and_parts (bytes_eq a.name (codes "standalone")) (bytes_eq a.value (codes "yes") || bytes_eq a.value (codes "no")) h

    at : (bytes_eq a.value (codes "yes") ≡ true) ⊎ (bytes_eq a.value (codes "no") ≡ true) → Alone a.quote a.value
    at (inl e) = inl (sym (same_bytes a.value (codes "yes") e))
    at (inr e) = inr (sym (same_bytes a.value (codes "no") e))

rests_from : (cs : List ℕ) → Follows cs → Rests cs
rests_from cs f = subst Rests f.is (at f.attributes f.written f.order)
  where
    at : (xs : List Attribute) → AreAttributes xs → may_follow_version xs ≡ true → Rests (attributes_then xs [])
    at [] w h = inl refl
    at (a ∷ []) w h = by (or_cases (is_encoding a) (is_standalone a) h)
      where
        by : (is_encoding a ≡ true) ⊎ (is_standalone a ≡ true) → Rests (attribute_then a [])
        by (inl e) = inr (inl (record { first = attribute_then a []; second = []; begins = encoding_of a w.0 e; goes_on = inl refl; is = append-nil (attribute_then a []) }))
        by (inr e) = inr (inr (standalone_of a w.0 e))
    at (a ∷ b ∷ []) w h =
        let p = and_parts (is_encoding a) (is_standalone b) h in
        inr (inl (record {
          first = attribute_then a [];
          second = attribute_then b [];
          begins = encoding_of a w.0 p.0;
          goes_on = inr (standalone_of b w.1.0 p.1);
          is = sym (attribute_behind a (attribute_then b []));
        }))
    at (a ∷ b ∷ c ∷ xs) w h = absurd (no h)

-- The declaration.

abbrev Parts : List ℕ → Type 0
Parts =
    Chained (λ cs. codes "<?xml" ≡ cs)
    (Chained (IsAttributeOf (codes "version") Version) (Chained Follows (Chained (λ cs. list_all is_blank cs ≡ true) (λ cs. codes "?>" ≡ cs))))

abbrev IsOne : Piece → Type 0
IsOne p = (d : Declaration) × (p ≡ declaration d) × IsDeclaration d

into : (cs : List ℕ) → Parts cs → (p : Piece) × IsOne p × (piece_then p [] ≡ cs)
into cs a =
    let b = a.goes_on in
    let v = b.begins in
    let c = b.goes_on in
    let f = c.begins in
    let e = c.goes_on in
    let d : Declaration = record { attributes = v.attribute ∷ f.attributes; space = e.first } in
    let good : IsDeclaration d = record {
      attributes = (v.written, f.written);
      in_order = and_from (is_version v.attribute) (may_follow_version f.attributes)
          (and_from (bytes_eq v.attribute.name (codes "version")) (bytes_eq v.attribute.value (codes "1.0")) (equal_bytes v.attribute.name (codes "version") (sym v.named)) (equal_bytes v.attribute.value (codes "1.0") (sym v.value))) f.order;
      blank_space = e.begins;
    } in (
      declaration d,
      (d, refl, good),
      put_together a.begins
          (attribute_behind v.attribute (attributes_then f.attributes (e.first ++ codes "?>"))
          ∙ put_together v.is (attributes_behind f.attributes (e.first ++ codes "?>") ∙ put_together f.is (put_together refl e.goes_on e.is) c.is) b.is) a.is,
    )

from : (cs : List ℕ) → ((p : Piece) × IsOne p × (piece_then p [] ≡ cs)) → Parts cs
from cs q = subst Parts (sym (ap (λ (z : Piece). piece_then z []) q.1.1) ∙ q.2) (at q.1.0.attributes q.1.0.space q.1.2.attributes q.1.2.in_order q.1.2.blank_space)
  where
    at : (xs : List Attribute) (space : List ℕ) → AreAttributes xs → is_in_order xs ≡ true → list_all is_blank space ≡ true → Parts (codes "<?xml" ++ attributes_then xs (space ++ codes "?>"))
    at [] space w h s = absurd (no h)
    at (a ∷ xs) space w h s =
        let p = and_parts (is_version a) (may_follow_version xs) h in
        let v = and_parts (bytes_eq a.name (codes "version")) (bytes_eq a.value (codes "1.0")) p.0 in
        record {
          first = codes "<?xml";
          second = attribute_then a (attributes_then xs (space ++ codes "?>"));
          begins = refl;
          goes_on = record {
            first = attribute_then a [];
            second = attributes_then xs (space ++ codes "?>");
            begins = record { attribute = a; written = w.0; named = sym (same_bytes a.name (codes "version") v.0); value = sym (same_bytes a.value (codes "1.0") v.1); is = refl };
            goes_on = record {
              first = attributes_then xs [];
              second = space ++ codes "?>";
              begins = record { attributes = xs; written = w.1; order = p.1; is = refl };
              goes_on = record { first = space; second = codes "?>"; begins = s; goes_on = refl; is = refl };
              is = sym (attributes_behind xs (space ++ codes "?>"));
            };
            is = sym (attribute_behind a (attributes_then xs (space ++ codes "?>")));
          };
          is = refl;
        }

pub declarations_are_spelled : DeclarationsAreSpelled
unfolding declaration_form
declarations_are_spelled =
    is_form_of
    (spells_as
    (spells_chain (spells_word (codes "<?xml") refl)
    (spells_chain spells_version
    (spells_chain (spells_as (spells_either spells_empty (spells_either (spells_chain spells_encoding (spells_either spells_empty spells_standalone)) spells_standalone)) rests_into rests_from)
    (spells_chain spells_blanks (spells_word (codes "?>") refl)))))
    into from)
