-- Document type declarations.
use Rattle.std.proofs.Common.{◌≡◌, ◌⊎◌, inl, inr, ℕ, ◌<◌, ◌≤◌, Bool, true, false, List, [], ◌∷◌, ◌++◌, refl, sym, ◌∙◌, ap, subst, append_assoc, arith}
use Rattle.std.specs.Prelude.{not, ◌==◌, ◌&&◌, ◌||◌, bytes_eq, codes}
use Rattle.std.specs.List.{list_all}
use Rattle.std.proofs.lemmas.Bool.{and_parts, and_from, or_cases, eqb-true, eq-eqb}
use Rattle.std.proofs.lemmas.Bool.Decides.{nat_tests}
use Rattle.xml_text.specs.Characters.{is_blank, is_character}
use Rattle.xml_text.specs.Names.{in_public_identifier}
use Rattle.dtd_model.specs.declared.dtd.DoctypeRule.{DoctypeRule}
use Rattle.dtd_model.specs.declared.dtd.DoctypeRule.TheVariants.{Strict, Free}
use Rattle.derivatives.specs.Expressions.{Expr, star}
use Rattle.page_model.specs.Attributes.{doctype_fits}
use Rattle.page_model.specs.Parts.{is_quote}
use Rattle.page_model.specs.Pieces.{Piece, doctype, piece_then}
use Rattle.page_model.specs.Prolog.{Literal, literal_then, IsLiteral, Identifier, no_identifier, system, public, identifier_then, IsSpace, IsIdentifier, Doctype, doctype_then, IsDoctype, is_strict}
use Rattle.page_model.proofs.Names.{same_bytes, equal_bytes}
use Rattle.page_forms.specs.Doctypes.{system_literal, public_literal, strict_literal, public_form, system_form, identifier_form, doctype_form}
use Rattle.page_forms.specs.Words.{word, ascii, other_than, gap}
use Rattle.page_forms.specs.Laws.{DoctypesAreSpelled}
use Rattle.page_forms.proofs.NameForms.{spells_class, spells_empty, spells_blanks, spells_gap}
use Rattle.page_forms.proofs.OneCharacter.{Other, spells_other}
use Rattle.page_forms.proofs.QuotedForms.{Quoted, spells_quoted, either_quote, quote_small}
use Rattle.page_forms.proofs.Spelling.{Spells, One, Chained, put_together, spells_chain, spells_either, spells_all, spells_word, spells_as, is_form_of}

-- a literal of characters that pass
pub record IsLiteralOf (test : ℕ → Bool) (good : List ℕ → Bool) (cs : List ℕ) : Type 0 where
  pub literal : Literal
  pub are : IsLiteral test literal
  pub fits : good literal.text ≡ true
  pub is : literal_then literal [] ≡ cs

abbrev Passing : (ℕ → Bool) → ℕ → List ℕ → Type 0
Passing test q text = list_all (λ c. test c && not (c == q)) text ≡ true

abbrev any : List ℕ → Bool
any cs = true

literal_into : (test : ℕ → Bool) (cs : List ℕ) → Quoted (Passing test) cs → IsLiteralOf test any cs
literal_into test cs k = record { literal = record { quote = k.quote; text = k.text }; are = record { quoted = k.quoted; pass = k.between }; fits = refl; is = k.is }

literal_from : (test : ℕ → Bool) (cs : List ℕ) → IsLiteralOf test any cs → Quoted (Passing test) cs
literal_from test cs i = record { quote = i.literal.quote; text = i.literal.text; quoted = i.are.quoted; between = i.are.pass; is = i.is }

pub spells_system : Spells system_literal (IsLiteralOf is_character any)
spells_system = spells_as (spells_quoted (λ q. star (other_than q)) (Passing is_character) (λ q h. spells_all (spells_other q (quote_small q h)))) (literal_into is_character) (literal_from is_character)

public_small : (c : ℕ) → in_public_identifier c ≡ true → c < 128
public_small c h = grind (arith, nat_tests)

spells_public : Spells public_literal (IsLiteralOf in_public_identifier any)
spells_public =
    spells_as
    (spells_quoted (λ q. star (ascii (λ c. in_public_identifier c && not (c == q)))) (Passing in_public_identifier)
    (λ q h. spells_all (spells_class (λ c. in_public_identifier c && not (c == q)) (λ c g. public_small c (and_parts (in_public_identifier c) (not (c == q)) g).0))))
    (literal_into in_public_identifier) (literal_from in_public_identifier)

-- the public identifier of XHTML 1.0 Strict
abbrev strict : List ℕ
strict = codes "-//W3C//DTD XHTML 1.0 Strict//EN"

abbrev is_strict_text : List ℕ → Bool
is_strict_text text = bytes_eq text strict

strict_passes : (q : ℕ) → (q ≡ 34) ⊎ (q ≡ 39) → Passing in_public_identifier q strict
strict_passes q (inl e) = subst (λ (z : ℕ). Passing in_public_identifier z strict) (sym e) refl
strict_passes q (inr e) = subst (λ (z : ℕ). Passing in_public_identifier z strict) (sym e) refl

strict_into : (cs : List ℕ) → Quoted (λ q text. strict ≡ text) cs → IsLiteralOf in_public_identifier is_strict_text cs
strict_into cs k = record {
  literal = record { quote = k.quote; text = k.text };
  are = record { quoted = k.quoted; pass = subst (Passing in_public_identifier k.quote) k.between (strict_passes k.quote (either_quote k.quote k.quoted)) };
  fits = equal_bytes k.text strict (sym k.between);
  is = k.is;
}

strict_from : (cs : List ℕ) → IsLiteralOf in_public_identifier is_strict_text cs → Quoted (λ q text. strict ≡ text) cs
strict_from cs i = record { quote = i.literal.quote; text = i.literal.text; quoted = i.are.quoted; between = sym (same_bytes i.literal.text strict i.fits); is = i.is }

spells_strict : Spells strict_literal (IsLiteralOf in_public_identifier is_strict_text)
spells_strict = spells_as (spells_quoted (λ q. word strict) (λ q text. strict ≡ text) (λ q h. spells_word strict refl)) strict_into strict_from

-- Identifiers.

-- `PUBLIC` with a literal that passes
pub record IsPublic (good : List ℕ → Bool) (cs : List ℕ) : Type 0 where
  pub before : List ℕ
  pub between : List ℕ
  pub literal : Literal
  pub behind : List ℕ
  pub second : Literal
  pub good_identifier : IsIdentifier (public before between literal behind second)
  pub fits : good literal.text ≡ true
  pub is : identifier_then (public before between literal behind second) [] ≡ cs

abbrev PublicParts : (List ℕ → Bool) → List ℕ → Type 0
PublicParts good = Chained IsSpace (Chained (λ cs. codes "PUBLIC" ≡ cs) (Chained IsSpace (Chained (IsLiteralOf in_public_identifier good) (Chained IsSpace (IsLiteralOf is_character any)))))

-- what stands behind a literal
literal_behind : (l : Literal) (rest : List ℕ) → literal_then l rest ≡ literal_then l [] ++ rest
literal_behind l rest = ap (λ (z : List ℕ). l.quote ∷ z) (sym (append_assoc l.text (l.quote ∷ []) rest))

public_into : (good : List ℕ → Bool) (cs : List ℕ) → PublicParts good cs → IsPublic good cs
public_into good cs a =
    let b = a.goes_on in
    let c = b.goes_on in
    let d = c.goes_on in
    let e = d.goes_on in
    let l = d.begins in
    let m = e.goes_on in
    record {
      before = a.first;
      between = c.first;
      literal = l.literal;
      behind = e.first;
      second = m.literal;
      good_identifier = (a.begins, c.begins, l.are, e.begins, m.are);
      fits = l.fits;
      is = put_together refl (put_together b.begins (put_together refl (literal_behind l.literal (e.first ++ literal_then m.literal []) ∙ put_together l.is (put_together refl m.is e.is) d.is) c.is) b.is) a.is;
    }

public_from : (good : List ℕ → Bool) (cs : List ℕ) → IsPublic good cs → PublicParts good cs
public_from good cs p =
    let g = p.good_identifier in
    record {
      first = p.before;
      second = codes "PUBLIC" ++ (p.between ++ literal_then p.literal (p.behind ++ literal_then p.second []));
      begins = g.0;
      goes_on = record {
        first = codes "PUBLIC";
        second = p.between ++ literal_then p.literal (p.behind ++ literal_then p.second []);
        begins = refl;
        goes_on = record {
          first = p.between;
          second = literal_then p.literal (p.behind ++ literal_then p.second []);
          begins = g.1;
          goes_on = record {
            first = literal_then p.literal [];
            second = p.behind ++ literal_then p.second [];
            begins = record { literal = p.literal; are = g.2; fits = p.fits; is = refl };
            goes_on = record { first = p.behind; second = literal_then p.second []; begins = g.3; goes_on = record { literal = p.second; are = g.4; fits = refl; is = refl }; is = refl };
            is = sym (literal_behind p.literal (p.behind ++ literal_then p.second []));
          };
          is = refl;
        };
        is = refl;
      };
      is = p.is;
    }

spells_public_form : (e : Expr) (good : List ℕ → Bool) → Spells e (IsLiteralOf in_public_identifier good) → Spells (public_form e) (IsPublic good)
spells_public_form e good s =
    spells_as (spells_chain spells_gap (spells_chain (spells_word (codes "PUBLIC") refl) (spells_chain spells_gap (spells_chain s (spells_chain spells_gap spells_system))))) (public_into good) (public_from good)

-- an identifier that is as asked
pub record IsIdentifierBy (good : Identifier → Bool) (cs : List ℕ) : Type 0 where
  pub to : Identifier
  pub are : IsIdentifier to
  pub fits : good to ≡ true
  pub is : identifier_then to [] ≡ cs

abbrev SystemParts : List ℕ → Type 0
SystemParts = Chained IsSpace (Chained (λ cs. codes "SYSTEM" ≡ cs) (Chained IsSpace (IsLiteralOf is_character any)))

abbrev asked : DoctypeRule → Identifier → Bool
asked Strict i = is_strict i
asked Free i = true

abbrev FreeParts : List ℕ → Type 0
FreeParts cs = ([] ≡ cs) ⊎ (SystemParts cs ⊎ IsPublic any cs)

free_into : (cs : List ℕ) → FreeParts cs → IsIdentifierBy (asked Free) cs
free_into cs (inl e) = record { to = no_identifier; are = tt; fits = refl; is = e }
free_into cs (inr (inl a)) =
    let b = a.goes_on in
    let c = b.goes_on in
    let l = c.goes_on in
    record { to = system a.first c.first l.literal; are = (a.begins, c.begins, l.are); fits = refl; is = put_together refl (put_together b.begins (put_together refl l.is c.is) b.is) a.is }
free_into cs (inr (inr p)) = record { to = public p.before p.between p.literal p.behind p.second; are = p.good_identifier; fits = refl; is = p.is }

free_from : (cs : List ℕ) → IsIdentifierBy (asked Free) cs → FreeParts cs
free_from cs i = subst FreeParts i.is (at i.to i.are)
  where
    at : (i : Identifier) → IsIdentifier i → FreeParts (identifier_then i [])
    at no_identifier g = inl refl
    at (system s t l) g = inr (inl (record {
      first = s;
      second = codes "SYSTEM" ++ (t ++ literal_then l []);
      begins = g.0;
      goes_on = record {
        first = codes "SYSTEM";
        second = t ++ literal_then l [];
        begins = refl;
        goes_on = record { first = t; second = literal_then l []; begins = g.1; goes_on = record { literal = l; are = g.2; fits = refl; is = refl }; is = refl };
        is = refl;
      };
      is = refl;
    }))
    at (public s t l u m) g = inr (inr (record { before = s; between = t; literal = l; behind = u; second = m; good_identifier = g; fits = refl; is = refl }))

strictly_into : (cs : List ℕ) → IsPublic is_strict_text cs → IsIdentifierBy (asked Strict) cs
strictly_into cs p = record { to = public p.before p.between p.literal p.behind p.second; are = p.good_identifier; fits = p.fits; is = p.is }

strictly_from : (cs : List ℕ) → IsIdentifierBy (asked Strict) cs → IsPublic is_strict_text cs
strictly_from cs i = subst (IsPublic is_strict_text) i.is (at i.to i.are i.fits)
  where
    no : false ≡ true → ⊥
    no e = cc

    at : (i : Identifier) → IsIdentifier i → is_strict i ≡ true → IsPublic is_strict_text (identifier_then i [])
    at no_identifier g h = absurd (no h)
    at (system s t l) g h = absurd (no h)
    at (public s t l u m) g h = record { before = s; between = t; literal = l; behind = u; second = m; good_identifier = g; fits = h; is = refl }

spells_identifier : (rule : DoctypeRule) → Spells (identifier_form rule) (IsIdentifierBy (asked rule))
spells_identifier Strict = spells_as (spells_public_form strict_literal is_strict_text spells_strict) strictly_into strictly_from
spells_identifier Free =
    spells_as
    (spells_either spells_empty
    (spells_either (spells_chain spells_gap (spells_chain (spells_word (codes "SYSTEM") refl) (spells_chain spells_gap spells_system))) (spells_public_form public_literal any spells_public)))
    free_into free_from

-- Declarations.

-- what stands behind an identifier
identifier_behind : (i : Identifier) (rest : List ℕ) → identifier_then i rest ≡ identifier_then i [] ++ rest
identifier_behind no_identifier rest = refl
identifier_behind (system s t l) rest =
    ap (λ (z : List ℕ). s ++ (codes "SYSTEM" ++ z)) (ap (λ (z : List ℕ). t ++ z) (literal_behind l rest) ∙ sym (append_assoc t (literal_then l []) rest))
    ∙ sym (append_assoc s (codes "SYSTEM" ++ (t ++ literal_then l [])) rest)
identifier_behind (public s t l u m) rest =
    let inner : u ++ literal_then m rest ≡ (u ++ literal_then m []) ++ rest = ap (λ (z : List ℕ). u ++ z) (literal_behind m rest) ∙ sym (append_assoc u (literal_then m []) rest) in
    let outer : literal_then l (u ++ literal_then m rest) ≡ literal_then l (u ++ literal_then m []) ++ rest =
    ap (literal_then l) inner ∙ literal_behind l ((u ++ literal_then m []) ++ rest)
    ∙ sym (append_assoc (literal_then l []) (u ++ literal_then m []) rest) ∙ ap (λ (z : List ℕ). z ++ rest) (sym (literal_behind l (u ++ literal_then m []))) in
    ap (λ (z : List ℕ). s ++ (codes "PUBLIC" ++ z)) (ap (λ (z : List ℕ). t ++ z) outer ∙ sym (append_assoc t (literal_then l (u ++ literal_then m [])) rest))
    ∙ sym (append_assoc s (codes "PUBLIC" ++ (t ++ literal_then l (u ++ literal_then m []))) rest)

abbrev Parts : DoctypeRule → List ℕ → Type 0
Parts rule =
    Chained (λ cs. codes "<!DOCTYPE" ≡ cs)
    (Chained IsSpace (Chained (λ cs. codes "html" ≡ cs) (Chained (IsIdentifierBy (asked rule)) (Chained (λ cs. list_all is_blank cs ≡ true) (λ cs. codes ">" ≡ cs)))))

abbrev IsOne : DoctypeRule → Piece → Type 0
IsOne rule p = (d : Doctype) × (p ≡ doctype d) × IsDoctype d × (doctype_fits rule d ≡ true)

fits_as : (rule : DoctypeRule) (d : Doctype) → doctype_fits rule d ≡ asked rule d.identifier
fits_as Strict d = refl
fits_as Free d = refl

into : (rule : DoctypeRule) (cs : List ℕ) → Parts rule cs → (p : Piece) × IsOne rule p × (piece_then p [] ≡ cs)
into rule cs a =
    let b = a.goes_on in
    let c = b.goes_on in
    let e = c.goes_on in
    let f = e.goes_on in
    let i = e.begins in
    let d : Doctype = record { space = b.first; identifier = i.to; end_space = f.first } in (
      doctype d,
      (d, refl, record { apart = b.begins; identifier = i.are; blank_space = f.begins }, fits_as rule d ∙ i.fits),
      put_together a.begins (put_together refl (put_together c.begins (identifier_behind i.to (f.first ++ codes ">") ∙ put_together i.is (put_together refl f.goes_on f.is) e.is) c.is) b.is) a.is,
    )

from : (rule : DoctypeRule) (cs : List ℕ) → ((p : Piece) × IsOne rule p × (piece_then p [] ≡ cs)) → Parts rule cs
from rule cs q = subst (Parts rule) (sym (ap (λ (z : Piece). piece_then z []) q.1.1) ∙ q.2) (at q.1.0 q.1.2 q.1.3)
  where
    at : (d : Doctype) → IsDoctype d → doctype_fits rule d ≡ true → Parts rule (doctype_then d [])
    at d g h = record {
      first = codes "<!DOCTYPE";
      second = d.space ++ (codes "html" ++ identifier_then d.identifier (d.end_space ++ codes ">"));
      begins = refl;
      goes_on = record {
        first = d.space;
        second = codes "html" ++ identifier_then d.identifier (d.end_space ++ codes ">");
        begins = g.apart;
        goes_on = record {
          first = codes "html";
          second = identifier_then d.identifier (d.end_space ++ codes ">");
          begins = refl;
          goes_on = record {
            first = identifier_then d.identifier [];
            second = d.end_space ++ codes ">";
            begins = record { to = d.identifier; are = g.identifier; fits = sym (fits_as rule d) ∙ h; is = refl };
            goes_on = record { first = d.end_space; second = codes ">"; begins = g.blank_space; goes_on = refl; is = refl };
            is = sym (identifier_behind d.identifier (d.end_space ++ codes ">"));
          };
          is = refl;
        };
        is = refl;
      };
      is = refl;
    }

pub doctypes_are_spelled : DoctypesAreSpelled
unfolding doctype_form
doctypes_are_spelled rule =
    is_form_of
    (spells_as
    (spells_chain (spells_word (codes "<!DOCTYPE") refl)
    (spells_chain spells_gap (spells_chain (spells_word (codes "html") refl) (spells_chain (spells_identifier rule) (spells_chain spells_blanks (spells_word (codes ">") refl))))))
    (into rule) (from rule))
