-- The forms at a place are those of the loose pieces there, and each loose piece is one coarse piece, or a character.
use Rattle.std.proofs.Common.{◌≡◌, ◌⊎◌, inl, inr, ℕ, suc, ◌<◌, Bool, true, false, List, [], ◌∷◌, ◌++◌, refl, sym, ◌∙◌, ap, subst, arith}
use Rattle.std.specs.Prelude.{◌&&◌, ◌||◌, bytes_eq, min}
use Rattle.std.specs.Char.{encode_utf8, is_ascii_digit, is_ascii_hexdigit}
use Rattle.std.specs.List.{list_all, list_any}
use Rattle.std.specs.Str.{encode_utf8_all}
use Rattle.std.proofs.lemmas.Bool.{and_parts, and_from, or_left}
use Rattle.std.proofs.lemmas.Str.{encode_ascii}
use Rattle.text_base.specs.declared.page_token.PageToken.{PageToken}
use Rattle.text_base.specs.declared.page_token.PageToken.TheVariants as token
use Rattle.xml_text.specs.Characters.{is_character}
use Rattle.xml_text.specs.Names.{is_name}
use Rattle.dtd_model.specs.Lawful.{is_lawful}
use Rattle.dtd_model.specs.References.{Reference, decimal, hexadecimal, entity, number_written, is_some, is_reference, is_known, known_entities}
use Rattle.dtd_model.specs.Table.{Table}
use Rattle.derivatives.specs.Expressions.{Expr, star, Matches}
use Rattle.page_model.specs.Broken.{is_loose_reference, IsLoose, loose_bytes}
use Rattle.page_model.specs.PageTokens.{IsLawful, piece_bytes, piece_tokens}
use Rattle.page_model.specs.Parts.{tag_then, character, reference, section, comment, instruction, is_plain}
use Rattle.page_model.specs.Pieces.{Piece, mark, declaration, doctype, start_tag, empty_tag, end_tag, leaf, piece_then, after}
use Rattle.page_model.specs.Places.{Place, at_beginning, behind_mark, behind, brackets}
use Rattle.page_forms.specs.Doctypes.{doctype_form}
use Rattle.page_forms.specs.Forms.{Form, giving, early_forms, leaf_forms, forms, IsOfForm, IsOfOne}
use Rattle.page_forms.specs.References.{reference_form}
use Rattle.page_forms.specs.Remarks.{comment_form, section_form, instruction_form}
use Rattle.page_forms.specs.Simple.{blank_form, bracket_form, text_form}
use Rattle.page_forms.proofs.Comments.{comments_are_spelled}
use Rattle.page_forms.proofs.DeclarationForms.{declarations_are_spelled}
use Rattle.page_forms.proofs.DoctypeForms.{doctypes_are_spelled}
use Rattle.page_forms.proofs.Instructions.{instructions_are_spelled}
use Rattle.page_forms.proofs.PageForms.{pieces_are_spelled}
use Rattle.page_forms.proofs.ReferenceForms.{references_are_spelled}
use Rattle.page_forms.proofs.Sections.{sections_are_spelled}
use Rattle.coarse_forms.specs.CoarseForms.{coarse_form}
use Rattle.coarse_forms.specs.Laws.{OfBytes}
use Rattle.coarse_forms.proofs.Counted.{coarse_bytes, coarse_all_bytes}
use Rattle.coarse_forms.proofs.Lawful.{comments_coarse, sections_coarse, instructions_coarse, declarations_coarse, doctypes_coarse, plain_within, text_coarse}
use Rattle.coarse_forms.proofs.Within.{Within, once}
use Rattle.broken_forms.specs.LooseForms.{names_of, loose_tag_form, end_form, loose_reference_form, loose_forms}
use Rattle.broken_forms.specs.Laws.{LoosePiecesAreSpelled}
use Rattle.broken_forms.proofs.Coarse.{tag_bytes, tags_within, ends_within, references_within}
use Rattle.broken_forms.proofs.LooseTags as tags
use Rattle.broken_forms.proofs.References.{reference_shown, reference_made, end_shown, end_made}

-- The definition without elements and entities: its lawful pieces are the loose ones that are no tags, with exact references.

abbrev pub bare : Table → Table
bare table = record { elements = []; entities = []; doctype = table.doctype }

bare_lawful : is_lawful [] [] ≡ true
unfolding is_lawful
bare_lawful = refl

no : false ≡ true → ⊥
no e = cc

loose_reference : (table : Table) (r : Reference) → is_reference r ≡ true → is_known [] r ≡ true → is_loose_reference table r ≡ true
loose_reference table (decimal ds) h k = (and_parts (is_some ds && list_all is_ascii_digit ds) (is_character (number_written 10 0 ds)) h).0
loose_reference table (hexadecimal ds) h k = (and_parts (is_some ds && list_all is_ascii_hexdigit ds) (is_character (number_written 16 0 ds)) h).0
loose_reference table (entity name) h k = and_from (is_name name) (is_known table.entities (entity name)) h (at (list_any (bytes_eq name) known_entities) k)
  where
    at : (b : Bool) → (b || false) ≡ true → (b || list_any (bytes_eq name) table.entities) ≡ true
    at true e = refl
    at false e = absurd (no e)

lawful_loose : (table : Table) (place : Place) (p : Piece) → IsLawful (bare table) place p → IsLoose table place p
lawful_loose table place mark l = record { is = l.is; allowed = refl }
lawful_loose table place (declaration d) l = record { is = l.is; allowed = refl }
lawful_loose table place (doctype d) l = record { is = l.is; allowed = l.allowed }
lawful_loose table place (start_tag tag) l = absurd (no l.allowed)
lawful_loose table place (empty_tag tag) l = absurd (no l.allowed)
lawful_loose table place (end_tag name space) l = absurd (no l.allowed)
lawful_loose table place (leaf (character c)) l = record { is = l.is; allowed = refl }
lawful_loose table place (leaf (reference r)) l = loose_reference table r l.is.1 l.allowed
lawful_loose table place (leaf (section cs)) l = record { is = l.is; allowed = refl }
lawful_loose table place (leaf (comment cs)) l = record { is = l.is; allowed = refl }
lawful_loose table place (leaf (instruction target cs)) l = record { is = l.is; allowed = refl }

pub same_bytes : (table : Table) (place : Place) (p : Piece) → IsLawful (bare table) place p → loose_bytes p ≡ piece_bytes p
same_bytes table place mark l = refl
same_bytes table place (declaration d) l = refl
same_bytes table place (doctype d) l = refl
same_bytes table place (start_tag tag) l = absurd (no l.allowed)
same_bytes table place (empty_tag tag) l = absurd (no l.allowed)
same_bytes table place (end_tag name space) l = refl
same_bytes table place (leaf x) l = refl

-- Kinds of loose pieces.

-- a coarse piece that begins with `<` or `&`
pub record IsCoarse (place : Place) (p : Piece) : Type 0 where
  pub matches : Matches coarse_form (loose_bytes p)
  pub first : ℕ
  pub rest : List ℕ
  pub head : (first ≡ 60) ⊎ (first ≡ 38)
  pub is : first ∷ rest ≡ loose_bytes p
  pub leads : after place p ≡ behind 0

-- a character that is neither
pub record IsCharacter (place : Place) (p : Piece) : Type 0 where
  pub code : ℕ
  pub plain : is_plain code ≡ true
  pub is : encode_utf8_all (code ∷ []) ≡ loose_bytes p

less_first : (rest : List ℕ) → 60 ∷ encode_utf8_all rest ≡ encode_utf8_all (60 ∷ rest)
less_first rest = sym (ap (λ (z : List ℕ). z ++ encode_utf8_all rest) (encode_ascii 60 (omega arith)))

and_first : (rest : List ℕ) → 38 ∷ encode_utf8_all rest ≡ encode_utf8_all (38 ∷ rest)
and_first rest = sym (ap (λ (z : List ℕ). z ++ encode_utf8_all rest) (encode_ascii 38 (omega arith)))

less : {place : Place} {p : Piece} (rest : List ℕ) → encode_utf8_all (60 ∷ rest) ≡ loose_bytes p → Matches coarse_form (loose_bytes p) → after place p ≡ behind 0 → IsCoarse place p
less rest e d l = record { matches = d; first = 60; rest = encode_utf8_all rest; head = inl refl; is = less_first rest ∙ e; leads = l }

-- without the first character
abbrev later : List ℕ → List ℕ
later [] = []
later (c ∷ cs) = cs

reference_kind : (table : Table) (place : Place) (r : Reference) → is_loose_reference table r ≡ true → IsCoarse place (leaf (reference r))
reference_kind table place r h = at r ((references_within table.entities).goes (piece_bytes (leaf (reference r))) (reference_made table r h))
  where
    put : (r : Reference) (rest : List ℕ) → encode_utf8_all (38 ∷ rest) ≡ piece_bytes (leaf (reference r)) → Matches coarse_form (piece_bytes (leaf (reference r))) → IsCoarse place (leaf (reference r))
    put r rest e d = record { matches = d; first = 38; rest = encode_utf8_all rest; head = inr refl; is = and_first rest ∙ e; leads = refl }

    at : (r : Reference) → Matches coarse_form (piece_bytes (leaf (reference r))) → IsCoarse place (leaf (reference r))
    at (decimal ds) d = put (decimal ds) (35 ∷ (ds ++ 59 ∷ [])) refl d
    at (hexadecimal ds) d = put (hexadecimal ds) (35 ∷ 120 ∷ (ds ++ 59 ∷ [])) refl d
    at (entity name) d = put (entity name) (name ++ 59 ∷ []) refl d

lawful_kind : (table : Table) (place : Place) (p : Piece) → IsLawful (bare table) place p → IsCoarse place p ⊎ IsCharacter place p
lawful_kind table place mark l = inr (record { code = 0xFEFF; plain = refl; is = refl })
lawful_kind table place (declaration d) l =
    inl (less (later (piece_then (declaration d) [])) refl (declarations_coarse.goes (piece_bytes (declaration d)) ((declarations_are_spelled (piece_bytes (declaration d))).1 (declaration d, (d, refl, l.is.1), refl))) refl)
lawful_kind table place (doctype d) l =
    inl (less (later (piece_then (doctype d) [])) refl ((doctypes_coarse table.doctype).goes (piece_bytes (doctype d)) ((doctypes_are_spelled table.doctype (piece_bytes (doctype d))).1 (doctype d, (d, refl, l.is, l.allowed), refl))) refl)
lawful_kind table place (start_tag tag) l = absurd (no l.allowed)
lawful_kind table place (empty_tag tag) l = absurd (no l.allowed)
lawful_kind table place (end_tag name space) l = absurd (no l.allowed)
lawful_kind table place (leaf (character c)) l = inr (record { code = c; plain = l.is.1; is = refl })
lawful_kind table place (leaf (reference r)) l = inl (reference_kind table place r (loose_reference table r l.is.1 l.allowed))
lawful_kind table place (leaf (section cs)) l =
    inl (less (later (piece_then (leaf (section cs)) [])) refl (sections_coarse.goes (piece_bytes (leaf (section cs))) ((sections_are_spelled (piece_bytes (leaf (section cs)))).1 (leaf (section cs), (cs, refl, l.is.1), refl))) refl)
lawful_kind table place (leaf (comment cs)) l =
    inl (less (later (piece_then (leaf (comment cs)) [])) refl (comments_coarse.goes (piece_bytes (leaf (comment cs))) ((comments_are_spelled (piece_bytes (leaf (comment cs)))).1 (leaf (comment cs), (cs, refl, l.is.1), refl))) refl)
lawful_kind table place (leaf (instruction target cs)) l =
    inl (less (later (piece_then (leaf (instruction target cs)) [])) refl (instructions_coarse.goes (piece_bytes (leaf (instruction target cs))) ((instructions_are_spelled (piece_bytes (leaf (instruction target cs)))).1 (leaf (instruction target cs), (target, cs, refl, l.is.1), refl))) refl)

-- each loose piece of bytes, where what is no tag and no reference is lawful by the bare definition
pub data IsOfKind (table : Table) (place : Place) (p : Piece) : Type 0 where
  coarse : IsCoarse place p → IsOfKind table place p
  single : IsCharacter place p → IsLawful (bare table) place p → IsOfKind table place p

of_lawful : (table : Table) (place : Place) (p : Piece) → IsLawful (bare table) place p → IsOfKind table place p
of_lawful table place p l = at (lawful_kind table place p l)
  where
    at : IsCoarse place p ⊎ IsCharacter place p → IsOfKind table place p
    at (inl c) = coarse c
    at (inr c) = single c l

pub kind : (table : Table) (place : Place) (p : Piece) → IsLoose table place p → OfBytes (loose_bytes p) → IsOfKind table place p
kind table place mark l b = of_lawful table place mark (record { is = l.is; allowed = refl })
kind table place (declaration d) l b = of_lawful table place (declaration d) (record { is = l.is; allowed = refl })
kind table place (doctype d) l b = of_lawful table place (doctype d) (record { is = l.is; allowed = l.allowed })
kind table place (start_tag tag) l b =
    coarse (record { matches = (tags_within (names_of table)).goes (loose_bytes (start_tag tag)) (tags.made table tag (62 ∷ []) (inl refl) l b); first = 60; rest = tag_then tag (62 ∷ []); head = inl refl; is = refl; leads = refl })
kind table place (empty_tag tag) l b =
    coarse (record { matches = (tags_within (names_of table)).goes (loose_bytes (empty_tag tag)) (tags.made table tag (47 ∷ 62 ∷ []) (inr refl) l b); first = 60; rest = tag_then tag (47 ∷ 62 ∷ []); head = inl refl; is = refl; leads = refl })
kind table place (end_tag name space) l b =
    coarse (less (later (piece_then (end_tag name space) [])) refl ((ends_within (names_of table)).goes (piece_bytes (end_tag name space)) (end_made table name space l.is.0 l.is.1 l.allowed)) refl)
kind table place (leaf (character c)) l b = of_lawful table place (leaf (character c)) (record { is = l.is; allowed = refl })
kind table place (leaf (reference r)) l b = coarse (reference_kind table place r l)
kind table place (leaf (section cs)) l b = of_lawful table place (leaf (section cs)) (record { is = l.is; allowed = refl })
kind table place (leaf (comment cs)) l b = of_lawful table place (leaf (comment cs)) (record { is = l.is; allowed = refl })
kind table place (leaf (instruction target cs)) l b = of_lawful table place (leaf (instruction target cs)) (record { is = l.is; allowed = refl })

-- so it is coarse pieces in turn
pub all_coarse : {table : Table} {place : Place} {p : Piece} → IsOfKind table place p → Matches (star coarse_form) (loose_bytes p)
all_coarse (coarse c) = (once coarse_form).goes _ c.matches
all_coarse (single c l) = subst (λ (z : List ℕ). Matches (star coarse_form) z) c.is (text_coarse.goes (encode_utf8_all (c.code ∷ [])) (plain_within c.code c.plain))

-- From a form to its piece.

-- the bytes are those of a loose piece, which leads to this place
record Gives (table : Table) (place : Place) (bytes : List ℕ) (to : Place) : Type 0 where
  piece : Piece
  loose : IsLoose table place piece
  of_bytes : OfBytes bytes
  spelled : loose_bytes piece ≡ bytes
  leads : after place piece ≡ to

-- the bytes are those of a loose piece without tokens
abbrev IsGiven : Table → Place → List ℕ → List PageToken → Place → Type 0
IsGiven table place bytes tokens to = (p : Piece) × (IsLoose table place p × OfBytes (loose_bytes p)) × (loose_bytes p ≡ bytes) × ([] ≡ tokens) × (after place p ≡ to)

given : {table : Table} {place : Place} {bytes : List ℕ} {to : Place} → Gives table place bytes to → {tokens : List PageToken} {end : Place} → [] ≡ tokens → to ≡ end → IsGiven table place bytes tokens end
given g t e = (g.piece, (g.loose, subst OfBytes (sym g.spelled) g.of_bytes), g.spelled, t, g.leads ∙ e)

bare_gives : (table : Table) (place : Place) (bytes : List ℕ) (tokens : List PageToken) (to : Place) → IsOfOne (forms (bare table) place) bytes tokens to → Gives table place bytes to
bare_gives table place bytes tokens to k =
    let q = (pieces_are_spelled (bare table) bare_lawful place bytes tokens to).0 k in
    let same = same_bytes table place q.0 q.1 ∙ q.2 in
    record {
      piece = q.0;
      loose = lawful_loose table place q.0 q.1;
      of_bytes = subst OfBytes same (coarse_all_bytes (loose_bytes q.0) (all_coarse (of_lawful table place q.0 q.1)));
      spelled = same;
      leads = q.4;
    }

tag_gives : (table : Table) (place : Place) (bytes : List ℕ) → Matches (loose_tag_form (names_of table)) bytes → Gives table place bytes (behind 0)
tag_gives table place bytes d =
    let q = tags.shown table bytes d in
    record { piece = q.piece; loose = q.loose place; of_bytes = tag_bytes (names_of table) bytes d; spelled = q.is; leads = q.leads place }

end_gives : (table : Table) (place : Place) (bytes : List ℕ) → Matches (end_form (names_of table)) bytes → Gives table place bytes (behind 0)
end_gives table place bytes d =
    let q = end_shown table bytes d in
    record { piece = end_tag q.0 q.1; loose = record { is = (q.2, q.3); allowed = q.4 }; of_bytes = coarse_bytes bytes ((ends_within (names_of table)).goes bytes d); spelled = q.5; leads = refl }

reference_gives : (table : Table) (place : Place) (bytes : List ℕ) → Matches (loose_reference_form table.entities) bytes → Gives table place bytes (behind 0)
reference_gives table place bytes d =
    let q = reference_shown table bytes d in
    record { piece = leaf (reference q.0); loose = q.1; of_bytes = coarse_bytes bytes ((references_within table.entities).goes bytes d); spelled = q.2; leads = refl }

-- the forms of the bare definition behind the early ones
abbrev bare_later : Table → Place → List Form
bare_later table place = leaf_forms [] place (giving (doctype_form table.doctype) (token.Doctype ∷ []) ∷ [])

-- and the loose ones
abbrev loose_later : Table → Place → List Form
loose_later table place =
    giving blank_form [] ∷ record { expression = bracket_form; tokens = []; leads_to = behind (min 2 (suc (brackets place))) } ∷ giving (text_form place) [] ∷ giving (loose_reference_form table.entities) [] ∷ giving section_form []
    ∷ giving comment_form [] ∷ giving instruction_form [] ∷ giving (doctype_form table.doctype) [] ∷ giving (loose_tag_form (names_of table)) [] ∷ giving (end_form (names_of table)) [] ∷ []

-- without tokens
abbrev Bare : Table → Place → List ℕ → Place → Type 0
Bare table place bytes to = (tokens : List PageToken) × IsOfOne (bare_later table place) bytes tokens to

later_gives : (table : Table) (place : Place) (bytes : List ℕ) → ((to : Place) → Bare table place bytes to → Gives table place bytes to) → (tokens : List PageToken) (to : Place)
    → IsOfOne (loose_later table place) bytes tokens to → IsGiven table place bytes tokens to
later_gives table place bytes f tokens to (inl k) = given (f to (token.Blank ∷ [], inl (k.0, refl, k.2))) k.1 refl
later_gives table place bytes f tokens to (inr (inl k)) = given (f to (token.Text ∷ [], inr (inl (k.0, refl, k.2)))) k.1 refl
later_gives table place bytes f tokens to (inr (inr (inl k))) = given (f to (token.Text ∷ [], inr (inr (inl (k.0, refl, k.2))))) k.1 refl
later_gives table place bytes f tokens to (inr (inr (inr (inl k)))) = given (reference_gives table place bytes k.0) k.1 k.2
later_gives table place bytes f tokens to (inr (inr (inr (inr (inl k))))) = given (f to (token.Text ∷ [], inr (inr (inr (inr (inl (k.0, refl, k.2))))))) k.1 refl
later_gives table place bytes f tokens to (inr (inr (inr (inr (inr (inl k)))))) = given (f to (token.Misc ∷ [], inr (inr (inr (inr (inr (inl (k.0, refl, k.2)))))))) k.1 refl
later_gives table place bytes f tokens to (inr (inr (inr (inr (inr (inr (inl k))))))) = given (f to (token.Misc ∷ [], inr (inr (inr (inr (inr (inr (inl (k.0, refl, k.2))))))))) k.1 refl
later_gives table place bytes f tokens to (inr (inr (inr (inr (inr (inr (inr (inl k)))))))) = given (f to (token.Doctype ∷ [], inr (inr (inr (inr (inr (inr (inr (inl (k.0, refl, k.2)))))))))) k.1 refl
later_gives table place bytes f tokens to (inr (inr (inr (inr (inr (inr (inr (inr (inl k))))))))) = given (tag_gives table place bytes k.0) k.1 k.2
later_gives table place bytes f tokens to (inr (inr (inr (inr (inr (inr (inr (inr (inr (inl k)))))))))) = given (end_gives table place bytes k.0) k.1 k.2
later_gives table place bytes f tokens to (inr (inr (inr (inr (inr (inr (inr (inr (inr (inr k)))))))))) = absurd k

bare_early : (table : Table) (place : Place) (bytes : List ℕ) (tokens : List PageToken) (to : Place) → IsOfOne (early_forms place (bare_later table place)) bytes tokens to → Gives table place bytes to
unfolding forms
bare_early table place bytes tokens to k = bare_gives table place bytes tokens to k

forms_give : (table : Table) (place : Place) (bytes : List ℕ) (tokens : List PageToken) (to : Place) → IsOfOne (early_forms place (loose_later table place)) bytes tokens to → IsGiven table place bytes tokens to
forms_give table at_beginning bytes tokens to (inl k) = given (bare_early table at_beginning bytes tokens to (inl k)) k.1 refl
forms_give table at_beginning bytes tokens to (inr (inl k)) = given (bare_early table at_beginning bytes tokens to (inr (inl k))) k.1 refl
forms_give table at_beginning bytes tokens to (inr (inr k)) = later_gives table at_beginning bytes (λ end b. bare_early table at_beginning bytes b.0 end (inr (inr b.1))) tokens to k
forms_give table behind_mark bytes tokens to (inl k) = given (bare_early table behind_mark bytes tokens to (inl k)) k.1 refl
forms_give table behind_mark bytes tokens to (inr k) = later_gives table behind_mark bytes (λ end b. bare_early table behind_mark bytes b.0 end (inr b.1)) tokens to k
forms_give table (behind n) bytes tokens to k = later_gives table (behind n) bytes (λ end b. bare_early table (behind n) bytes b.0 end b.1) tokens to k

-- From a piece to its form.

later_in : (table : Table) (place : Place) {bytes : List ℕ} {to : Place} → IsOfOne (loose_later table place) bytes [] to → IsOfOne (early_forms place (loose_later table place)) bytes [] to
later_in table at_beginning k = inr (inr k)
later_in table behind_mark k = inr k
later_in table (behind n) k = k

bare_in : (table : Table) (place : Place) (bytes : List ℕ) (tokens : List PageToken) (to : Place) → IsOfOne (bare_later table place) bytes tokens to → IsOfOne (loose_later table place) bytes [] to
bare_in table place bytes tokens to (inl k) = inl (k.0, refl, k.2)
bare_in table place bytes tokens to (inr (inl k)) = inr (inl (k.0, refl, k.2))
bare_in table place bytes tokens to (inr (inr (inl k))) = inr (inr (inl (k.0, refl, k.2)))
bare_in table place bytes tokens to (inr (inr (inr (inl k)))) =
    let q = (references_are_spelled [] bytes).0 k.0 in
    let r = q.1.0 in
    inr (inr (inr (inl (
      subst (λ (z : List ℕ). Matches (loose_reference_form table.entities) z) (ap piece_bytes (sym q.1.1) ∙ q.2) (reference_made table r (loose_reference table r q.1.2 q.1.3)),
      refl,
      k.2,
    ))))
bare_in table place bytes tokens to (inr (inr (inr (inr (inl k))))) = inr (inr (inr (inr (inl (k.0, refl, k.2)))))
bare_in table place bytes tokens to (inr (inr (inr (inr (inr (inl k)))))) = inr (inr (inr (inr (inr (inl (k.0, refl, k.2))))))
bare_in table place bytes tokens to (inr (inr (inr (inr (inr (inr (inl k))))))) = inr (inr (inr (inr (inr (inr (inl (k.0, refl, k.2)))))))
bare_in table place bytes tokens to (inr (inr (inr (inr (inr (inr (inr (inl k)))))))) = inr (inr (inr (inr (inr (inr (inr (inl (k.0, refl, k.2))))))))
bare_in table place bytes tokens to (inr (inr (inr (inr (inr (inr (inr (inr k)))))))) = absurd k

bare_all_in : (table : Table) (place : Place) (bytes : List ℕ) (tokens : List PageToken) (to : Place) → IsOfOne (early_forms place (bare_later table place)) bytes tokens to → IsOfOne (early_forms place (loose_later table place)) bytes [] to
bare_all_in table at_beginning bytes tokens to (inl k) = inl (k.0, refl, k.2)
bare_all_in table at_beginning bytes tokens to (inr (inl k)) = inr (inl (k.0, refl, k.2))
bare_all_in table at_beginning bytes tokens to (inr (inr k)) = inr (inr (bare_in table at_beginning bytes tokens to k))
bare_all_in table behind_mark bytes tokens to (inl k) = inl (k.0, refl, k.2)
bare_all_in table behind_mark bytes tokens to (inr k) = inr (bare_in table behind_mark bytes tokens to k)
bare_all_in table (behind n) bytes tokens to k = bare_in table (behind n) bytes tokens to k

lawful_in : (table : Table) (place : Place) (p : Piece) → IsLawful (bare table) place p → IsOfOne (early_forms place (loose_later table place)) (piece_bytes p) [] (after place p)
unfolding forms
lawful_in table place p l =
    bare_all_in table place (piece_bytes p) (piece_tokens (bare table) p) (after place p) ((pieces_are_spelled (bare table) bare_lawful place (piece_bytes p) (piece_tokens (bare table) p) (after place p)).1 (p, l, refl, refl, refl))

tag_in : (table : Table) (place : Place) {bytes : List ℕ} → Matches (loose_tag_form (names_of table)) bytes → IsOfOne (early_forms place (loose_later table place)) bytes [] (behind 0)
tag_in table place d = later_in table place (inr (inr (inr (inr (inr (inr (inr (inr (inl (d, refl, refl))))))))))

piece_in : (table : Table) (place : Place) (p : Piece) → IsLoose table place p → OfBytes (loose_bytes p) → IsOfOne (early_forms place (loose_later table place)) (loose_bytes p) [] (after place p)
piece_in table place mark l b = lawful_in table place mark (record { is = l.is; allowed = refl })
piece_in table place (declaration d) l b = lawful_in table place (declaration d) (record { is = l.is; allowed = refl })
piece_in table place (doctype d) l b = lawful_in table place (doctype d) (record { is = l.is; allowed = l.allowed })
piece_in table place (start_tag tag) l b = tag_in table place (tags.made table tag (62 ∷ []) (inl refl) l b)
piece_in table place (empty_tag tag) l b = tag_in table place (tags.made table tag (47 ∷ 62 ∷ []) (inr refl) l b)
piece_in table place (end_tag name space) l b = later_in table place (inr (inr (inr (inr (inr (inr (inr (inr (inr (inl (end_made table name space l.is.0 l.is.1 l.allowed, refl, refl)))))))))))
piece_in table place (leaf (character c)) l b = lawful_in table place (leaf (character c)) (record { is = l.is; allowed = refl })
piece_in table place (leaf (reference r)) l b = later_in table place (inr (inr (inr (inl (reference_made table r l, refl, refl)))))
piece_in table place (leaf (section cs)) l b = lawful_in table place (leaf (section cs)) (record { is = l.is; allowed = refl })
piece_in table place (leaf (comment cs)) l b = lawful_in table place (leaf (comment cs)) (record { is = l.is; allowed = refl })
piece_in table place (leaf (instruction target cs)) l b = lawful_in table place (leaf (instruction target cs)) (record { is = l.is; allowed = refl })

pub loose_pieces_are_spelled : LoosePiecesAreSpelled
unfolding loose_forms
loose_pieces_are_spelled table place bytes tokens to = (λ k. forms_give table place bytes tokens to k, λ q. back q.0 q.1.0 q.1.1 q.2 q.3 q.4)
  where
    back : (p : Piece) → IsLoose table place p → OfBytes (loose_bytes p) → loose_bytes p ≡ bytes → [] ≡ tokens → after place p ≡ to → IsOfOne (early_forms place (loose_later table place)) bytes tokens to
    back p l b e t a =
        subst (λ (z : Place). IsOfOne (early_forms place (loose_later table place)) bytes tokens z) a
        (subst (λ (z : List PageToken). IsOfOne (early_forms place (loose_later table place)) bytes z (after place p)) t
        (subst (λ (z : List ℕ). IsOfOne (early_forms place (loose_later table place)) z [] (after place p)) e (piece_in table place p l b)))
