-- The forms at a place are those of the lawful pieces there.
use Rattle.std.proofs.Common.{◌≡◌, ◌⊎◌, inl, inr, ℕ, suc, Bool, true, false, List, [], ◌∷◌, Option, Some, None, refl, sym, ◌∙◌, ap, subst, arith}
use Rattle.std.specs.Prelude.{not, ◌==◌, ◌&&◌, ◌||◌, nat_le, min, map, length, bytes_eq, if◌then◌else◌}
use Rattle.std.specs.List.{list_all, list_any}
use Rattle.std.proofs.lemmas.Bool.{and_parts, and_from, or_parts, not-true, eqb-true}
use Rattle.std.proofs.lemmas.Bool.Decides.{nat_tests}
use Rattle.text_base.specs.declared.page_token.PageToken.{PageToken}
use Rattle.text_base.specs.declared.page_token.PageToken.TheVariants as token
use Rattle.xml_text.specs.Characters.{is_blank}
use Rattle.xml_text.specs.Names.{is_name}
use Rattle.dtd_model.specs.Lawful.{is_distinct, is_lawful, is_lawful_rule, is_lawful_holding, are_names, are_lawful_attributes, element_limit}
use Rattle.dtd_model.specs.References.{Reference}
use Rattle.dtd_model.specs.Table.{Rule, Table}
use Rattle.derivatives.specs.Expressions.{Expr, Matches}
use Rattle.page_model.specs.Attributes.{find_rule, is_some_rule, fits_rule, attributes_fit}
use Rattle.page_model.specs.PageTokens.{IsLawful, piece_bytes, piece_tokens, sort_token, element_of}
use Rattle.page_model.specs.Parts.{Tag, IsTag, character, reference, section, comment, instruction, is_plain}
use Rattle.page_model.specs.Pieces.{Piece, mark, declaration, doctype, start_tag, empty_tag, end_tag, leaf, may_follow, after}
use Rattle.page_model.specs.Places.{Place, at_beginning, behind_mark, behind, brackets, is_early}
use Rattle.page_model.specs.Valid.{Sort, blank, text, place_of}
use Rattle.page_model.proofs.Names.{same_bytes, equal_bytes, some_rule}
use Rattle.page_forms.specs.Forms.{Form, giving, element_forms, elements_forms, early_forms, leaf_forms, forms, IsOfForm, IsOfOne}
use Rattle.page_forms.specs.Laws.{PiecesAreSpelled}
use Rattle.page_forms.specs.Simple.{blank_form, bracket_form, text_form, mark_form, is_mark, end_tag_form}
use Rattle.page_forms.specs.Declarations.{declaration_form}
use Rattle.page_forms.specs.Doctypes.{doctype_form}
use Rattle.page_forms.specs.References.{reference_form}
use Rattle.page_forms.specs.Remarks.{comment_form, section_form, instruction_form}
use Rattle.page_forms.specs.Tags.{start_tag_form, empty_tag_form}
use Rattle.page_forms.proofs.Comments.{comments_are_spelled}
use Rattle.page_forms.proofs.DeclarationForms.{declarations_are_spelled}
use Rattle.page_forms.proofs.DoctypeForms.{doctypes_are_spelled}
use Rattle.page_forms.proofs.Instructions.{instructions_are_spelled}
use Rattle.page_forms.proofs.ReferenceForms.{references_are_spelled}
use Rattle.page_forms.proofs.Sections.{sections_are_spelled}
use Rattle.page_forms.proofs.SimpleForms.{blanks_are_spelled, bracket_is_spelled, text_is_spelled, mark_is_spelled, end_tags_are_spelled}
use Rattle.page_forms.proofs.TagForms.{start_tags_are_spelled, empty_tags_are_spelled}

-- the bytes are those of a lawful piece with these tokens, which leads to this place
record Gives (table : Table) (place : Place) (bytes : List ℕ) (tokens : List PageToken) (to : Place) : Type 0 where
  piece : Piece
  lawful : IsLawful table place piece
  spelled : piece_bytes piece ≡ bytes
  gives : piece_tokens table piece ≡ tokens
  leads : after place piece ≡ to

-- what a form gives, its pieces give
given : {table : Table} {place : Place} {bytes : List ℕ} (f : Form) {tokens : List PageToken} {to : Place} → (Matches f.expression bytes → Gives table place bytes f.tokens f.leads_to) → IsOfForm f bytes tokens to → Gives table place bytes tokens to
given {table} {place} {bytes} f g k =
    let p = g k.0 in record { piece = p.piece; lawful = p.lawful; spelled = p.spelled; gives = p.gives ∙ k.1; leads = p.leads ∙ k.2 }

-- a piece that is told by another name
told : {p q : Piece} {bytes : List ℕ} → p ≡ q → piece_bytes p ≡ bytes → piece_bytes q ≡ bytes
told e i = ap piece_bytes (sym e) ∙ i

blank_parts : (c : ℕ) → is_blank c ≡ true → (is_plain c ≡ true) × ((c == 93) ≡ false) × ((c == 62) ≡ false) × ((c == 0xFEFF) ≡ false)
blank_parts c h = (plain c h, bracket c h, greater c h, other c h)
  where
    plain : (c : ℕ) → is_blank c ≡ true → is_plain c ≡ true
    plain c h = grind (arith, nat_tests)

    bracket : (c : ℕ) → is_blank c ≡ true → (c == 93) ≡ false
    bracket c h = grind (arith, nat_tests)

    greater : (c : ℕ) → is_blank c ≡ true → (c == 62) ≡ false
    greater c h = grind (arith, nat_tests)

    other : (c : ℕ) → is_blank c ≡ true → (c == 0xFEFF) ≡ false
    other c h = grind (arith, nat_tests)

blank_follows : (place : Place) (c : ℕ) → is_blank c ≡ true → may_follow place (character c) ≡ true
blank_follows at_beginning c h = ap not (blank_parts c h).3
blank_follows behind_mark c h = refl
blank_follows (behind k) c h = ap (λ (x : Bool). not (x && k == 2)) (blank_parts c h).2

bracket_follows : (place : Place) → may_follow place (character 93) ≡ true
bracket_follows at_beginning = refl
bracket_follows behind_mark = refl
bracket_follows (behind k) = refl

blank_gives : (table : Table) (place : Place) (bytes : List ℕ) → Matches blank_form bytes → Gives table place bytes (token.Blank ∷ []) (behind 0)
blank_gives table place bytes d =
    let q = (blanks_are_spelled bytes).0 d in
    let c = q.1.0 in
    let h = q.1.2 in
    let b = blank_parts c h in
    record {
      piece = leaf (character c);
      lawful = record { is = (blank_follows place c h, b.0); allowed = refl };
      spelled = told q.1.1 q.2;
      gives = ap (λ (x : Bool). sort_token (if x then blank else text) ∷ []) h;
      leads = ap (λ (x : Bool). behind (if x then min 2 (suc (brackets place)) else 0)) b.1;
    }

bracket_gives : (table : Table) (place : Place) (bytes : List ℕ) → Matches bracket_form bytes → Gives table place bytes (token.Text ∷ []) (behind (min 2 (suc (brackets place))))
bracket_gives table place bytes d =
    let q = (bracket_is_spelled bytes).0 d in
    record { piece = leaf (character 93); lawful = record { is = (bracket_follows place, refl); allowed = refl }; spelled = told q.1 q.2; gives = refl; leads = refl }

text_gives : (table : Table) (place : Place) (bytes : List ℕ) → Matches (text_form place) bytes → Gives table place bytes (token.Text ∷ []) (behind 0)
text_gives table place bytes d =
    let q = (text_is_spelled place bytes).0 d in
    let c = q.1.0 in
    let m = or_parts (c == 93) (is_blank c) q.1.3 in
    record {
      piece = leaf (character c);
      lawful = record { is = (q.1.4, q.1.2); allowed = refl };
      spelled = told q.1.1 q.2;
      gives = ap (λ (x : Bool). sort_token (if x then blank else text) ∷ []) m.1;
      leads = ap (λ (x : Bool). behind (if x then min 2 (suc (brackets place)) else 0)) m.0;
    }

reference_follows : (place : Place) (r : Reference) → may_follow place (reference r) ≡ true
reference_follows at_beginning r = refl
reference_follows behind_mark r = refl
reference_follows (behind k) r = refl

section_follows : (place : Place) (cs : List ℕ) → may_follow place (section cs) ≡ true
section_follows at_beginning cs = refl
section_follows behind_mark cs = refl
section_follows (behind k) cs = refl

comment_follows : (place : Place) (cs : List ℕ) → may_follow place (comment cs) ≡ true
comment_follows at_beginning cs = refl
comment_follows behind_mark cs = refl
comment_follows (behind k) cs = refl

instruction_follows : (place : Place) (target cs : List ℕ) → may_follow place (instruction target cs) ≡ true
instruction_follows at_beginning target cs = refl
instruction_follows behind_mark target cs = refl
instruction_follows (behind k) target cs = refl

reference_gives : (table : Table) (place : Place) (bytes : List ℕ) → Matches (reference_form table.entities) bytes → Gives table place bytes (token.Text ∷ []) (behind 0)
reference_gives table place bytes d =
    let q = (references_are_spelled table.entities bytes).0 d in
    record { piece = leaf (reference q.1.0); lawful = record { is = (reference_follows place q.1.0, q.1.2); allowed = q.1.3 }; spelled = told q.1.1 q.2; gives = refl; leads = refl }

section_gives : (table : Table) (place : Place) (bytes : List ℕ) → Matches section_form bytes → Gives table place bytes (token.Text ∷ []) (behind 0)
section_gives table place bytes d =
    let q = (sections_are_spelled bytes).0 d in
    record { piece = leaf (section q.1.0); lawful = record { is = (section_follows place q.1.0, q.1.2); allowed = refl }; spelled = told q.1.1 q.2; gives = refl; leads = refl }

comment_gives : (table : Table) (place : Place) (bytes : List ℕ) → Matches comment_form bytes → Gives table place bytes (token.Misc ∷ []) (behind 0)
comment_gives table place bytes d =
    let q = (comments_are_spelled bytes).0 d in
    record { piece = leaf (comment q.1.0); lawful = record { is = (comment_follows place q.1.0, q.1.2); allowed = refl }; spelled = told q.1.1 q.2; gives = refl; leads = refl }

instruction_gives : (table : Table) (place : Place) (bytes : List ℕ) → Matches instruction_form bytes → Gives table place bytes (token.Misc ∷ []) (behind 0)
instruction_gives table place bytes d =
    let q = (instructions_are_spelled bytes).0 d in
    record { piece = leaf (instruction q.1.0 q.1.1); lawful = record { is = (instruction_follows place q.1.0 q.1.1, q.1.3); allowed = refl }; spelled = told q.1.2 q.2; gives = refl; leads = refl }

doctype_gives : (table : Table) (place : Place) (bytes : List ℕ) → Matches (doctype_form table.doctype) bytes → Gives table place bytes (token.Doctype ∷ []) (behind 0)
doctype_gives table place bytes d =
    let q = (doctypes_are_spelled table.doctype bytes).0 d in
    record { piece = doctype q.1.0; lawful = record { is = q.1.2; allowed = q.1.3 }; spelled = told q.1.1 q.2; gives = refl; leads = refl }

declaration_gives : (table : Table) (place : Place) (bytes : List ℕ) → is_early place ≡ true → Matches declaration_form bytes → Gives table place bytes [] (behind 0)
declaration_gives table place bytes early d =
    let q = (declarations_are_spelled bytes).0 d in
    record { piece = declaration q.1.0; lawful = record { is = (early, q.1.2); allowed = refl }; spelled = told q.1.1 q.2; gives = refl; leads = refl }

mark_gives : (table : Table) (bytes : List ℕ) → Matches mark_form bytes → Gives table at_beginning bytes [] behind_mark
mark_gives table bytes d =
    let q = (mark_is_spelled bytes).0 d in
    record { piece = mark; lawful = record { is = refl; allowed = refl }; spelled = told q.1 q.2; gives = refl; leads = refl }

-- Elements, by their numbers.

-- each of the rules is declared, from this number on
abbrev AreAt : List Rule → ℕ → List Rule → Type 0
AreAt all n [] = Unit {0}
AreAt all n (r ∷ rules) = (find_rule all r.name ≡ Some r) × (place_of all r.name ≡ n) × AreAt all (suc n) rules

abbrev Absent : List ℕ → List Rule → Type 0
Absent name [] = Unit {0}
Absent name (r ∷ rules) = (bytes_eq name r.name ≡ false) × Absent name rules

abbrev Distinct : List Rule → Type 0
Distinct [] = Unit {0}
Distinct (r ∷ rules) = Absent r.name rules × Distinct rules

shifted : (x : Rule) (all : List Rule) (n : ℕ) (rules : List Rule) → Absent x.name rules → AreAt all n rules → AreAt (x ∷ all) (suc n) rules
shifted x all n [] k a = tt
shifted x all n (r ∷ rules) k a =
    (ap (λ (b : Bool). if b then Some x else find_rule all r.name) k.0 ∙ a.0, ap (λ (b : Bool). if b then 0 else suc (place_of all r.name)) k.0 ∙ ap suc a.1, shifted x all (suc n) rules k.1 a.2)

all_at : (rules : List Rule) → Distinct rules → AreAt rules 0 rules
all_at [] k = tt
all_at (r ∷ rules) k =
    let own : bytes_eq r.name r.name ≡ true = equal_bytes r.name r.name refl in
    (ap (λ (b : Bool). if b then Some r else find_rule rules r.name) own, ap (λ (b : Bool). if b then 0 else suc (place_of rules r.name)) own, shifted r rules 0 rules k.0 (all_at rules k.1))

-- what is known of each rule
abbrev AreWell : List Rule → Type 0
AreWell [] = Unit {0}
AreWell (r ∷ rules) = (is_name r.name ≡ true) × (are_lawful_attributes r.attributes ≡ true) × AreWell rules

record IsElement (table : Table) (n : ℕ) (rule : Rule) : Type 0 where
  found : find_rule table.elements rule.name ≡ Some rule
  number : place_of table.elements rule.name ≡ n
  named : is_name rule.name ≡ true
  well : are_lawful_attributes rule.attributes ≡ true

abbrev Fitting : Table → Rule → Tag → Type 0
Fitting table rule tag = attributes_fit table.entities rule.name rule.attributes tag.attributes ≡ true

tag_allowed : (table : Table) (n : ℕ) (rule : Rule) → IsElement table n rule → (tag : Tag) → tag.name ≡ rule.name → Fitting table rule tag → fits_rule table.entities (find_rule table.elements tag.name) tag ≡ true
tag_allowed table n rule e tag h f =
    ap (λ (z : List ℕ). fits_rule table.entities (find_rule table.elements z) tag) h
    ∙ ap (λ (o : Option Rule). fits_rule table.entities o tag) e.found
    ∙ ap (λ (z : List ℕ). attributes_fit table.entities z rule.attributes tag.attributes) h ∙ f

numbered : (table : Table) (n : ℕ) (rule : Rule) → IsElement table n rule → (name : List ℕ) → name ≡ rule.name → place_of table.elements name ≡ n
numbered table n rule e name h = ap (place_of table.elements) h ∙ e.number

start_gives : (table : Table) (place : Place) (n : ℕ) (rule : Rule) → IsElement table n rule → (bytes : List ℕ) → Matches (start_tag_form table.entities rule) bytes → Gives table place bytes (token.Start (record { 0 = n }) ∷ []) (behind 0)
start_gives table place n rule e bytes d =
    let q = (start_tags_are_spelled table.entities rule e.named e.well bytes).0 d in
    record {
      piece = start_tag q.1.0;
      lawful = record { is = q.1.2; allowed = tag_allowed table n rule e q.1.0 q.1.3 q.1.4 };
      spelled = told q.1.1 q.2;
      gives = ap (λ (m : ℕ). token.Start (record { 0 = m }) ∷ []) (numbered table n rule e q.1.0.name q.1.3);
      leads = refl;
    }

empty_gives : (table : Table) (place : Place) (n : ℕ) (rule : Rule) → IsElement table n rule → (bytes : List ℕ) → Matches (empty_tag_form table.entities rule) bytes
    → Gives table place bytes (token.Start (record { 0 = n }) ∷ token.End (record { 0 = n }) ∷ []) (behind 0)
empty_gives table place n rule e bytes d =
    let q = (empty_tags_are_spelled table.entities rule e.named e.well bytes).0 d in
    record {
      piece = empty_tag q.1.0;
      lawful = record { is = q.1.2; allowed = tag_allowed table n rule e q.1.0 q.1.3 q.1.4 };
      spelled = told q.1.1 q.2;
      gives = ap (λ (m : ℕ). token.Start (record { 0 = m }) ∷ token.End (record { 0 = m }) ∷ []) (numbered table n rule e q.1.0.name q.1.3);
      leads = refl;
    }

end_gives : (table : Table) (place : Place) (n : ℕ) (rule : Rule) → IsElement table n rule → (bytes : List ℕ) → Matches (end_tag_form rule.name) bytes → Gives table place bytes (token.End (record { 0 = n }) ∷ []) (behind 0)
end_gives table place n rule e bytes d =
    let q = (end_tags_are_spelled rule.name e.named bytes).0 d in
    record {
      piece = end_tag rule.name q.1.0;
      lawful = record { is = (e.named, q.1.2); allowed = ap is_some_rule e.found };
      spelled = told q.1.1 q.2;
      gives = ap (λ (m : ℕ). token.End (record { 0 = m }) ∷ []) e.number;
      leads = refl;
    }

elements_give : (table : Table) (place : Place) (bytes : List ℕ) (tokens : List PageToken) (to : Place) (n : ℕ) (rules : List Rule) → AreAt table.elements n rules → AreWell rules
    → IsOfOne (elements_forms table.entities n rules) bytes tokens to → Gives table place bytes tokens to
elements_give table place bytes tokens to n [] a w k = absurd k
elements_give table place bytes tokens to n (rule ∷ rules) a w (inl k) =
    given (giving (start_tag_form table.entities rule) (token.Start (record { 0 = n }) ∷ [])) (start_gives table place n rule (record { found = a.0; number = a.1; named = w.0; well = w.1 }) bytes) k
elements_give table place bytes tokens to n (rule ∷ rules) a w (inr (inl k)) =
    given (giving (empty_tag_form table.entities rule) (token.Start (record { 0 = n }) ∷ token.End (record { 0 = n }) ∷ [])) (empty_gives table place n rule (record { found = a.0; number = a.1; named = w.0; well = w.1 }) bytes) k
elements_give table place bytes tokens to n (rule ∷ rules) a w (inr (inr (inl k))) =
    given (giving (end_tag_form rule.name) (token.End (record { 0 = n }) ∷ [])) (end_gives table place n rule (record { found = a.0; number = a.1; named = w.0; well = w.1 }) bytes) k
elements_give table place bytes tokens to n (rule ∷ rules) a w (inr (inr (inr k))) = elements_give table place bytes tokens to (suc n) rules a.2 w.2 k

-- the forms behind the early ones
abbrev later_forms : Table → Place → List Form
later_forms table place = leaf_forms table.entities place (giving (doctype_form table.doctype) (token.Doctype ∷ []) ∷ elements_forms table.entities 0 table.elements)

-- a lawful definition, element by element
record IsWell (table : Table) : Type 0 where
  at : AreAt table.elements 0 table.elements
  each : AreWell table.elements

later_give : (table : Table) → IsWell table → (place : Place) (bytes : List ℕ) (tokens : List PageToken) (to : Place) → IsOfOne (later_forms table place) bytes tokens to → Gives table place bytes tokens to
later_give table w place bytes tokens to (inl k) = given (giving blank_form (token.Blank ∷ [])) (blank_gives table place bytes) k
later_give table w place bytes tokens to (inr (inl k)) =
    given (record { expression = bracket_form; tokens = token.Text ∷ []; leads_to = behind (min 2 (suc (brackets place))) }) (bracket_gives table place bytes) k
later_give table w place bytes tokens to (inr (inr (inl k))) = given (giving (text_form place) (token.Text ∷ [])) (text_gives table place bytes) k
later_give table w place bytes tokens to (inr (inr (inr (inl k)))) = given (giving (reference_form table.entities) (token.Text ∷ [])) (reference_gives table place bytes) k
later_give table w place bytes tokens to (inr (inr (inr (inr (inl k))))) = given (giving section_form (token.Text ∷ [])) (section_gives table place bytes) k
later_give table w place bytes tokens to (inr (inr (inr (inr (inr (inl k)))))) = given (giving comment_form (token.Misc ∷ [])) (comment_gives table place bytes) k
later_give table w place bytes tokens to (inr (inr (inr (inr (inr (inr (inl k))))))) = given (giving instruction_form (token.Misc ∷ [])) (instruction_gives table place bytes) k
later_give table w place bytes tokens to (inr (inr (inr (inr (inr (inr (inr (inl k)))))))) = given (giving (doctype_form table.doctype) (token.Doctype ∷ [])) (doctype_gives table place bytes) k
later_give table w place bytes tokens to (inr (inr (inr (inr (inr (inr (inr (inr k)))))))) = elements_give table place bytes tokens to 0 table.elements w.at w.each k

forms_give : (table : Table) → IsWell table → (place : Place) (bytes : List ℕ) (tokens : List PageToken) (to : Place) → IsOfOne (early_forms place (later_forms table place)) bytes tokens to → Gives table place bytes tokens to
forms_give table w at_beginning bytes tokens to (inl k) = given (record { expression = mark_form; tokens = []; leads_to = behind_mark }) (mark_gives table bytes) k
forms_give table w at_beginning bytes tokens to (inr (inl k)) = given (giving declaration_form []) (declaration_gives table at_beginning bytes refl) k
forms_give table w at_beginning bytes tokens to (inr (inr k)) = later_give table w at_beginning bytes tokens to k
forms_give table w behind_mark bytes tokens to (inl k) = given (giving declaration_form []) (declaration_gives table behind_mark bytes refl) k
forms_give table w behind_mark bytes tokens to (inr k) = later_give table w behind_mark bytes tokens to k
forms_give table w (behind n) bytes tokens to k = later_give table w (behind n) bytes tokens to k

-- From a piece to its form.

-- behind the early forms stand the others
later_in : (table : Table) (place : Place) {bytes : List ℕ} {tokens : List PageToken} {to : Place} → IsOfOne (later_forms table place) bytes tokens to → IsOfOne (early_forms place (later_forms table place)) bytes tokens to
later_in table at_beginning k = inr (inr k)
later_in table behind_mark k = inr k
later_in table (behind n) k = k

declaration_in : (table : Table) (place : Place) {bytes : List ℕ} → is_early place ≡ true → Matches declaration_form bytes → IsOfOne (early_forms place (later_forms table place)) bytes [] (behind 0)
declaration_in table at_beginning e d = inr (inl (d, refl, refl))
declaration_in table behind_mark e d = inl (d, refl, refl)
declaration_in table (behind k) e d = absurd (no e)
  where
    no : false ≡ true → ⊥
    no e = cc

-- a tag of an element with this number
abbrev OneOfThree : Table → ℕ → Rule → List ℕ → List PageToken → Place → Type 0
OneOfThree table n rule bytes tokens to =
    IsOfForm (giving (start_tag_form table.entities rule) (token.Start (record { 0 = n }) ∷ [])) bytes tokens to
    ⊎ (IsOfForm (giving (empty_tag_form table.entities rule) (token.Start (record { 0 = n }) ∷ token.End (record { 0 = n }) ∷ [])) bytes tokens to
    ⊎ IsOfForm (giving (end_tag_form rule.name) (token.End (record { 0 = n }) ∷ [])) bytes tokens to)

element_in : (table : Table) (bytes : List ℕ) (tokens : List PageToken) (to : Place) (n : ℕ) (rules : List Rule) → AreAt table.elements n rules → AreWell rules → (name : List ℕ) (r : Rule) → find_rule rules name ≡ Some r
    → ((m : ℕ) → IsElement table m r → name ≡ r.name → OneOfThree table m r bytes tokens to) → IsOfOne (elements_forms table.entities n rules) bytes tokens to
element_in table bytes tokens to n [] a w name r e f = cc
element_in table bytes tokens to n (rule ∷ rules) a w name r e f = at (bytes_eq rule.name name) refl e (λ g. element_in table bytes tokens to (suc n) rules a.2 w.2 name r g f)
  where
    put : OneOfThree table n rule bytes tokens to → IsOfOne (elements_forms table.entities n (rule ∷ rules)) bytes tokens to
    put (inl k) = inl k
    put (inr (inl k)) = inr (inl k)
    put (inr (inr k)) = inr (inr (inl k))

    same : (x y : Rule) → (let o : Option Rule = Some x in o ≡ Some y) → x ≡ y
    same x y e = cc

    at : (b : Bool) → bytes_eq rule.name name ≡ b → (if b then Some rule else find_rule rules name) ≡ Some r → (find_rule rules name ≡ Some r → IsOfOne (elements_forms table.entities (suc n) rules) bytes tokens to)
        → IsOfOne (elements_forms table.entities n (rule ∷ rules)) bytes tokens to
    at true h e g =
        let s = same rule r e in
        let m : IsElement table n rule = record { found = a.0; number = a.1; named = w.0; well = w.1 } in
        put (subst (λ (x : Rule). OneOfThree table n x bytes tokens to) (sym s) (f n (subst (IsElement table n) s m) (sym (same_bytes rule.name name h) ∙ ap (λ (x : Rule). x.name) s)))
    at false h e g = inr (inr (inr (g e)))

elements_in : (table : Table) (place : Place) (bytes : List ℕ) (tokens : List PageToken) (to : Place) → IsOfOne (elements_forms table.entities 0 table.elements) bytes tokens to → IsOfOne (early_forms place (later_forms table place)) bytes tokens to
elements_in table place bytes tokens to k = later_in table place (inr (inr (inr (inr (inr (inr (inr (inr k))))))))

fit_found : (entities : List (List ℕ)) (o : Option Rule) (tag : Tag) → fits_rule entities o tag ≡ true → (r : Rule) × (o ≡ Some r) × (attributes_fit entities tag.name r.attributes tag.attributes ≡ true)
fit_found entities None tag h = absurd (no h)
  where
    no : false ≡ true → ⊥
    no e = cc
fit_found entities (Some r) tag h = (r, refl, h)

-- its attributes fit, by the name of the rule
fitting : (table : Table) (r : Rule) (tag : Tag) → tag.name ≡ r.name → attributes_fit table.entities tag.name r.attributes tag.attributes ≡ true → Fitting table r tag
fitting table r tag h f = ap (λ (z : List ℕ). attributes_fit table.entities z r.attributes tag.attributes) (sym h) ∙ f

start_in : (table : Table) → IsWell table → (place : Place) (tag : Tag) → IsTag tag → fits_rule table.entities (find_rule table.elements tag.name) tag ≡ true
    → IsOfOne (early_forms place (later_forms table place)) (piece_bytes (start_tag tag)) (piece_tokens table (start_tag tag)) (behind 0)
start_in table w place tag is fits =
    let k = fit_found table.entities (find_rule table.elements tag.name) tag fits in
    elements_in table place (piece_bytes (start_tag tag)) (piece_tokens table (start_tag tag)) (behind 0) (element_in table (piece_bytes (start_tag tag)) (piece_tokens table (start_tag tag)) (behind 0) 0 table.elements w.at w.each tag.name k.0 k.1 (λ m e h. inl (
      (start_tags_are_spelled table.entities k.0 e.named e.well (piece_bytes (start_tag tag))).1 (start_tag tag, (tag, refl, is, h, fitting table k.0 tag h k.2), refl),
      ap (λ (m : ℕ). token.Start (record { 0 = m }) ∷ []) (sym (numbered table m k.0 e tag.name h)),
      refl,
    )))

empty_in : (table : Table) → IsWell table → (place : Place) (tag : Tag) → IsTag tag → fits_rule table.entities (find_rule table.elements tag.name) tag ≡ true
    → IsOfOne (early_forms place (later_forms table place)) (piece_bytes (empty_tag tag)) (piece_tokens table (empty_tag tag)) (behind 0)
empty_in table w place tag is fits =
    let k = fit_found table.entities (find_rule table.elements tag.name) tag fits in
    elements_in table place (piece_bytes (empty_tag tag)) (piece_tokens table (empty_tag tag)) (behind 0) (element_in table (piece_bytes (empty_tag tag)) (piece_tokens table (empty_tag tag)) (behind 0) 0 table.elements w.at w.each tag.name k.0 k.1 (λ m e h. inr (inl (
      (empty_tags_are_spelled table.entities k.0 e.named e.well (piece_bytes (empty_tag tag))).1 (empty_tag tag, (tag, refl, is, h, fitting table k.0 tag h k.2), refl),
      ap (λ (m : ℕ). token.Start (record { 0 = m }) ∷ token.End (record { 0 = m }) ∷ []) (sym (numbered table m k.0 e tag.name h)),
      refl,
    ))))

end_in : (table : Table) → IsWell table → (place : Place) (name space : List ℕ) → list_all is_blank space ≡ true → is_some_rule (find_rule table.elements name) ≡ true
    → IsOfOne (early_forms place (later_forms table place)) (piece_bytes (end_tag name space)) (piece_tokens table (end_tag name space)) (behind 0)
end_in table w place name space h some =
    let k = some_rule (find_rule table.elements name) some in
    elements_in table place (piece_bytes (end_tag name space)) (piece_tokens table (end_tag name space)) (behind 0) (element_in table (piece_bytes (end_tag name space)) (piece_tokens table (end_tag name space)) (behind 0) 0 table.elements w.at w.each name k.0 k.1 (λ m e n. inr (inr (
      (end_tags_are_spelled k.0.name e.named (piece_bytes (end_tag name space))).1 (end_tag k.0.name space, (space, refl, h), ap (λ (z : List ℕ). piece_bytes (end_tag z space)) (sym n)),
      ap (λ (m : ℕ). token.End (record { 0 = m }) ∷ []) (sym (numbered table m k.0 e name n)),
      refl,
    ))))

-- characters: white space, `]`, and others
character_in : (table : Table) (place : Place) (c : ℕ) → may_follow place (character c) ≡ true → is_plain c ≡ true
    → IsOfOne (early_forms place (later_forms table place)) (piece_bytes (leaf (character c))) (piece_tokens table (leaf (character c))) (after place (leaf (character c)))
character_in table place c f h = later_in table place (at (is_blank c) refl (c == 93) refl)
  where
    or_from : (a b : Bool) → a ≡ false → b ≡ false → (a || b) ≡ false
    or_from true b e g = e
    or_from false b e g = g

    at : (b : Bool) → is_blank c ≡ b → (x : Bool) → (c == 93) ≡ x → IsOfOne (later_forms table place) (piece_bytes (leaf (character c))) (piece_tokens table (leaf (character c))) (after place (leaf (character c)))
    at true e x g = inl (
      (blanks_are_spelled (piece_bytes (leaf (character c)))).1 (leaf (character c), (c, refl, e), refl),
      sym (ap (λ (x : Bool). sort_token (if x then blank else text) ∷ []) e),
      sym (ap (λ (x : Bool). behind (if x then min 2 (suc (brackets place)) else 0)) (blank_parts c e).1),
    )
    at false e true g = inr (inl (
      (bracket_is_spelled (piece_bytes (leaf (character c)))).1 (leaf (character c), ap (λ (z : ℕ). leaf (character z)) (eqb-true c 93 g), refl),
      sym (ap (λ (x : Bool). sort_token (if x then blank else text) ∷ []) e),
      sym (ap (λ (x : Bool). behind (if x then min 2 (suc (brackets place)) else 0)) g),
    ))
    at false e false g = inr (inr (inl (
      (text_is_spelled place (piece_bytes (leaf (character c)))).1 (leaf (character c), (c, refl, h, or_from (c == 93) (is_blank c) g e, f), refl),
      sym (ap (λ (x : Bool). sort_token (if x then blank else text) ∷ []) e),
      sym (ap (λ (x : Bool). behind (if x then min 2 (suc (brackets place)) else 0)) g),
    )))

mark_in : (table : Table) (place : Place) → place ≡ at_beginning → IsOfOne (early_forms place (later_forms table place)) (piece_bytes mark) [] behind_mark
mark_in table place e =
    subst (λ (z : Place). IsOfOne (early_forms z (later_forms table z)) (piece_bytes mark) [] behind_mark) (sym e) (inl ((mark_is_spelled (piece_bytes mark)).1 (mark, refl, refl), refl, refl))

piece_in : (table : Table) → IsWell table → (place : Place) (p : Piece) → IsLawful table place p → IsOfOne (early_forms place (later_forms table place)) (piece_bytes p) (piece_tokens table p) (after place p)
piece_in table w place mark l = mark_in table place l.is
piece_in table w place (declaration d) l = declaration_in table place l.is.0 ((declarations_are_spelled (piece_bytes (declaration d))).1 (declaration d, (d, refl, l.is.1), refl))
piece_in table w place (doctype d) l =
    later_in table place (inr (inr (inr (inr (inr (inr (inr (inl ((doctypes_are_spelled table.doctype (piece_bytes (doctype d))).1 (doctype d, (d, refl, l.is, l.allowed), refl), refl, refl)))))))))
piece_in table w place (start_tag tag) l = start_in table w place tag l.is l.allowed
piece_in table w place (empty_tag tag) l = empty_in table w place tag l.is l.allowed
piece_in table w place (end_tag name space) l = end_in table w place name space l.is.1 l.allowed
piece_in table w place (leaf (character c)) l = character_in table place c l.is.0 l.is.1
piece_in table w place (leaf (reference r)) l =
    later_in table place (inr (inr (inr (inl ((references_are_spelled table.entities (piece_bytes (leaf (reference r)))).1 (leaf (reference r), (r, refl, l.is.1, l.allowed), refl), refl, refl)))))
piece_in table w place (leaf (section cs)) l =
    later_in table place (inr (inr (inr (inr (inl ((sections_are_spelled (piece_bytes (leaf (section cs)))).1 (leaf (section cs), (cs, refl, l.is.1), refl), refl, refl))))))
piece_in table w place (leaf (comment cs)) l =
    later_in table place (inr (inr (inr (inr (inr (inl ((comments_are_spelled (piece_bytes (leaf (comment cs)))).1 (leaf (comment cs), (cs, refl, l.is.1), refl), refl, refl)))))))
piece_in table w place (leaf (instruction target cs)) l =
    later_in table place (inr (inr (inr (inr (inr (inr (inl ((instructions_are_spelled (piece_bytes (leaf (instruction target cs)))).1 (leaf (instruction target cs), (target, cs, refl, l.is.1), refl), refl, refl))))))))

-- A lawful definition.

absent_name : (name : List ℕ) (rules : List Rule) → list_any (bytes_eq name) (map (λ (r : Rule). r.name) rules) ≡ false → Absent name rules
absent_name name [] h = tt
absent_name name (r ∷ rules) h = let p = or_parts (bytes_eq name r.name) (list_any (bytes_eq name) (map (λ (r : Rule). r.name) rules)) h in (p.0, absent_name name rules p.1)

distinct_rules : (rules : List Rule) → is_distinct (map (λ (r : Rule). r.name) rules) ≡ true → Distinct rules
distinct_rules [] h = tt
distinct_rules (r ∷ rules) h =
    let names = map (λ (r : Rule). r.name) rules in
    let p = and_parts (not (list_any (bytes_eq r.name) names)) (is_distinct names) h in
    (absent_name r.name rules (not-true (list_any (bytes_eq r.name) names) p.0), distinct_rules rules p.1)

well_rules : (count : ℕ) (rules : List Rule) → list_all is_name (map (λ (r : Rule). r.name) rules) ≡ true → list_all (is_lawful_rule count) rules ≡ true → AreWell rules
well_rules count [] h g = tt
well_rules count (r ∷ rules) h g =
    let p = and_parts (is_name r.name) (list_all is_name (map (λ (r : Rule). r.name) rules)) h in
    let q = and_parts (is_lawful_rule count r) (list_all (is_lawful_rule count) rules) g in
    (p.0, (and_parts (is_lawful_holding count r.holding) (are_lawful_attributes r.attributes) q.0).1, well_rules count rules p.1 q.1)

is_well : (table : Table) → is_lawful table.elements table.entities ≡ true → IsWell table
unfolding is_lawful
is_well table h =
    let rules = table.elements in
    let names = map (λ (r : Rule). r.name) rules in
    let a = and_parts (nat_le (length rules) element_limit && are_names names && list_all (is_lawful_rule (length rules)) rules) (are_names table.entities) h in
    let b = and_parts (nat_le (length rules) element_limit && are_names names) (list_all (is_lawful_rule (length rules)) rules) a.0 in
    let c = and_parts (nat_le (length rules) element_limit) (are_names names) b.0 in
    let d = and_parts (is_distinct names) (list_all is_name names) c.1 in
    record { at = all_at rules (distinct_rules rules d.0); each = well_rules (length rules) rules d.1 b.1 }

pub pieces_are_spelled : PiecesAreSpelled
unfolding forms
pieces_are_spelled table h place bytes tokens to = (λ k. let g = forms_give table (is_well table h) place bytes tokens to k in (g.piece, g.lawful, g.spelled, g.gives, g.leads), λ q. back q.0 q.1 q.2 q.3 q.4)
  where
    back : (p : Piece) → IsLawful table place p → piece_bytes p ≡ bytes → piece_tokens table p ≡ tokens → after place p ≡ to → IsOfOne (early_forms place (later_forms table place)) bytes tokens to
    back p l e t a =
        subst (λ (z : Place). IsOfOne (early_forms place (later_forms table place)) bytes tokens z) a
        (subst (λ (z : List PageToken). IsOfOne (early_forms place (later_forms table place)) bytes z (after place p)) t
        (subst (λ (z : List ℕ). IsOfOne (early_forms place (later_forms table place)) z (piece_tokens table p) (after place p)) e (piece_in table (is_well table h) place p l)))
