-- All forms of the pieces that may stand at a place, by a definition of documents, each with what its pieces give.
use Rattle.std.specs.Prelude.{◌≡◌, ◌⊎◌, ℕ, suc, List, [], ◌∷◌, min}
use Rattle.text_base.specs.declared.page_token.PageToken.{PageToken}
use Rattle.text_base.specs.declared.page_token.PageToken.TheVariants as token
use Rattle.dtd_model.specs.Table.{Rule, Table}
use Rattle.derivatives.specs.Expressions.{Expr, Matches}
use Rattle.page_model.specs.Places.{Place, at_beginning, behind_mark, behind, brackets}
use Rattle.page_forms.specs.Declarations.{declaration_form}
use Rattle.page_forms.specs.Doctypes.{doctype_form}
use Rattle.page_forms.specs.References.{reference_form}
use Rattle.page_forms.specs.Remarks.{comment_form, section_form, instruction_form}
use Rattle.page_forms.specs.Simple.{blank_form, bracket_form, text_form, mark_form, end_tag_form}
use Rattle.page_forms.specs.Tags.{start_tag_form, empty_tag_form}

-- a form, the tokens of its pieces, and the place behind them
pub record Form : Type 0 where
  pub expression : Expr
  pub tokens : List PageToken
  pub leads_to : Place

-- a form behind whose pieces no `]` counts
abbrev pub giving : Expr → List PageToken → Form
giving e tokens = record { expression = e; tokens = tokens; leads_to = behind 0 }

-- the tags of the element with this number: its start, its start and end in one, and its end
abbrev pub element_forms : List (List ℕ) → ℕ → Rule → List Form → List Form
element_forms entities n rule others =
    giving (start_tag_form entities rule) (token.Start (record { 0 = n }) ∷ [])
    ∷ giving (empty_tag_form entities rule) (token.Start (record { 0 = n }) ∷ token.End (record { 0 = n }) ∷ [])
    ∷ giving (end_tag_form rule.name) (token.End (record { 0 = n }) ∷ []) ∷ others

-- the same of elements in a row
abbrev pub elements_forms : List (List ℕ) → ℕ → List Rule → List Form
elements_forms entities n [] = []
elements_forms entities n (rule ∷ rules) = element_forms entities n rule (elements_forms entities (suc n) rules)

-- the byte order mark and the XML declaration, where they may stand
abbrev pub early_forms : Place → List Form → List Form
early_forms at_beginning others = record { expression = mark_form; tokens = []; leads_to = behind_mark } ∷ giving declaration_form [] ∷ others
early_forms behind_mark others = giving declaration_form [] ∷ others
early_forms (behind k) others = others

-- what may stand in elements besides elements
abbrev pub leaf_forms : List (List ℕ) → Place → List Form → List Form
leaf_forms entities place others =
    giving blank_form (token.Blank ∷ [])
    ∷ record { expression = bracket_form; tokens = token.Text ∷ []; leads_to = behind (min 2 (suc (brackets place))) }
    ∷ giving (text_form place) (token.Text ∷ []) ∷ giving (reference_form entities) (token.Text ∷ []) ∷ giving section_form (token.Text ∷ [])
    ∷ giving comment_form (token.Misc ∷ []) ∷ giving instruction_form (token.Misc ∷ []) ∷ others

-- all of them
unfoldable pub forms : Table → Place → List Form
forms table place =
    early_forms place
    (leaf_forms table.entities place (giving (doctype_form table.doctype) (token.Doctype ∷ []) ∷ elements_forms table.entities 0 table.elements))

-- the bytes are a text of the form, which gives these tokens and leads to this place
abbrev pub IsOfForm : Form → List ℕ → List PageToken → Place → Type 0
IsOfForm f bytes tokens to = Matches f.expression bytes × (f.tokens ≡ tokens) × (f.leads_to ≡ to)

-- and so they are of one of the forms
abbrev pub IsOfOne : List Form → List ℕ → List PageToken → Place → Type 0
IsOfOne [] bytes tokens to = ⊥
IsOfOne (f ∷ fs) bytes tokens to = IsOfForm f bytes tokens to ⊎ IsOfOne fs bytes tokens to
