-- The expressions that are kept, in their order.
use Rattle.std.specs.Prelude.{◌≡◌, ℕ, List, [], ◌∷◌, ◌++◌, codes}
use Rattle.dtd_model.specs.Table.{Declared, Rule, Table, Kind, cdata, id, idrefs, nmtoken, nmtokens}
use Rattle.dtd_model.specs.declared.dtd.DoctypeRule.{DoctypeRule}
use Rattle.derivatives.specs.Expressions.{Expr, range}
use Rattle.derivatives.specs.Derivatives.{chain_of, when}
use Rattle.page_model.specs.Places.{at_beginning, behind_mark, behind}
use Rattle.page_forms.specs.Declarations.{declaration_form}
use Rattle.page_forms.specs.Doctypes.{doctype_form}
use Rattle.page_forms.specs.Quotes.{quoted}
use Rattle.page_forms.specs.References.{reference_form}
use Rattle.page_forms.specs.Remarks.{comment_form, section_form, instruction_form}
use Rattle.page_forms.specs.Simple.{blank_form, bracket_form, text_form, mark_form, end_tag_form}
use Rattle.page_forms.specs.Tags.{kind_form, is_fixed_value, value_form, start_tag_form, empty_tag_form}
use Rattle.page_forms.specs.Words.{word, blanks}
use Rattle.form_maker.specs.Making.{Making}

-- more is kept
abbrev pub keeping : List Expr → Making → Making
keeping es m = record { stack = m.stack; kept = m.kept ++ es }

-- what stands between such quotes, with them
abbrev pub in_quotes : ℕ → Expr → Expr
in_quotes q e = chain_of (range q q) (chain_of e (range q q))

-- `=` with white space round it, and what stands behind
abbrev pub behind_equals : Expr → Expr
behind_equals e = chain_of blanks (chain_of (word (codes "=")) (chain_of blanks e))

-- what stands behind the name of an attribute, by its type
abbrev pub value_behind : List (List ℕ) → Kind → Expr
value_behind entities kind = behind_equals (quoted (kind_form entities kind))

-- the same, where the quotes make no difference
abbrev pub words_behind : Expr → Expr
words_behind e = behind_equals (quoted (λ q. e))

-- any text of a value between such quotes
abbrev pub text_in_quotes : List (List ℕ) → ℕ → Expr
text_in_quotes entities q = in_quotes q (kind_form entities cdata q)

-- a fixed value between such quotes; nothing, where none can be
abbrev pub fixed_form : List (List ℕ) → Kind → List ℕ → ℕ → Expr
fixed_form entities kind wanted q = in_quotes q (when (is_fixed_value entities kind q wanted) (word wanted))

-- what stands behind the name of an attribute, as it is declared
abbrev pub declared_behind : List (List ℕ) → Declared → Expr
declared_behind entities d = behind_equals (quoted (value_form entities d))

-- what several attributes have, and references: kept first
unfoldable pub shared : List (List ℕ) → List Expr
shared entities =
    reference_form entities ∷ value_behind entities cdata ∷ value_behind entities id ∷ value_behind entities idrefs ∷ value_behind entities nmtoken
    ∷ value_behind entities nmtokens ∷ []

-- they were kept first
abbrev pub HasShared : List (List ℕ) → Making → Type 0
HasShared entities m = (more : List Expr) × (m.kept ≡ shared entities ++ more)

-- text, by where it stands
abbrev pub text_forms : List Expr
text_forms = text_form at_beginning ∷ text_form behind_mark ∷ text_form (behind 0) ∷ text_form (behind 2) ∷ []

-- pieces that no element changes
unfoldable pub simple_forms : DoctypeRule → List Expr
simple_forms rule =
    mark_form ∷ declaration_form ∷ blank_form ∷ bracket_form ∷ section_form ∷ comment_form ∷ instruction_form ∷ doctype_form rule ∷ text_forms

-- the tags of an element, before others
abbrev pub element_forms : List (List ℕ) → Rule → List Expr → List Expr
element_forms entities rule others = start_tag_form entities rule ∷ empty_tag_form entities rule ∷ end_tag_form rule.name ∷ others

-- and of elements in a row
abbrev pub tag_forms : List (List ℕ) → List Rule → List Expr
tag_forms entities [] = []
tag_forms entities (rule ∷ rules) = element_forms entities rule (tag_forms entities rules)

-- all that is kept of the pages of a definition
abbrev pub all_forms : Table → List Expr
all_forms table = shared table.entities ++ (simple_forms table.doctype ++ tag_forms table.entities table.elements)
