-- The loose pieces of a page as expressions over bytes: the lawful ones, but that less is asked of tags and of numbers (`Broken` of
-- page_model; XML 1.0, 2.3, 3.1 and 4.1).
use Rattle.std.specs.Prelude.{ℕ, suc, Bool, List, [], ◌∷◌, map, min, codes}
use Rattle.std.specs.Char.{is_ascii_digit, is_ascii_hexdigit}
use Rattle.xml_text.specs.Names.{is_name}
use Rattle.dtd_model.specs.Table.{Rule, Table}
use Rattle.derivatives.specs.Expressions.{Expr, star}
use Rattle.derivatives.specs.Derivatives.{chain_of, either_of}
use Rattle.page_model.specs.Places.{Place, behind, brackets}
use Rattle.page_forms.specs.Doctypes.{doctype_form}
use Rattle.page_forms.specs.Forms.{Form, giving, early_forms}
use Rattle.page_forms.specs.Quotes.{quoted}
use Rattle.page_forms.specs.References.{entity_form}
use Rattle.page_forms.specs.Remarks.{comment_form, section_form, instruction_form}
use Rattle.page_forms.specs.Simple.{blank_form, bracket_form, text_form}
use Rattle.page_forms.specs.Words.{word, one_of_words, ascii, blanks, gap, name_form}
use Rattle.coarse_forms.specs.CoarseForms.{value_bytes}

-- the names of the declared elements
abbrev pub names_of : Table → List (List ℕ)
names_of table = map (λ (rule : Rule). rule.name) table.elements

-- white space, a name, `=` with white space round it, and in either quote any bytes but `<` and the quote
abbrev pub loose_attribute : Expr
loose_attribute = chain_of gap (chain_of name_form (chain_of blanks (chain_of (word (codes "=")) (chain_of blanks (quoted value_bytes)))))

-- what stands behind the name of a tag: attributes, maybe white space, and `>` or `/>`
abbrev pub behind_name : Expr
behind_name = chain_of (star loose_attribute) (chain_of blanks (either_of (word (codes ">")) (word (codes "/>"))))

-- `<`, one of these names, and the rest of a start tag or of the tag of an empty element
unfoldable pub loose_tag_form : List (List ℕ) → Expr
loose_tag_form names = chain_of (word (codes "<")) (chain_of (one_of_words is_name names) behind_name)

-- `</`, one of these names, maybe white space, `>`
unfoldable pub end_form : List (List ℕ) → Expr
end_form names = chain_of (word (codes "</")) (chain_of (one_of_words is_name names) (chain_of blanks (word (codes ">"))))

-- one digit or more
abbrev pub some_digits : (ℕ → Bool) → Expr
some_digits is_digit = chain_of (ascii is_digit) (star (ascii is_digit))

-- `#` and any digits, or `#x` and any hexadecimal ones
abbrev pub loose_number : Expr
loose_number =
    chain_of (word (codes "#")) (either_of (some_digits is_ascii_digit) (chain_of (word (codes "x")) (some_digits is_ascii_hexdigit)))

-- `&`, such a number or the name of an entity that is known, and `;`
unfoldable pub loose_reference_form : List (List ℕ) → Expr
loose_reference_form entities =
    chain_of (word (codes "&")) (chain_of (either_of loose_number (entity_form entities)) (word (codes ";")))

-- all forms at a place; no piece has tokens
unfoldable pub loose_forms : Table → Place → List Form
loose_forms table place =
    early_forms place
    (giving blank_form [] ∷ record { expression = bracket_form; tokens = []; leads_to = behind (min 2 (suc (brackets place))) }
    ∷ giving (text_form place) [] ∷ giving (loose_reference_form table.entities) [] ∷ giving section_form [] ∷ giving comment_form []
    ∷ giving instruction_form [] ∷ giving (doctype_form table.doctype) [] ∷ giving (loose_tag_form (names_of table)) []
    ∷ giving (end_form (names_of table)) [] ∷ [])
