-- The expressions of the loose forms, in the order in which they are kept.
use Rattle.std.specs.Prelude.{List, [], ◌∷◌, ◌++◌}
use Rattle.dtd_model.specs.Table.{Table}
use Rattle.derivatives.specs.Expressions.{Expr}
use Rattle.form_maker.specs.Kept.{simple_forms}
use Rattle.broken_forms.specs.LooseForms.{names_of, loose_reference_form, loose_tag_form, end_form}

-- those of references and of tags, by a definition of documents
abbrev pub tag_forms : Table → List Expr
tag_forms table = loose_reference_form table.entities ∷ loose_tag_form (names_of table) ∷ end_form (names_of table) ∷ []

-- behind those of lawful pieces that no element changes
abbrev pub kept_forms : Table → List Expr
kept_forms table = simple_forms table.doctype ++ tag_forms table
