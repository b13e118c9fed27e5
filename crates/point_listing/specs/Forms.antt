-- What a form in memory is: one of least_sets.
use Rattle.std.specs.Prelude.{List, map}
use Rattle.least_sets.specs.Forms.{Form, text_form, same_form, join_form, before_form, request_form, integer_form, apply_form, yes_form, where_form}
use Rattle.loose_sets.specs.declared.name.SetName.{SetName}
use Rattle.point_listing.specs.declared.form.NamedForm.{NamedForm}
use Rattle.point_listing.specs.declared.form.NamedForm.TheVariants.{Text, Same, Join, Before, Request, Integer, Apply, Yes, Where}

-- the form that a form in memory is
abbrev pub form_seen : NamedForm → Form SetName
form_seen (Text w) = text_form w
form_seen (Same a) = same_form a
form_seen (Join a b) = join_form a b
form_seen (Before w a) = before_form w a
form_seen Request = request_form
form_seen Integer = integer_form
form_seen (Apply op a) = apply_form op a
form_seen Yes = yes_form
form_seen (Where w a) = where_form w a

-- the forms that forms in memory are, in their order
abbrev pub forms_seen : List NamedForm → List (Form SetName)
forms_seen forms = map form_seen forms
