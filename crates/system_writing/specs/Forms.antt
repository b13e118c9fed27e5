-- What a row in memory is: a form of least_sets, over nonterminals; the names in a form, and the bytes in it.
use Rattle.std.specs.Prelude.{ℕ, List, [], ◌∷◌, length}
use Rattle.least_sets.specs.Forms.{Form, text_form, same_form, join_form, before_form, request_form, integer_form, apply_form, yes_form, where_form}
use Rattle.system_writing.specs.declared.rows.RowForm.{RowForm}
use Rattle.system_writing.specs.declared.rows.RowForm.TheVariants.{Text, Same, Join, Before, Request, Integer, Apply, Yes, Where}

-- the form that a form in memory is
abbrev pub form_of : RowForm → Form ℕ
form_of (Text w) = text_form w
form_of (Same a) = same_form a
form_of (Join a b) = join_form a b
form_of (Before w a) = before_form w a
form_of Request = request_form
form_of Integer = integer_form
form_of (Apply op a) = apply_form op a
form_of Yes = yes_form
form_of (Where w a) = where_form w a

-- all names in a form, also of a set that says yes or no
abbrev pub all_names : {N : Type 0} → Form N → List N
all_names (text_form w) = []
all_names (same_form a) = a ∷ []
all_names (join_form a b) = a ∷ b ∷ []
all_names (before_form w a) = a ∷ []
all_names request_form = []
all_names integer_form = []
all_names (apply_form op a) = a ∷ []
all_names yes_form = []
all_names (where_form w a) = a ∷ []

-- how many bytes the text of a form has; 0 where it has none
abbrev pub text_bytes : {N : Type 0} → Form N → ℕ
text_bytes (text_form w) = length w
text_bytes (same_form a) = 0
text_bytes (join_form a b) = 0
text_bytes (before_form w a) = length w
text_bytes request_form = 0
text_bytes integer_form = 0
text_bytes (apply_form op a) = 0
text_bytes yes_form = 0
text_bytes (where_form w a) = length w
