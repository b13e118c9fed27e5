-- The forms of the value that a source gives, for each aspect of it.
use Rattle.std.specs.Prelude.{ℕ, Bool, true, false, List, [], ◌∷◌, codes, slice_get}
use Rattle.plain_values.specs.Plain.{PlainKey}
use Rattle.plain_values.specs.Text.{text_of}
use Rattle.flow_code.specs.Points.{PlainSource, literal_source, copy_source, super_source, member_source, array_source, put_source, concat_source, repeat_source, implode_source, explode_source, apply_source, number_source, truth_source}
use Rattle.least_sets.specs.Forms.{text_form, same_form, join_form, request_form, integer_form, yes_form}
use Rattle.loose_sets.specs.Keys.{is_integer_key}
use Rattle.loose_sets.specs.declared.name.SetVersion.TheVariants as version
use Rattle.loose_sets.specs.declared.name.Half.{Half}
use Rattle.loose_sets.specs.declared.name.Half.TheVariants.{Text, Array}
use Rattle.loose_sets.specs.declared.name.Aspect.{Aspect}
use Rattle.loose_sets.specs.declared.name.Aspect.TheVariants.{Own, Member, Others, Keys}
use Rattle.loose_sets.specs.declared.name.SetName.{SetName}
use Rattle.loose_sets.specs.declared.name.SetName.TheVariants as name
use Rattle.loose_sets.specs.Uses.{At, used, where_so, of_told}
use Rattle.loose_sets.specs.Arrays.{Forms, array_own, member_forms, array_forms, put_forms}

-- the text of the value itself
unfoldable pub is_own_text : Aspect → Bool
is_own_text (Own Text) = true
is_own_text (Own Array) = false
is_own_text (Member i h) = false
is_own_text (Others h) = false
is_own_text Keys = false

-- of a value that is no array, its texts alone
abbrev pub texts_alone : Forms → Aspect → Forms
texts_alone forms b = where_so (is_own_text b) forms

-- a member of an array of the request: a text of the request, or an array
unfoldable pub request_own : Half → Forms
request_own Text = request_form ∷ []
request_own Array = yes_form ∷ []

-- a variable of the request: an array whose keys are texts of the request and whose members are such texts or arrays
unfoldable pub super_forms : Aspect → Forms
unfolding array_own request_own
super_forms (Own h) = array_own h
super_forms (Member i h) = request_own h
super_forms (Others h) = request_own h
super_forms Keys = request_form ∷ []

-- the set of the texts that a point gives to its slot
abbrev pub given_at : ℕ → SetName
given_at p = name.Value (Own Text) (version.Point p)

-- any number of copies
abbrev pub copies : At → ℕ → ℕ → Forms
copies at p from = text_form [] ∷ join_form (name.Value (Own Text) (at p from)) (given_at p) ∷ []

-- the members of an array with a separator between them; the empty text, where the array is empty
abbrev pub pieces : ℕ → Forms
pieces p = text_form [] ∷ join_form (name.Piece p) (name.FurtherPieces p) ∷ []

-- the outputs of an operation
unfoldable pub output_own : ℕ → Half → Forms
output_own p Text = same_form (name.Output p) ∷ []
output_own p Array = []

-- an array of the outputs of an operation
unfoldable pub explode_forms : List PlainKey → ℕ → Aspect → Forms
unfolding array_own where_so of_told output_own
explode_forms told p (Own h) = array_own h
explode_forms told p (Member i h) = where_so (of_told is_integer_key (slice_get told i)) (output_own p h)
explode_forms told p (Others h) = output_own p h
explode_forms told p Keys = integer_form ∷ []

-- the value that a source gives at a point, by an aspect of it
unfoldable pub source_forms : List PlainKey → At → ℕ → PlainSource → Aspect → Forms
unfolding where_so is_own_text super_forms member_forms array_forms put_forms explode_forms
source_forms told at p (literal_source v) b = texts_alone (text_form (text_of v) ∷ []) b
source_forms told at p (copy_source x) b = used at p b x ∷ []
source_forms told at p (super_source s) b = super_forms b
source_forms told at p (member_source x k) b = member_forms told at p x k b
source_forms told at p (array_source items) b = array_forms told at p items b
source_forms told at p (put_source x path v) b = put_forms told at p x path v b
source_forms told at p (concat_source xs) b = texts_alone (same_form (name.Joined p 0) ∷ []) b
source_forms told at p (repeat_source from f args) b = texts_alone (copies at p from) b
source_forms told at p (implode_source sep from f args) b = texts_alone (pieces p) b
source_forms told at p (explode_source operation from f args) b = explode_forms told p b
source_forms told at p (apply_source operation from f args) b = texts_alone (same_form (name.Output p) ∷ []) b
source_forms told at p (number_source work args) b = texts_alone (integer_form ∷ []) b
source_forms told at p (truth_source work args) b = texts_alone (text_form (codes "1") ∷ text_form [] ∷ []) b
