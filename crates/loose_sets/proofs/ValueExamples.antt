-- Cells of literals, copies, requests and members, each with a form that it does not have.
use Rattle.std.proofs.Common.{refl, pos, [], ◌∷◌}
use Rattle.std.specs.Prelude.{codes}
use Rattle.std.specs.Fmt.{digits}
use Rattle.plain_values.specs.Plain.{int, text}
use Rattle.php_syntax.specs.declared.tree.SuperName.TheVariants.{Get}
use Rattle.flow_code.specs.Points.{text_ref, literal_source, copy_source, super_source, member_source, begin_point}
use Rattle.least_sets.specs.Forms.{text_form, request_form, integer_form, yes_form}
use Rattle.loose_sets.specs.Keys.{may_be, may_be_other, is_exactly}
use Rattle.loose_sets.specs.Uses.{member_name}
use Rattle.loose_sets.specs.Sources.{source_forms}
use Rattle.loose_sets.specs.Points.{value_forms}
use Rattle.loose_sets.specs.declared.name.Half.TheVariants.{Text, Array}
use Rattle.loose_sets.specs.declared.name.Aspect.TheVariants.{Own, Member, Others, Keys}
use Rattle.loose_sets.proofs.ExampleWords.{Lacks, Cell, given, set_by, of_slot, all_of, text_at, array_at, word, five, six, held}

-- a literal has its own text form alone
literal : Cell (given (literal_source (text (codes "a"))) (Own Text)) (text_form (codes "a") ∷ []) (text_form [])
unfolding source_forms Lacks
literal = (refl, (λ e. cc, tt))

literal_integer : Cell (given (literal_source (int (pos 5))) (Own Text)) (text_form (codes "5") ∷ []) integer_form
unfolding source_forms digits Lacks
literal_integer = (refl, (λ e. cc, tt))

literal_is_no_array : Cell (given (literal_source (text (codes "a"))) (Own Array)) [] yes_form
unfolding source_forms Lacks
literal_is_no_array = (refl, tt)

literal_has_no_members : Cell (given (literal_source (text (codes "a"))) (Member 0 Text)) [] (text_form (codes "a"))
unfolding source_forms Lacks
literal_has_no_members = (refl, tt)

-- a copy has each aspect of the value
copy_text : Cell (given (copy_source 2) (Own Text)) (text_at 2 ∷ []) (text_form [])
unfolding source_forms Lacks
copy_text = (refl, (λ e. cc, tt))

copy_array : Cell (given (copy_source 2) (Own Array)) (array_at 2 ∷ []) yes_form
unfolding source_forms Lacks
copy_array = (refl, (λ e. cc, tt))

copy_member : Cell (given (copy_source 2) (Member 1 Text)) (of_slot 2 (Member 1 Text) ∷ []) (of_slot 2 (Member 0 Text))
unfolding source_forms Lacks
copy_member = (refl, (λ e. cc, tt))

copy_member_array : Cell (given (copy_source 2) (Member 1 Array)) (of_slot 2 (Member 1 Array) ∷ []) (of_slot 2 (Member 1 Text))
unfolding source_forms Lacks
copy_member_array = (refl, (λ e. cc, tt))

copy_others : Cell (given (copy_source 2) (Others Text)) (of_slot 2 (Others Text) ∷ []) (all_of 2 Text)
unfolding source_forms Lacks
copy_others = (refl, (λ e. cc, tt))

copy_keys : Cell (given (copy_source 2) Keys) (of_slot 2 Keys ∷ []) integer_form
unfolding source_forms Lacks
copy_keys = (refl, (λ e. cc, tt))

-- and so has the value that a walk begins with
begun_text : Cell (set_by (begin_point 1 2 10) (Own Text)) (text_at 2 ∷ []) (text_form [])
unfolding value_forms Lacks
begun_text = (refl, (λ e. cc, tt))

begun_array : Cell (set_by (begin_point 1 2 10) (Own Array)) (array_at 2 ∷ []) yes_form
unfolding value_forms Lacks
begun_array = (refl, (λ e. cc, tt))

begun_member : Cell (set_by (begin_point 1 2 10) (Member 1 Text)) (of_slot 2 (Member 1 Text) ∷ []) (of_slot 2 (Member 0 Text))
unfolding value_forms Lacks
begun_member = (refl, (λ e. cc, tt))

begun_member_array : Cell (set_by (begin_point 1 2 10) (Member 1 Array)) (of_slot 2 (Member 1 Array) ∷ []) (of_slot 2 (Member 1 Text))
unfolding value_forms Lacks
begun_member_array = (refl, (λ e. cc, tt))

begun_others : Cell (set_by (begin_point 1 2 10) (Others Text)) (of_slot 2 (Others Text) ∷ []) (all_of 2 Text)
unfolding value_forms Lacks
begun_others = (refl, (λ e. cc, tt))

begun_keys : Cell (set_by (begin_point 1 2 10) Keys) (of_slot 2 Keys ∷ []) integer_form
unfolding value_forms Lacks
begun_keys = (refl, (λ e. cc, tt))

-- a variable of the request is an array, of texts of the request and of arrays, and its keys are texts of the request
request_is_array : Cell (given (super_source Get) (Own Array)) (yes_form ∷ []) request_form
unfolding source_forms Lacks
request_is_array = (refl, (λ e. cc, tt))

request_is_no_text : Cell (given (super_source Get) (Own Text)) [] request_form
unfolding source_forms Lacks
request_is_no_text = (refl, tt)

request_member : Cell (given (super_source Get) (Member 0 Text)) (request_form ∷ []) (text_form [])
unfolding source_forms Lacks
request_member = (refl, (λ e. cc, tt))

request_member_array : Cell (given (super_source Get) (Member 0 Array)) (yes_form ∷ []) request_form
unfolding source_forms Lacks
request_member_array = (refl, (λ e. cc, tt))

request_others : Cell (given (super_source Get) (Others Text)) (request_form ∷ []) integer_form
unfolding source_forms Lacks
request_others = (refl, (λ e. cc, tt))

request_others_array : Cell (given (super_source Get) (Others Array)) (yes_form ∷ []) request_form
unfolding source_forms Lacks
request_others_array = (refl, (λ e. cc, tt))

request_keys : Cell (given (super_source Get) Keys) (request_form ∷ []) integer_form
unfolding source_forms Lacks
request_keys = (refl, (λ e. cc, tt))

-- `$x['t']` is the member under this key, and may be null; `$x['5']` is the member under 5
member_told : Cell (given (member_source 2 word) (Own Text)) (of_slot 2 (Member 0 Text) ∷ text_form [] ∷ []) (of_slot 2 (Member 1 Text))
unfolding source_forms member_name may_be may_be_other is_exactly digits Lacks
member_told = (refl, (λ e. cc, (λ e. cc, tt)))

member_told_number : Cell (given (member_source 2 (text_ref (codes "5"))) (Own Text)) (of_slot 2 (Member 1 Text) ∷ text_form [] ∷ [])
    (of_slot 2 (Others Text))
unfolding source_forms member_name may_be may_be_other is_exactly digits Lacks
member_told_number = (refl, (λ e. cc, (λ e. cc, tt)))

-- `$x[6]` is one of the others, and `$x[$y]` may be any
member_other : Cell (given (member_source 2 six) (Own Text)) (of_slot 2 (Others Text) ∷ text_form [] ∷ []) (of_slot 2 (Member 1 Text))
unfolding source_forms member_name may_be may_be_other is_exactly digits Lacks
member_other = (refl, (λ e. cc, (λ e. cc, tt)))

member_any : Cell (given (member_source 2 held) (Own Text)) (all_of 2 Text ∷ text_form [] ∷ []) (text_at 2)
unfolding source_forms member_name may_be may_be_other is_exactly digits Lacks
member_any = (refl, (λ e. cc, (λ e. cc, tt)))

-- null is no array
member_array : Cell (given (member_source 2 word) (Own Array)) (of_slot 2 (Member 0 Array) ∷ []) yes_form
unfolding source_forms member_name may_be may_be_other is_exactly digits Lacks
member_array = (refl, (λ e. cc, tt))

member_other_array : Cell (given (member_source 2 six) (Own Array)) (of_slot 2 (Others Array) ∷ []) (all_of 2 Array)
unfolding source_forms member_name may_be may_be_other is_exactly digits Lacks
member_other_array = (refl, (λ e. cc, tt))

-- its own members and keys are those that stand deep
member_member : Cell (given (member_source 2 five) (Member 0 Text)) (of_slot 2 (Others Text) ∷ []) (of_slot 2 (Member 0 Text))
unfolding source_forms Lacks
member_member = (refl, (λ e. cc, tt))

member_member_array : Cell (given (member_source 2 five) (Member 1 Array)) (of_slot 2 (Others Array) ∷ []) (of_slot 2 (Member 1 Array))
unfolding source_forms Lacks
member_member_array = (refl, (λ e. cc, tt))

member_others : Cell (given (member_source 2 five) (Others Text)) (of_slot 2 (Others Text) ∷ []) (all_of 2 Text)
unfolding source_forms Lacks
member_others = (refl, (λ e. cc, tt))

member_keys : Cell (given (member_source 2 five) Keys) (of_slot 2 Keys ∷ []) (text_form (codes "5"))
unfolding source_forms Lacks
member_keys = (refl, (λ e. cc, tt))
