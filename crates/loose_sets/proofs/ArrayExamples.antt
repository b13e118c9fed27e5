-- Cells of array literals, of writes under one key and under more, and of the pieces of a text, each with a form that it does not have.
use Rattle.std.proofs.Common.{refl, [], ◌∷◌, Some, None}
use Rattle.std.specs.Prelude.{codes}
use Rattle.std.specs.Fmt.{digits}
use Rattle.flow_code.specs.Points.{PlainSource, array_source, explode_source}
use Rattle.least_sets.specs.Forms.{text_form, same_form, integer_form, yes_form}
use Rattle.loose_sets.specs.Keys.{may_be, may_be_other, is_exactly}
use Rattle.loose_sets.specs.Uses.{member_name}
use Rattle.loose_sets.specs.Sources.{source_forms}
use Rattle.loose_sets.specs.declared.name.Half.TheVariants.{Text, Array}
use Rattle.loose_sets.specs.declared.name.Aspect.TheVariants.{Own, Member, Others, Keys}
use Rattle.loose_sets.specs.declared.name.SetName.TheVariants.{Input, Output}
use Rattle.loose_sets.proofs.ExampleWords.{Lacks, Cell, given, of_slot, all_of, text_at, array_at, word, five, six, held, put_at}
use Rattle.builtin_meaning.specs.declared.builtin.Builtin.TheVariants as builtin
use Rattle.op_system.specs.declared.op.Op.TheVariants as op

-- `array('t' => $a, $b)`: the key that comes next may be 5, and none of those told apart, but not `'t'`
abbrev two_items : PlainSource
two_items = array_source ((Some word, 2) ∷ (None, 3) ∷ [])

-- `array($k => $a)`
abbrev any_item : PlainSource
any_item = array_source ((Some held, 2) ∷ [])

items_text : Cell (given two_items (Own Text)) [] (text_form [])
unfolding source_forms Lacks
items_text = (refl, tt)

items_array : Cell (given two_items (Own Array)) (yes_form ∷ []) (array_at 2)
unfolding source_forms Lacks
items_array = (refl, (λ e. cc, tt))

item_told : Cell (given two_items (Member 0 Text)) (text_at 2 ∷ []) (text_at 3)
unfolding source_forms member_name may_be may_be_other is_exactly digits Lacks
item_told = (refl, (λ e. cc, tt))

item_told_array : Cell (given two_items (Member 0 Array)) (array_at 2 ∷ []) (array_at 3)
unfolding source_forms member_name may_be may_be_other is_exactly digits Lacks
item_told_array = (refl, (λ e. cc, tt))

item_next : Cell (given two_items (Member 1 Text)) (text_at 3 ∷ []) (text_at 2)
unfolding source_forms member_name may_be may_be_other is_exactly digits Lacks
item_next = (refl, (λ e. cc, tt))

items_elsewhere : Cell (given two_items (Others Text)) (all_of 2 Text ∷ text_at 3 ∷ all_of 3 Text ∷ []) (text_at 2)
unfolding source_forms member_name may_be may_be_other is_exactly digits Lacks
items_elsewhere = (refl, (λ e. cc, (λ e. cc, (λ e. cc, tt))))

items_elsewhere_array : Cell (given two_items (Others Array)) (all_of 2 Array ∷ array_at 3 ∷ all_of 3 Array ∷ []) (array_at 2)
unfolding source_forms member_name may_be may_be_other is_exactly digits Lacks
items_elsewhere_array = (refl, (λ e. cc, (λ e. cc, (λ e. cc, tt))))

items_keys : Cell (given two_items Keys) (of_slot 2 Keys ∷ text_form (codes "t") ∷ of_slot 3 Keys ∷ integer_form ∷ [])
    (text_form (codes "5"))
unfolding source_forms Lacks
items_keys = (refl, (λ e. cc, (λ e. cc, (λ e. cc, (λ e. cc, tt)))))

-- its key may be any
item_any : Cell (given any_item (Member 1 Text)) (text_at 2 ∷ []) (of_slot 2 (Member 1 Text))
unfolding source_forms member_name may_be may_be_other is_exactly digits Lacks
item_any = (refl, (λ e. cc, tt))

item_any_keys : Cell (given any_item Keys) (of_slot 2 Keys ∷ text_at 4 ∷ text_form (codes "0") ∷ []) integer_form
unfolding source_forms Lacks
item_any_keys = (refl, (λ e. cc, (λ e. cc, (λ e. cc, tt))))

-- `$x[5] = $v`: an array, and its member under 5 is the new value alone; no other one changes
put_array : Cell (given (put_at (Some five ∷ [])) (Own Array)) (yes_form ∷ []) (array_at 2)
unfolding source_forms Lacks
put_array = (refl, (λ e. cc, tt))

put_text : Cell (given (put_at (Some five ∷ [])) (Own Text)) [] (text_at 2)
unfolding source_forms Lacks
put_text = (refl, tt)

put_this : Cell (given (put_at (Some five ∷ [])) (Member 1 Text)) (text_at 3 ∷ []) (of_slot 2 (Member 1 Text))
unfolding source_forms member_name may_be may_be_other is_exactly digits Lacks
put_this = (refl, (λ e. cc, tt))

put_this_array : Cell (given (put_at (Some five ∷ [])) (Member 1 Array)) (array_at 3 ∷ []) (of_slot 2 (Member 1 Array))
unfolding source_forms member_name may_be may_be_other is_exactly digits Lacks
put_this_array = (refl, (λ e. cc, tt))

put_not_this : Cell (given (put_at (Some five ∷ [])) (Member 0 Text)) (of_slot 2 (Member 0 Text) ∷ []) (text_at 3)
unfolding source_forms member_name may_be may_be_other is_exactly digits Lacks
put_not_this = (refl, (λ e. cc, tt))

-- `$x[$k] = $v`: it may be any member; `$x[] = $v`: any under an integer
put_any : Cell (given (put_at (Some held ∷ [])) (Member 0 Text)) (of_slot 2 (Member 0 Text) ∷ text_at 3 ∷ []) (all_of 3 Text)
unfolding source_forms member_name may_be may_be_other is_exactly digits Lacks
put_any = (refl, (λ e. cc, (λ e. cc, tt)))

put_next_integer : Cell (given (put_at (None ∷ [])) (Member 1 Text)) (of_slot 2 (Member 1 Text) ∷ text_at 3 ∷ []) integer_form
unfolding source_forms member_name may_be may_be_other is_exactly digits Lacks
put_next_integer = (refl, (λ e. cc, (λ e. cc, tt)))

put_next_text : Cell (given (put_at (None ∷ [])) (Member 0 Text)) (of_slot 2 (Member 0 Text) ∷ []) (text_at 3)
unfolding source_forms member_name may_be may_be_other is_exactly digits Lacks
put_next_text = (refl, (λ e. cc, tt))

-- the new value is one of the other members where its key may be none of those told apart
put_told : Cell (given (put_at (Some five ∷ [])) (Others Text)) (of_slot 2 (Others Text) ∷ all_of 3 Text ∷ []) (text_at 3)
unfolding source_forms member_name may_be may_be_other is_exactly digits Lacks
put_told = (refl, (λ e. cc, (λ e. cc, tt)))

put_elsewhere : Cell (given (put_at (Some six ∷ [])) (Others Text)) (of_slot 2 (Others Text) ∷ all_of 3 Text ∷ text_at 3 ∷ [])
    (of_slot 2 (Member 1 Text))
unfolding source_forms member_name may_be may_be_other is_exactly digits Lacks
put_elsewhere = (refl, (λ e. cc, (λ e. cc, (λ e. cc, tt))))

put_elsewhere_array : Cell (given (put_at (Some six ∷ [])) (Others Array)) (of_slot 2 (Others Array) ∷ all_of 3 Array ∷ array_at 3 ∷ [])
    yes_form
unfolding source_forms member_name may_be may_be_other is_exactly digits Lacks
put_elsewhere_array = (refl, (λ e. cc, (λ e. cc, (λ e. cc, tt))))

put_keys : Cell (given (put_at (Some five ∷ [])) Keys) (of_slot 2 Keys ∷ of_slot 3 Keys ∷ text_form (codes "5") ∷ []) integer_form
unfolding source_forms digits Lacks
put_keys = (refl, (λ e. cc, (λ e. cc, (λ e. cc, tt))))

put_next_keys : Cell (given (put_at (None ∷ [])) Keys) (of_slot 2 Keys ∷ of_slot 3 Keys ∷ integer_form ∷ []) (text_form (codes "0"))
unfolding source_forms Lacks
put_next_keys = (refl, (λ e. cc, (λ e. cc, (λ e. cc, tt))))

put_read_keys : Cell (given (put_at (Some held ∷ [])) Keys) (of_slot 2 Keys ∷ of_slot 3 Keys ∷ text_at 4 ∷ text_form (codes "0") ∷ [])
    integer_form
unfolding source_forms Lacks
put_read_keys = (refl, (λ e. cc, (λ e. cc, (λ e. cc, (λ e. cc, tt)))))

-- `$x[5]['t'] = $v`: the member under 5 stays what it was, or is an array; the new value stands deep
deep_array : Cell (given (put_at (Some five ∷ Some word ∷ [])) (Own Array)) (yes_form ∷ []) (array_at 2)
unfolding source_forms Lacks
deep_array = (refl, (λ e. cc, tt))

deep_this : Cell (given (put_at (Some five ∷ Some word ∷ [])) (Member 1 Text)) (of_slot 2 (Member 1 Text) ∷ []) (text_at 3)
unfolding source_forms member_name may_be may_be_other is_exactly digits Lacks
deep_this = (refl, (λ e. cc, tt))

deep_this_array : Cell (given (put_at (Some five ∷ Some word ∷ [])) (Member 1 Array)) (of_slot 2 (Member 1 Array) ∷ yes_form ∷ [])
    (array_at 3)
unfolding source_forms member_name may_be may_be_other is_exactly digits Lacks
deep_this_array = (refl, (λ e. cc, (λ e. cc, tt)))

deep_other_array : Cell (given (put_at (Some five ∷ Some word ∷ [])) (Member 0 Array)) (of_slot 2 (Member 0 Array) ∷ []) yes_form
unfolding source_forms member_name may_be may_be_other is_exactly digits Lacks
deep_other_array = (refl, (λ e. cc, tt))

deep_elsewhere : Cell (given (put_at (Some five ∷ Some word ∷ [])) (Others Text)) (of_slot 2 (Others Text) ∷ all_of 3 Text ∷ text_at 3 ∷ [])
    (of_slot 2 (Member 1 Text))
unfolding source_forms Lacks
deep_elsewhere = (refl, (λ e. cc, (λ e. cc, (λ e. cc, tt))))

deep_elsewhere_array : Cell (given (put_at (Some five ∷ Some word ∷ [])) (Others Array))
    (of_slot 2 (Others Array) ∷ all_of 3 Array ∷ array_at 3 ∷ yes_form ∷ []) (array_at 2)
unfolding source_forms Lacks
deep_elsewhere_array = (refl, (λ e. cc, (λ e. cc, (λ e. cc, (λ e. cc, tt)))))

deep_keys : Cell (given (put_at (Some five ∷ None ∷ [])) Keys) (of_slot 2 Keys ∷ of_slot 3 Keys ∷ text_form (codes "5") ∷ integer_form ∷ [])
    (text_form (codes "t"))
unfolding source_forms digits Lacks
deep_keys = (refl, (λ e. cc, (λ e. cc, (λ e. cc, (λ e. cc, tt)))))

abbrev exploded : PlainSource
exploded = explode_source op.Html 2 builtin.Explode []

-- pieces of a text: under integer keys alone, and also where none is told apart
exploded_array : Cell (given exploded (Own Array)) (yes_form ∷ []) (array_at 2)
unfolding source_forms Lacks
exploded_array = (refl, (λ e. cc, tt))

exploded_text : Cell (given exploded (Own Text)) [] (same_form (Output 9))
unfolding source_forms Lacks
exploded_text = (refl, tt)

exploded_number : Cell (given exploded (Member 1 Text)) (same_form (Output 9) ∷ []) (text_at 2)
unfolding source_forms Lacks
exploded_number = (refl, (λ e. cc, tt))

exploded_word : Cell (given exploded (Member 0 Text)) [] (same_form (Output 9))
unfolding source_forms Lacks
exploded_word = (refl, tt)

exploded_number_array : Cell (given exploded (Member 1 Array)) [] yes_form
unfolding source_forms Lacks
exploded_number_array = (refl, tt)

exploded_elsewhere : Cell (given exploded (Others Text)) (same_form (Output 9) ∷ []) (same_form (Input 9))
unfolding source_forms Lacks
exploded_elsewhere = (refl, (λ e. cc, tt))

exploded_elsewhere_array : Cell (given exploded (Others Array)) [] yes_form
unfolding source_forms Lacks
exploded_elsewhere_array = (refl, tt)

exploded_keys : Cell (given exploded Keys) (integer_form ∷ []) (text_form (codes "t"))
unfolding source_forms Lacks
exploded_keys = (refl, (λ e. cc, tt))
