-- Cells of what is joined, copied and computed, and of walks, each with a form that it does not have.
use Rattle.std.proofs.Common.{refl, [], ◌∷◌, Some}
use Rattle.std.specs.Prelude.{codes}
use Rattle.flow_code.specs.Points.{copy_source, concat_source, repeat_source, implode_source, explode_source, apply_source, number_source, truth_source, echo_point, key_point, value_point}
use Rattle.least_sets.specs.Forms.{text_form, same_form, join_form, integer_form, apply_form, yes_form, where_form}
use Rattle.loose_sets.specs.Sources.{source_forms, given_at}
use Rattle.loose_sets.specs.Points.{value_forms, operation_of, input_forms, output_forms, joined_slots, joined_forms, imploded_slots, piece_forms, further_forms, any_further_forms}
use Rattle.loose_sets.specs.Table.{each_use}
use Rattle.loose_sets.specs.declared.name.Half.TheVariants.{Text, Array}
use Rattle.loose_sets.specs.declared.name.Aspect.TheVariants.{Own, Member, Others, Keys}
use Rattle.loose_sets.specs.declared.name.SetVersion.TheVariants.{Join}
use Rattle.loose_sets.specs.declared.name.SetName.TheVariants.{Value, Members, Shown, Input, Output, Joined, Piece, FurtherPiece, FurtherPieces}
use Rattle.loose_sets.proofs.ExampleWords.{Lacks, Cell, given, set_by, of_slot, all_of, text_at, array_at}
use Rattle.builtin_meaning.specs.declared.builtin.Builtin.TheVariants as builtin
use Rattle.op_system.specs.declared.op.Op.TheVariants as op
use Rattle.flow_code.specs.declared.source.Work.TheVariants as work

-- texts joined, from the first value on; an array among them is `Array`
joined : Cell (given (concat_source (2 ∷ 3 ∷ [])) (Own Text)) (same_form (Joined 9 0) ∷ []) (same_form (Joined 9 1))
unfolding source_forms Lacks
joined = (refl, (λ e. cc, tt))

joined_array : Cell (given (concat_source (2 ∷ 3 ∷ [])) (Own Array)) [] yes_form
unfolding source_forms Lacks
joined_array = (refl, tt)

joined_from_first : Cell (joined_forms each_use 9 (joined_slots (Some (concat_source (2 ∷ 3 ∷ [])))) 0)
    (join_form (Shown (Join 9 2)) (Joined 9 1) ∷ []) (join_form (Value (Own Text) (Join 9 2)) (Joined 9 1))
unfolding joined_forms joined_slots Lacks
joined_from_first = (refl, (λ e. cc, tt))

joined_from_second : Cell (joined_forms each_use 9 (joined_slots (Some (concat_source (2 ∷ 3 ∷ [])))) 1)
    (join_form (Shown (Join 9 3)) (Joined 9 2) ∷ []) (join_form (Shown (Join 9 2)) (Joined 9 2))
unfolding joined_forms joined_slots Lacks
joined_from_second = (refl, (λ e. cc, tt))

joined_behind : Cell (joined_forms each_use 9 (joined_slots (Some (concat_source (2 ∷ 3 ∷ [])))) 2) (text_form [] ∷ [])
    (same_form (Joined 9 3))
unfolding joined_forms joined_slots Lacks
joined_behind = (refl, (λ e. cc, tt))

joined_further : Cell (joined_forms each_use 9 (joined_slots (Some (concat_source (2 ∷ 3 ∷ [])))) 3) [] (text_form [])
unfolding joined_forms joined_slots Lacks
joined_further = (refl, tt)

-- copies of a text feed themselves; how many there are gives no text
copied : Cell (given (repeat_source 2 builtin.StrRepeat (3 ∷ [])) (Own Text))
    (text_form [] ∷ join_form (Value (Own Text) (Join 9 2)) (given_at 9) ∷ []) (text_at 3)
unfolding source_forms Lacks
copied = (refl, (λ e. cc, (λ e. cc, tt)))

copied_array : Cell (given (repeat_source 2 builtin.StrRepeat (3 ∷ [])) (Own Array)) [] (array_at 2)
unfolding source_forms Lacks
copied_array = (refl, tt)

-- members joined, with a separator between two of them alone
imploded : Cell (given (implode_source 2 3 builtin.Implode []) (Own Text)) (text_form [] ∷ join_form (Piece 9) (FurtherPieces 9) ∷ [])
    (join_form (FurtherPiece 9) (FurtherPieces 9))
unfolding source_forms Lacks
imploded = (refl, (λ e. cc, (λ e. cc, tt)))

imploded_piece : Cell (piece_forms each_use 9 (imploded_slots (Some (implode_source 2 3 builtin.Implode []))))
    (all_of 3 Text ∷ where_form (codes "Array") (Members Array (Join 9 3)) ∷ []) (text_at 3)
unfolding piece_forms imploded_slots Lacks
imploded_piece = (refl, (λ e. cc, (λ e. cc, tt)))

imploded_further : Cell (further_forms each_use 9 (imploded_slots (Some (implode_source 2 3 builtin.Implode []))))
    (join_form (Value (Own Text) (Join 9 2)) (Piece 9) ∷ []) (join_form (Piece 9) (Value (Own Text) (Join 9 2)))
unfolding further_forms imploded_slots Lacks
imploded_further = (refl, (λ e. cc, tt))

imploded_any_further : Cell (any_further_forms 9 (imploded_slots (Some (implode_source 2 3 builtin.Implode []))))
    (text_form [] ∷ join_form (FurtherPiece 9) (FurtherPieces 9) ∷ []) (join_form (Piece 9) (FurtherPieces 9))
unfolding any_further_forms imploded_slots Lacks
imploded_any_further = (refl, (λ e. cc, (λ e. cc, tt)))

-- an operation: one set of outputs a point, on its own inputs
applied : Cell (given (apply_source op.Html 2 builtin.Htmlspecialchars []) (Own Text)) (same_form (Output 9) ∷ []) (text_at 2)
unfolding source_forms Lacks
applied = (refl, (λ e. cc, tt))

applied_array : Cell (given (apply_source op.Html 2 builtin.Htmlspecialchars []) (Own Array)) [] (array_at 2)
unfolding source_forms Lacks
applied_array = (refl, tt)

outputs : Cell (output_forms 9 (operation_of (Some (apply_source op.Html 2 builtin.Htmlspecialchars []))))
    (apply_form op.Html (Input 9) ∷ []) (same_form (Input 9))
unfolding output_forms operation_of Lacks
outputs = (refl, (λ e. cc, tt))

no_outputs : Cell (output_forms 9 (operation_of (Some (copy_source 2)))) [] (same_form (Input 9))
unfolding output_forms operation_of Lacks
no_outputs = (refl, tt)

outputs_of_pieces : Cell (output_forms 9 (operation_of (Some (explode_source op.Html 2 builtin.Explode (3 ∷ [])))))
    (apply_form op.Html (Input 9) ∷ []) (apply_form op.Any (Input 9))
unfolding output_forms operation_of Lacks
outputs_of_pieces = (refl, (λ e. cc, tt))

-- `Any` reads the replacement too, other operations the text alone
inputs_of_any : Cell (input_forms each_use 9 (operation_of (Some (apply_source op.Any 2 builtin.StrReplace (3 ∷ 4 ∷ 2 ∷ [])))))
    (text_at 2 ∷ text_at 4 ∷ []) (text_at 3)
unfolding input_forms operation_of Lacks
inputs_of_any = (refl, (λ e. cc, (λ e. cc, tt)))

inputs_alone : Cell (input_forms each_use 9 (operation_of (Some (apply_source op.Html 2 builtin.StrReplace (3 ∷ 4 ∷ 2 ∷ [])))))
    (text_at 2 ∷ []) (text_at 4)
unfolding input_forms operation_of Lacks
inputs_alone = (refl, (λ e. cc, tt))

-- an integer; a truth value
number : Cell (given (number_source work.Neg (2 ∷ [])) (Own Text)) (integer_form ∷ []) (text_form [])
unfolding source_forms Lacks
number = (refl, (λ e. cc, tt))

number_array : Cell (given (number_source work.Neg (2 ∷ [])) (Own Array)) [] yes_form
unfolding source_forms Lacks
number_array = (refl, tt)

truth : Cell (given (truth_source work.AsTruth (2 ∷ [])) (Own Text)) (text_form (codes "1") ∷ text_form [] ∷ []) integer_form
unfolding source_forms Lacks
truth = (refl, (λ e. cc, (λ e. cc, tt)))

-- the key of a walk is a text; its value is any member, whose own members stand deep
walk_key : Cell (set_by (key_point 1 2 10) (Own Text)) (of_slot 2 Keys ∷ []) integer_form
unfolding value_forms Lacks
walk_key = (refl, (λ e. cc, tt))

walk_key_array : Cell (set_by (key_point 1 2 10) (Own Array)) [] yes_form
unfolding value_forms Lacks
walk_key_array = (refl, tt)

walk_value : Cell (set_by (value_point 1 2 10) (Own Text)) (all_of 2 Text ∷ []) (text_at 2)
unfolding value_forms Lacks
walk_value = (refl, (λ e. cc, tt))

walk_value_array : Cell (set_by (value_point 1 2 10) (Own Array)) (all_of 2 Array ∷ []) yes_form
unfolding value_forms Lacks
walk_value_array = (refl, (λ e. cc, tt))

walk_member : Cell (set_by (value_point 1 2 10) (Member 1 Text)) (of_slot 2 (Others Text) ∷ []) (of_slot 2 (Member 1 Text))
unfolding value_forms Lacks
walk_member = (refl, (λ e. cc, tt))

walk_others : Cell (set_by (value_point 1 2 10) (Others Text)) (of_slot 2 (Others Text) ∷ []) (all_of 2 Text)
unfolding value_forms Lacks
walk_others = (refl, (λ e. cc, tt))

walk_keys : Cell (set_by (value_point 1 2 10) Keys) (of_slot 2 Keys ∷ []) integer_form
unfolding value_forms Lacks
walk_keys = (refl, (λ e. cc, tt))

-- a point that sets no slot gives nothing
printed_is_no_value : Cell (set_by (echo_point 2 10) (Own Text)) [] (text_at 2)
unfolding value_forms Lacks
printed_is_no_value = (refl, tt)
