-- Cells of what is printed, each with a form that it does not have.
use Rattle.std.proofs.Common.{refl, List, [], ◌∷◌, Some, None}
use Rattle.std.specs.Prelude.{codes}
use Rattle.flow_code.specs.Points.{copy_source, PlainPoint, set_point, call_point, print_point, echo_point, branch_point, jump_point, next_point, return_point, quit_point, PlainFlowFunction}
use Rattle.flow_code.specs.Lawful.{nexts}
use Rattle.least_sets.specs.Forms.{text_form, same_form, join_form, before_form, where_form}
use Rattle.loose_sets.specs.Printed.{out_forms}
use Rattle.loose_sets.specs.declared.name.Leaving.{Leaving}
use Rattle.loose_sets.specs.Arrays.{Forms}
use Rattle.loose_sets.specs.Members.{members_forms, shown_forms}
use Rattle.loose_sets.specs.Table.{each_use}
use Rattle.loose_sets.specs.declared.name.Half.TheVariants.{Text, Array}
use Rattle.loose_sets.specs.declared.name.Aspect.TheVariants.{Own, Member, Others}
use Rattle.loose_sets.specs.declared.name.Leaving.TheVariants.{Return, Exit}
use Rattle.loose_sets.specs.declared.name.SetVersion.TheVariants.{Join}
use Rattle.loose_sets.specs.declared.name.SetName.TheVariants.{Value, Shown, Out}
use Rattle.loose_sets.proofs.ExampleWords.{Lacks, Cell, told, of_slot, text_at, array_at}

-- one function, which is entered at the point 20
abbrev one_function : List PlainFlowFunction
one_function = record { entry_of = 20; params_of = []; first_slot_of = 0; slots_of = 1; first_point_of = 20; points_of = [] } ∷ []

-- what is printed from the point on
abbrev printed : PlainPoint → Leaving → Forms
printed k end = out_forms one_function each_use 9 k end

-- a text of the script, and then what comes behind it
text_printed : Cell (printed (print_point (codes "a") 10) Return) (before_form (codes "a") (Out 10 Return) ∷ [])
    (before_form (codes "a") (Out 10 Exit))
unfolding out_forms Lacks
text_printed = (refl, (λ e. cc, tt))

-- `echo` prints a value, an array among them as `Array`
echoed : Cell (printed (echo_point 2 10) Return) (join_form (Shown (Join 9 2)) (Out 10 Return) ∷ [])
    (join_form (Value (Own Text) (Join 9 2)) (Out 10 Return))
unfolding out_forms Lacks
echoed = (refl, (λ e. cc, tt))

shown : Cell (shown_forms (Join 9 2)) (text_at 2 ∷ where_form (codes "Array") (Value (Own Array) (Join 9 2)) ∷ [])
    (text_form (codes "Array"))
unfolding shown_forms Lacks
shown = (refl, (λ e. cc, (λ e. cc, tt)))

members : Cell (members_forms told Text (Join 9 2)) (of_slot 2 (Others Text) ∷ of_slot 2 (Member 0 Text) ∷ of_slot 2 (Member 1 Text) ∷ [])
    (text_at 2)
unfolding members_forms Lacks
members = (refl, (λ e. cc, (λ e. cc, (λ e. cc, tt))))

members_array : Cell (members_forms told Array (Join 9 2))
    (of_slot 2 (Others Array) ∷ of_slot 2 (Member 0 Array) ∷ of_slot 2 (Member 1 Array) ∷ []) (array_at 2)
unfolding members_forms Lacks
members_array = (refl, (λ e. cc, (λ e. cc, (λ e. cc, tt))))

-- either way of a branch, and where a point goes on: nothing of their own
both_ways : Cell (printed (branch_point 2 10 14) Return) (same_form (Out 10 Return) ∷ same_form (Out 14 Return) ∷ []) (text_form [])
unfolding out_forms nexts Lacks
both_ways = (refl, (λ e. cc, (λ e. cc, tt)))

onward : Cell (printed (jump_point 14) Exit) (same_form (Out 14 Exit) ∷ []) (same_form (Out 10 Exit))
unfolding out_forms nexts Lacks
onward = (refl, (λ e. cc, tt))

set_prints_nothing : Cell (printed (set_point 1 (copy_source 2) 10) Return) (same_form (Out 10 Return) ∷ [])
    (join_form (Shown (Join 9 2)) (Out 10 Return))
unfolding out_forms nexts Lacks
set_prints_nothing = (refl, (λ e. cc, tt))

walk_on_or_done : Cell (printed (next_point 1 10 14) Return) (same_form (Out 10 Return) ∷ same_form (Out 14 Return) ∷ [])
    (same_form (Out 9 Return))
unfolding out_forms nexts Lacks
walk_on_or_done = (refl, (λ e. cc, (λ e. cc, tt)))

-- a call returns here, or the run ends in it
call_returns : Cell (printed (call_point 1 0 [] 10) Return) (join_form (Out 20 Return) (Out 10 Return) ∷ []) (same_form (Out 20 Exit))
unfolding out_forms Lacks
call_returns = (refl, (λ e. cc, tt))

call_ends : Cell (printed (call_point 1 0 [] 10) Exit) (join_form (Out 20 Return) (Out 10 Exit) ∷ same_form (Out 20 Exit) ∷ [])
    (join_form (Out 20 Exit) (Out 10 Exit))
unfolding out_forms Lacks
call_ends = (refl, (λ e. cc, (λ e. cc, tt)))

call_of_none : Cell (printed (call_point 1 7 [] 10) Return) [] (same_form (Out 10 Return))
unfolding out_forms Lacks
call_of_none = (refl, tt)

-- at an end by `exit` the run ends, with a text or without one, and the function does not return
exit_prints : Cell (printed (quit_point (Some 2)) Exit) (text_at 2 ∷ []) (same_form (Shown (Join 9 2)))
unfolding out_forms Lacks
exit_prints = (refl, (λ e. cc, tt))

exit_alone : Cell (printed (quit_point None) Exit) (text_form [] ∷ []) (same_form (Out 10 Exit))
unfolding out_forms Lacks
exit_alone = (refl, (λ e. cc, tt))

exit_does_not_return : Cell (printed (quit_point (Some 2)) Return) [] (text_at 2)
unfolding out_forms Lacks
exit_does_not_return = (refl, tt)

-- at a return nothing more is printed, and the run does not end
returned : Cell (printed (return_point 2) Return) (text_form [] ∷ []) (text_at 2)
unfolding out_forms Lacks
returned = (refl, (λ e. cc, tt))

return_is_no_end : Cell (printed (return_point 2) Exit) [] (text_form [])
unfolding out_forms Lacks
return_is_no_end = (refl, tt)
