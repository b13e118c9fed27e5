-- Cells of calls, of results, and of slots where a function is entered, each with a form that it does not have.
use Rattle.std.proofs.Common.{refl, [], ◌∷◌, ℕ}
use Rattle.flow_code.specs.Points.{call_point, branch_point, return_point, PlainFlow, points_in}
use Rattle.flow_graph.specs.Returned.{returned_from, returned_slot}
use Rattle.flow_graph.specs.Handed.{handings_from}
use Rattle.least_sets.specs.Forms.{text_form, same_form, yes_form, Form}
use Rattle.loose_sets.specs.Uses.{where_so}
use Rattle.loose_sets.specs.Sources.{is_own_text}
use Rattle.loose_sets.specs.Points.{value_forms}
use Rattle.loose_sets.specs.Functions.{handed_to, is_null_slot, returned_by}
use Rattle.loose_sets.specs.Table.{each_use, forms, forms_beside, point_of}
use Rattle.loose_sets.specs.declared.name.Half.TheVariants.{Text, Array}
use Rattle.loose_sets.specs.declared.name.Aspect.{Aspect}
use Rattle.loose_sets.specs.declared.name.SetName.{SetName}
use Rattle.loose_sets.specs.declared.name.Aspect.TheVariants.{Own, Member, Others, Keys}
use Rattle.loose_sets.specs.declared.name.SetVersion.TheVariants.{Join, Entry}
use Rattle.loose_sets.specs.declared.name.SetName.TheVariants.{Value, Result}
use Rattle.loose_sets.proofs.ExampleWords.{Lacks, Cell, set_by, of_slot}

-- `function f($p) { if ($p) { return $p; } return $q; }`, called at the point 0 with the slot 0 and at the point 1 with the slot 1; slot 4 is
-- its own, and no parameter
abbrev called : PlainFlow
called = record {
  functions_of =
      record {
        entry_of = 0;
        params_of = [];
        first_slot_of = 0;
        slots_of = 3;
        first_point_of = 0;
        points_of = call_point 2 1 (0 ∷ []) 1 ∷ call_point 2 1 (1 ∷ []) 2 ∷ return_point 2 ∷ [];
      }
      ∷ record {
        entry_of = 3;
        params_of = 3 ∷ [];
        first_slot_of = 3;
        slots_of = 2;
        first_point_of = 3;
        points_of = branch_point 3 4 5 ∷ return_point 3 ∷ return_point 4 ∷ [];
      } ∷ [];
}

-- the value of a slot at a point
abbrev there : Aspect → ℕ → ℕ → Form SetName
there b p x = same_form (Value b (Join p x))

-- a parameter has what each call hands in, and is not null
parameter_text : Cell (forms each_use called (Value (Own Text) (Entry 1 3))) (there (Own Text) 0 0 ∷ there (Own Text) 1 1 ∷ [])
    (text_form [])
unfolding point_of forms_beside handed_to is_null_slot handings_from points_in where_so is_own_text Lacks
parameter_text = (refl, (λ e. cc, (λ e. cc, tt)))

parameter_array : Cell (forms each_use called (Value (Own Array) (Entry 1 3))) (there (Own Array) 0 0 ∷ there (Own Array) 1 1 ∷ [])
    (there (Own Array) 0 1)
unfolding point_of forms_beside handed_to is_null_slot handings_from points_in where_so is_own_text Lacks
parameter_array = (refl, (λ e. cc, (λ e. cc, tt)))

parameter_member : Cell (forms each_use called (Value (Member 0 Text) (Entry 1 3)))
    (there (Member 0 Text) 0 0 ∷ there (Member 0 Text) 1 1 ∷ []) (there (Member 0 Text) 0 1)
unfolding point_of forms_beside handed_to is_null_slot handings_from points_in where_so is_own_text Lacks
parameter_member = (refl, (λ e. cc, (λ e. cc, tt)))

parameter_others : Cell (forms each_use called (Value (Others Text) (Entry 1 3))) (there (Others Text) 0 0 ∷ there (Others Text) 1 1 ∷ [])
    (there (Others Text) 0 1)
unfolding point_of forms_beside handed_to is_null_slot handings_from points_in where_so is_own_text Lacks
parameter_others = (refl, (λ e. cc, (λ e. cc, tt)))

parameter_keys : Cell (forms each_use called (Value Keys (Entry 1 3))) (there Keys 0 0 ∷ there Keys 1 1 ∷ []) (there Keys 0 1)
unfolding point_of forms_beside handed_to is_null_slot handings_from points_in where_so is_own_text Lacks
parameter_keys = (refl, (λ e. cc, (λ e. cc, tt)))

-- any other slot is null, whose text is empty
null_text : Cell (forms each_use called (Value (Own Text) (Entry 1 4))) (text_form [] ∷ []) (there (Own Text) 0 0)
unfolding point_of forms_beside handed_to is_null_slot handings_from points_in where_so is_own_text Lacks
null_text = (refl, (λ e. cc, tt))

null_array : Cell (forms each_use called (Value (Own Array) (Entry 1 4))) [] yes_form
unfolding point_of forms_beside handed_to is_null_slot handings_from points_in where_so is_own_text Lacks
null_array = (refl, tt)

no_slot : Cell (forms each_use called (Value (Own Text) (Entry 1 5))) [] (text_form [])
unfolding point_of forms_beside handed_to is_null_slot handings_from points_in where_so is_own_text Lacks
no_slot = (refl, tt)

-- a function gives what it returns at each of its points
result_text : Cell (forms each_use called (Result (Own Text) 1)) (there (Own Text) 4 3 ∷ there (Own Text) 5 4 ∷ []) (there (Own Text) 2 2)
unfolding point_of forms_beside returned_by returned_from returned_slot points_in Lacks
result_text = (refl, (λ e. cc, (λ e. cc, tt)))

result_array : Cell (forms each_use called (Result (Own Array) 1)) (there (Own Array) 4 3 ∷ there (Own Array) 5 4 ∷ [])
    (there (Own Array) 2 2)
unfolding point_of forms_beside returned_by returned_from returned_slot points_in Lacks
result_array = (refl, (λ e. cc, (λ e. cc, tt)))

result_member : Cell (forms each_use called (Result (Member 0 Text) 1)) (there (Member 0 Text) 4 3 ∷ there (Member 0 Text) 5 4 ∷ [])
    (there (Member 0 Text) 2 2)
unfolding point_of forms_beside returned_by returned_from returned_slot points_in Lacks
result_member = (refl, (λ e. cc, (λ e. cc, tt)))

result_others : Cell (forms each_use called (Result (Others Text) 1)) (there (Others Text) 4 3 ∷ there (Others Text) 5 4 ∷ [])
    (there (Others Text) 2 2)
unfolding point_of forms_beside returned_by returned_from returned_slot points_in Lacks
result_others = (refl, (λ e. cc, (λ e. cc, tt)))

result_keys : Cell (forms each_use called (Result Keys 1)) (there Keys 4 3 ∷ there Keys 5 4 ∷ []) (there Keys 2 2)
unfolding point_of forms_beside returned_by returned_from returned_slot points_in Lacks
result_keys = (refl, (λ e. cc, (λ e. cc, tt)))

no_result : Cell (forms each_use called (Result (Own Text) 2)) [] (text_form [])
unfolding point_of forms_beside returned_by returned_from returned_slot points_in Lacks
no_result = (refl, tt)

-- a call has the results of its function
call_text : Cell (set_by (call_point 1 7 (2 ∷ []) 10) (Own Text)) (same_form (Result (Own Text) 7) ∷ []) (of_slot 2 (Own Text))
unfolding value_forms Lacks
call_text = (refl, (λ e. cc, tt))

call_array : Cell (set_by (call_point 1 7 (2 ∷ []) 10) (Own Array)) (same_form (Result (Own Array) 7) ∷ []) (of_slot 2 (Own Array))
unfolding value_forms Lacks
call_array = (refl, (λ e. cc, tt))

call_member : Cell (set_by (call_point 1 7 (2 ∷ []) 10) (Member 0 Text)) (same_form (Result (Member 0 Text) 7) ∷ [])
    (of_slot 2 (Member 0 Text))
unfolding value_forms Lacks
call_member = (refl, (λ e. cc, tt))

call_others : Cell (set_by (call_point 1 7 (2 ∷ []) 10) (Others Text)) (same_form (Result (Others Text) 7) ∷ []) (of_slot 2 (Others Text))
unfolding value_forms Lacks
call_others = (refl, (λ e. cc, tt))

call_keys : Cell (set_by (call_point 1 7 (2 ∷ []) 10) Keys) (same_form (Result Keys 7) ∷ []) (of_slot 2 Keys)
unfolding value_forms Lacks
call_keys = (refl, (λ e. cc, tt))
