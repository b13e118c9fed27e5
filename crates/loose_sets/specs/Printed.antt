-- The forms of what is printed from a point on until its function is left so.
use Rattle.std.specs.Prelude.{ℕ, List, [], ◌∷◌, Option, Some, None, map, slice_get}
use Rattle.flow_code.specs.Points.{PlainPoint, call_point, print_point, echo_point, return_point, quit_point, PlainFlowFunction}
use Rattle.flow_code.specs.Lawful.{nexts}
use Rattle.least_sets.specs.Forms.{Form, text_form, same_form, join_form, before_form}
use Rattle.loose_sets.specs.declared.name.Half.TheVariants.{Text}
use Rattle.loose_sets.specs.declared.name.Aspect.TheVariants.{Own}
use Rattle.loose_sets.specs.declared.name.Leaving.{Leaving}
use Rattle.loose_sets.specs.declared.name.Leaving.TheVariants.{Return, Exit}
use Rattle.loose_sets.specs.declared.name.SetName.{SetName}
use Rattle.loose_sets.specs.declared.name.SetName.TheVariants as name
use Rattle.loose_sets.specs.Uses.{At, used}
use Rattle.loose_sets.specs.Arrays.{Forms}

-- goes on there
abbrev pub onward : Leaving → ℕ → Form SetName
onward end q = same_form (name.Out q end)

-- at a return: nothing more is printed until the function is left by it, and no run from there ends in the function
unfoldable pub on_return : Leaving → Forms
on_return Return = text_form [] ∷ []
on_return Exit = []

-- at an end of the run: this form, and no run from there leaves the function by a return
unfoldable pub on_exit : Form SetName → Leaving → Forms
on_exit form Return = []
on_exit form Exit = form ∷ []

-- what an end of the run prints: nothing, or a value as a text
abbrev pub quit_form : At → ℕ → Option ℕ → Form SetName
quit_form at p None = text_form []
quit_form at p (Some x) = used at p (Own Text) x

-- what the function prints and then what follows, or what it prints until the run ends in it
abbrev pub call_forms : ℕ → Leaving → Option PlainFlowFunction → Forms
call_forms next end None = []
call_forms next end (Some g) =
    join_form (name.Out g.entry_of Return) (name.Out next end) ∷ on_exit (same_form (name.Out g.entry_of Exit)) end

-- what is printed from a point on: what it prints itself, and then what is printed from each point where it goes on
unfoldable pub out_forms : List PlainFlowFunction → At → ℕ → PlainPoint → Leaving → Forms
unfolding on_return on_exit nexts
out_forms fs at p (call_point x n args next) end = call_forms next end (slice_get fs n)
out_forms fs at p (print_point bytes next) end = before_form bytes (name.Out next end) ∷ []
out_forms fs at p (echo_point x next) end = join_form (name.Shown (at p x)) (name.Out next end) ∷ []
out_forms fs at p (return_point x) end = on_return end
out_forms fs at p (quit_point x) end = on_exit (quit_form at p x) end
out_forms fs at p i end = map (onward end) (nexts i)
