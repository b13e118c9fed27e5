-- The plain form of the points of the code.
use Rattle.std.specs.Prelude.{ℕ, Option, Some, None, map}
use Rattle.text_base.specs.declared.numbers.Slot.{Slot}
use Rattle.php_values.specs.View.{plain_of}
use Rattle.flow_code.specs.declared.source.KeyRef.{KeyRef}
use Rattle.flow_code.specs.declared.source.KeyRef.TheVariants as key
use Rattle.flow_code.specs.declared.source.Source.{Source}
use Rattle.flow_code.specs.declared.source.Source.TheVariants as source
use Rattle.flow_code.specs.declared.point.FlowPoint.{FlowPoint}
use Rattle.flow_code.specs.declared.point.FlowPoint.TheVariants as point
use Rattle.flow_code.specs.declared.program.FlowFunction.{FlowFunction}
use Rattle.flow_code.specs.declared.program.FlowProgram.{FlowProgram}
use Rattle.flow_code.specs.Points.{PlainKeyRef, int_ref, text_ref, read_ref, PlainSource, literal_source, copy_source, super_source, member_source, array_source, put_source, concat_source, repeat_source, implode_source, explode_source, apply_source, number_source, truth_source, PlainPoint, set_point, call_point, print_point, echo_point, branch_point, jump_point, begin_point, next_point, key_point, value_point, return_point, quit_point, PlainFlowFunction, PlainFlow}

-- the plain form of a key: an integer, a text, or the number of the slot that is read
abbrev pub plain_key_ref : KeyRef → PlainKeyRef
plain_key_ref (key.Int z) = int_ref z
plain_key_ref (key.Text t) = text_ref t
plain_key_ref (key.Read x) = read_ref x.0

-- the plain form of a key that may be left out
abbrev pub plain_maybe_key : Option KeyRef → Option PlainKeyRef
plain_maybe_key None = None
plain_maybe_key (Some k) = Some (plain_key_ref k)

-- a slot's number
abbrev pub slot_number : Slot → ℕ
slot_number x = x.0

-- a slot's number, if there is a slot
abbrev pub maybe_slot : Option Slot → Option ℕ
maybe_slot None = None
maybe_slot (Some x) = Some x.0

-- the plain form of an array item: its key, if it has one, and the number of its value's slot
abbrev pub plain_item : (Option KeyRef × Slot) → (Option PlainKeyRef × ℕ)
plain_item item = (plain_maybe_key item.0, slot_number item.1)

-- the plain form of a source: slots by their numbers, literals by their plain values
abbrev pub plain_source : Source → PlainSource
plain_source (source.Lit v) = literal_source (plain_of v)
plain_source (source.Copy x) = copy_source x.0
plain_source (source.Super name) = super_source name
plain_source (source.MemberOf x k) = member_source x.0 (plain_key_ref k)
plain_source (source.ArrayOf items) = array_source (map plain_item items.items)
plain_source (source.PutIn x path v) = put_source x.0 (map plain_maybe_key path.items) v.0
plain_source (source.Concat parts) = concat_source (map slot_number parts.items)
plain_source (source.Repeat from builtin args) = repeat_source from.0 builtin (map slot_number args.items)
plain_source (source.Implode sep from builtin args) = implode_source sep.0 from.0 builtin (map slot_number args.items)
plain_source (source.Explode op from builtin args) = explode_source op from.0 builtin (map slot_number args.items)
plain_source (source.Apply op from builtin args) = apply_source op from.0 builtin (map slot_number args.items)
plain_source (source.Number work args) = number_source work (map slot_number args.items)
plain_source (source.Truth work args) = truth_source work (map slot_number args.items)

-- the plain form of a point: slots and the points where it goes on by their numbers
abbrev pub plain_point : FlowPoint → PlainPoint
plain_point (point.Set x s next) = set_point x.0 (plain_source s) next.0
plain_point (point.Call x f args next) = call_point x.0 f (map slot_number args.items) next.0
plain_point (point.Print bytes next) = print_point bytes next.0
plain_point (point.Echo x next) = echo_point x.0 next.0
plain_point (point.Branch x a b) = branch_point x.0 a.0 b.0
plain_point (point.Jump next) = jump_point next.0
plain_point (point.EachBegin x from next) = begin_point x.0 from.0 next.0
plain_point (point.EachNext x more done) = next_point x.0 more.0 done.0
plain_point (point.KeyOf x from next) = key_point x.0 from.0 next.0
plain_point (point.ValueOf x from next) = value_point x.0 from.0 next.0
plain_point (point.Return x) = return_point x.0
plain_point (point.Quit x) = quit_point (maybe_slot x)

-- the plain form of a function: its first point and first slot, and what stands in it, by numbers
abbrev pub plain_flow_function : FlowFunction → PlainFlowFunction
plain_flow_function f = record {
  entry_of = f.entry.0;
  params_of = map slot_number f.params.items;
  first_slot_of = f.first_slot.0;
  slots_of = f.slots;
  first_point_of = f.first_point.0;
  points_of = map plain_point f.points.items;
}

-- the plain form of a program: its functions in their order
abbrev pub plain_flow : FlowProgram → PlainFlow
plain_flow p = record { functions_of = map plain_flow_function p.functions.items }
