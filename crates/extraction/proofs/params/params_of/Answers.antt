use Rattle.std.proofs.Common.{List, subst, map}
use Rattle.text_base.specs.declared.numbers.Slot.{Slot}
use Rattle.flow_code.specs.declared.program.FlowFunction.{FlowFunction}
use Rattle.flow_code.specs.View.{slot_number}
use Rattle.extraction.specs.Params.{Puts}
use Rattle.extraction.proofs.ParamLemmas.{more_params}
use Rattle.extraction.proofs.params.params_of.Goals as goal

pub loop-place-preserved : goal.loop-place-preserved
loop-place-preserved c =
    let function = c.index-functions-place.result in
    more_params c.args.functions.now c.loop-place.place function c.loop-place.keys.keys c.put_params.new.keys.keys c.loop-place-test.true c.loop-place.invariant
    (subst (λ (f : FlowFunction). Puts c.loop-place.keys.keys c.put_params.new.keys.keys c.loop-place.place (map slot_number f.params.items)) c.index-functions-place.is
    (subst (λ (xs : List Slot). Puts c.loop-place.keys.keys c.put_params.new.keys.keys c.loop-place.place (map slot_number xs)) c.deref.ensures.value c.in_ok-put_params.ensures))
