use Rattle.std.proofs.Common.{map}
use Rattle.flow_code.specs.View.{slot_number}
use Rattle.expression_lowering.proofs.CallLemmas.{defaults_further, defaults_end}
use Rattle.expression_lowering.proofs.defaults.lower_defaults.Goals as goal

pub loop-param-preserved : goal.loop-param-preserved
loop-param-preserved c =
    defaults_further c.args.params.now c.loop-param.param-index c.param-item.result c.loop-param.slots.items c.push.new.self.items c.in_ok-slot.slot c.loop-param-test.true c.param-item.is c.in_ok-push.ensures.items c.in_ok-slot.ensures c.loop-param.invariant

pub returns : goal.returns
returns c = defaults_end (map slot_number c.loop-param.slots.items) c.args.params.now c.loop-param.param-index c.loop-param-test.false c.loop-param.invariant
