use Rattle.std.proofs.lemmas.Option.{slice_get-get_or}
use Rattle.op_bytes.proofs.GrowLemmas.{uses_none, uses_more, uses_all}
use Rattle.op_bytes.proofs.passing.pass_uses.Goals as goal

pub loop-place-init : goal.loop-place-init
loop-place-init c = uses_none c.args.sets.now.items c.args.order.now.items c.args.uses.now c.args.places.now c.args.own.now

pub loop-place-preserved : goal.loop-place-preserved
loop-place-preserved c =
    uses_more c.args.sets.now.items c.loop-place.sets.items c.pass_use.new.sets.items c.args.order.now.items c.loop-place.order.items c.pass_use.new.order.items c.args.uses.now c.args.places.now c.loop-place.place-index _ c.args.own.now
    (slice_get-get_or c.args.places.now c.loop-place.place-index 0 c.loop-place-test.true) c.loop-place.invariant c.in_ok-pass_use.ensures

pub returns : goal.returns
returns c = uses_all c.args.sets.now.items c.loop-place.sets.items c.args.order.now.items c.loop-place.order.items c.args.uses.now c.args.places.now c.loop-place.place-index c.args.own.now c.loop-place-test.false c.loop-place.invariant
