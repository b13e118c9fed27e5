use Rattle.std.proofs.Common.{map}
use Rattle.text_base.specs.declared.letter.Letter.TheVariants.{OfByte}
use Rattle.fst_core.specs.Layers.{TableGives}
use Rattle.fst_core.proofs.RunLemmas.{first_layer, layer_more, layer_all}
use Rattle.fst_core.proofs.layers.applies.Goals as goal

pub next_layer-requires : goal.next_layer-requires
next_layer-requires c = rw c.as_slice.ensures.value c.in_ok-index.ensures

pub loop-byte-init : goal.loop-byte-init
loop-byte-init c =
    first_layer c.args.table.now c.new-layer.result.keys c.add_reached.new.next.keys c.args.input.now c.args.output.now c.new-layer.ensures.empty c.in_ok-add_reached.ensures

pub loop-byte-preserved : goal.loop-byte-preserved
loop-byte-preserved c =
    layer_more c.args.table.now c.loop-byte.layer.keys c.in_ok-layer.layer.keys c.loop-byte.byte-index c.args.input.now c.args.output.now (TableGives c.args.table.now c.args.table.now.start c.args.input.now (map OfByte c.args.output.now)) c.loop-byte-test.true c.loop-byte.invariant
    (rw c.as_slice-in-loop-byte.ensures.keys at c.in_ok-layer.ensures)

pub returns : goal.returns
returns c =
    layer_all c.args.table.now c.loop-byte.layer.keys c.loop-byte.byte-index c.args.input.now c.args.output.now c.stops_at.result c.loop-byte-test.false c.loop-byte.invariant c.stops_at.ensures
