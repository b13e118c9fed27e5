use Rattle.std.proofs.Common.{length, refl, get_or}
use Rattle.std.proofs.lemmas.Option.{slice_get_read}
use Rattle.fst_core.proofs.LayerLemmas.{tried_more, tried_all}
use Rattle.fst_core.proofs.layers.try_moves.Goals as goal

pub loop-place-preserved : goal.loop-place-preserved
loop-place-preserved c =
    let moves = c.args.table.now.moves.items in
    let place = get_or c.args.places.now c.loop-place.place-index 0 in
    let found = slice_get_read moves (length moves) place c.index.result.now refl (c.requires c.loop-place.place-index 0 c.loop-place-test.true) c.index.ensures in
    tried_more c.args.table.now c.args.next.now.keys c.loop-place.next.keys c.try_move.new.next.keys c.args.places.now c.loop-place.place-index c.index.result.now c.args.written c.args.byte c.args.output.now c.loop-place-test.true c.loop-place.invariant found c.in_ok-try_move.ensures

pub returns : goal.returns
returns c =
    tried_all c.args.table.now c.args.next.now.keys c.loop-place.next.keys c.args.places.now c.loop-place.place-index c.args.written c.args.byte c.args.output.now c.loop-place-test.false c.loop-place.invariant
