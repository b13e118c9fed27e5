use Rattle.std.proofs.Common.{◌≡◌, List, Some, slice_get, length, refl, subst}
use Rattle.std.proofs.lemmas.Option.{slice_get_read}
use Rattle.grammar_image.proofs.LastLemmas.{lasts_more}
use Rattle.grammar_image.proofs.ends.lasts_of.Goals as goal

pub loop-number-preserved : goal.loop-number-preserved
loop-number-preserved g c =
    let xs = c.as_slice-state-items.result.now in
    let n = c.loop-number.number in
    let at = slice_get_read xs (length xs) n c.state-item.result refl c.loop-number-test.true c.state-item.is in
    let here : slice_get c.args.states.now.keys n ≡ Some c.state-item.result = subst (λ (ys : List _). slice_get ys n ≡ Some c.state-item.result) c.as_slice-state-items.ensures.keys at in
    lasts_more (g.M.Machine.ends c.args.machine.now) c.args.states.now.keys n c.state-item.result c.in_ok-outs.outs.items c.loop-number.lasts.items c.add_lasts.new.lasts.items here c.in_ok-outs.ensures.exact c.in_ok-outs.ensures.fixed c.in_ok-add_lasts.ensures c.loop-number.invariant
