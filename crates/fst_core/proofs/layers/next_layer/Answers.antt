use Rattle.std.proofs.Common.{List, [], sym, subst}
use Rattle.fst_core.specs.declared.layers.Reached.{Reached}
use Rattle.fst_core.proofs.LayerLemmas.{Followed, followed_none, followed_more, followed_all}
use Rattle.fst_core.proofs.layers.next_layer.Goals as goal

pub loop-reached-init : goal.loop-reached-init
loop-reached-init c =
    subst (λ (x : List Reached). Followed c.args.table.now [] x c.args.byte c.args.output.now) (sym c.new-next.ensures.empty) (followed_none c.args.table.now c.args.byte c.args.output.now)

pub loop-reached-preserved : goal.loop-reached-preserved
loop-reached-preserved c =
    let any : Reached = record { state = 0; written = 0 } in
    followed_more c.args.table.now c.args.layer.now c.loop-reached.next.keys c.follow.new.next.keys c.loop-reached.reached-index any c.args.byte c.args.output.now c.loop-reached-test.true c.loop-reached.invariant c.in_ok-follow.ensures

pub returns : goal.returns
returns c =
    followed_all c.args.table.now c.args.layer.now c.loop-reached.next.keys c.loop-reached.reached-index c.args.byte c.args.output.now c.loop-reached-test.false c.loop-reached.invariant
