use Rattle.ssa_form.specs.Views.{version_seen}
use Rattle.ssa_form.proofs.ReplacingLemmas.{replaces_on}
use Rattle.ssa_form.proofs.places.settled.Goals as goal

pub loop-preserved : goal.loop-preserved
loop-preserved c flow are =
    replaces_on flow c.args.asks.now.keys (version_seen c.args.version) (version_seen c.loop.found) (version_seen c.place_of-next.result) (c.loop.invariant flow are) (c.place_of-next.ensures flow are)
