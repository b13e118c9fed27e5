use Rattle.ssa_form.proofs.JoinLemmas.{asks_more}
use Rattle.ssa_form.proofs.joins.ask_all.Goals as goal

pub loop-version-preserved : goal.loop-version-preserved
loop-version-preserved c =
    asks_more c.args.asks.now.keys c.loop-version.asks.keys c.ask.new.asks.keys c.args.row.now c.loop-version.version-index _ c.loop-version-test.true c.loop-version.invariant c.in_ok-ask.ensures.kept
    c.in_ok-ask.ensures.keeps c.in_ok-ask.ensures.adds
