use Rattle.std.proofs.Common.{sym}
use Rattle.ssa_form.proofs.RemakingLemmas.{held_more}
use Rattle.ssa_form.proofs.remaking.put_version.Goals as goal

pub returns-in_ok-put : goal.returns-in_ok-put
returns-in_ok-put c flow are asked so =
    held_more flow c.args.placed.asks.now.keys c.args.old.now c.args.versions.now c.put.new.table c.args.asks.now.keys c.ask.new.asks.keys c.args.place c.in-Some.point c.in-Some.slot c.in-Some.version c.settled-kept.result
    (sym c.in-Some.ensures.entry) c.in-Some.ensures.held (c.settled-kept.ensures flow are) c.in_ok-ask.ensures.kept c.in_ok-ask.ensures.keeps c.in_ok-ask.ensures.adds c.in_ok-put.ensures asked so
