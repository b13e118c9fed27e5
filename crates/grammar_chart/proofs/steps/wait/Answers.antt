use Rattle.std.proofs.Common.{◌<◌, length, arith, refl}
use Rattle.grammar_chart.proofs.VisitLemmas.{waiting_added}
use Rattle.grammar_chart.proofs.steps.wait.Goals as goal

pub returns-clause-adds : goal.returns-clause-adds
returns-clause-adds c =
    let within : c.args.at < length c.args.visits.now.items = omega (arith, c.args.visits.now.ok.0) in
    waiting_added c.args.visits.now.items c.args.at c.args.one c.index_mut.result.now (record { waiting = c.push.new.self; exits = c.index_mut.result.now.exits }) within c.index_mut.ensures.value refl c.in_ok-push.ensures.ok
