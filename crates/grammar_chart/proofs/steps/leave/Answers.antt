use Rattle.std.proofs.Common.{◌<◌, length, arith, refl}
use Rattle.grammar_chart.proofs.VisitLemmas.{exit_added}
use Rattle.grammar_chart.proofs.steps.leave.Goals as goal

pub returns-clause-adds : goal.returns-clause-adds
returns-clause-adds c =
    let within : c.args.at < length c.args.visits.now.items = omega (arith, c.args.visits.now.ok.0) in
    exit_added c.args.visits.now.items c.args.at c.args.exit c.index_mut.result.now (record { waiting = c.index_mut.result.now.waiting; exits = c.push.new.self }) within c.index_mut.ensures.value refl c.in_ok-push.ensures.ok
