use Rattle.std.proofs.Common.{◌≡◌, length, arith}
use Rattle.grammar_chart.proofs.BeginLemmas.{chart_begins}
use Rattle.grammar_chart.proofs.chart.begin.Goals as goal

pub returns-clause-chart : goal.returns-clause-chart
returns-clause-chart c = λ ps.
    let es = c.enter.new.entries.keys in
    let vs = c.enter.new.visits in
    let long : length vs.items ≡ length es = omega (arith, vs.ok.0, c.in_ok-enter.ensures.len) in
    let chart = chart_begins ps c.args.from c.new-entries.result.keys es c.new-visits.result.items vs.items c.in_ok-enter.field-0 c.new-entries.ensures.empty c.new-visits.ensures.items long c.in_ok-enter.ensures.number c.in_ok-enter.ensures.adds c.in_ok-enter.ensures.grows in
    rw (c.new.ensures.items, c.new-2.ensures.empty, c.new-3.ensures.items) chart
