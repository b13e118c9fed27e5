use Rattle.grammar_chart.proofs.StepLemmas.{chart_leaves, chart_within}
use Rattle.grammar_chart.proofs.chart.let_through.Goals as goal

pub returns-clause-chart : goal.returns-clause-chart
returns-clause-chart c =
    let chart = c.args.chart.now in
    let new = c.leave_entry.new in
    chart_leaves c.args.productions.now chart.from chart.entries.keys new.entries.keys chart.visits.items new.visits.items chart.begun.items new.begun.items chart.passages.keys chart.readings.items chart.opened chart.taken chart.left c.requires.chart c.args.one c.requires.next c.in_ok-leave_entry.ensures c.count-entries.ensures.different c.count-passages.ensures.different

pub leave_entry-requires-clause-within : goal.leave_entry-requires-clause-within
leave_entry-requires-clause-within c =
    let chart = c.args.chart.now in
    chart_within c.args.productions.now chart.from chart.entries.keys chart.visits.items chart.begun.items chart.passages.keys chart.readings.items chart.opened chart.taken chart.left c.requires.chart
