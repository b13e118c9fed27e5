use Rattle.grammar_chart.proofs.StepLemmas.{chart_awaits}
use Rattle.grammar_chart.proofs.chart.take_up_waiting.Goals as goal

pub returns-clause-chart : goal.returns-clause-chart
returns-clause-chart c =
    let chart = c.args.chart.now in
    let new = c.await_symbol.new in
    chart_awaits c.args.productions.now chart.from chart.entries.keys new.entries.keys chart.visits.items new.visits.items chart.begun.items new.begun.items chart.passages.keys chart.readings.items chart.opened chart.taken chart.left c.requires.chart c.args.one c.args.entry c.requires.next c.requires.awaited c.in_ok-await_symbol.ensures
