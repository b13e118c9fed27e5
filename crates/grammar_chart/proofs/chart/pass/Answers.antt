use Rattle.grammar_chart.proofs.StepLemmas.{chart_passes}
use Rattle.grammar_chart.proofs.chart.pass.Goals as goal

pub returns-clause-chart : goal.returns-clause-chart
returns-clause-chart c = λ ps h.
    let chart = c.args.chart.now in
    chart_passes ps chart.from chart.entries.keys chart.visits.items chart.begun.items chart.passages.keys chart.passages.keys chart.readings.items chart.opened chart.taken chart.left h c.args.entry c.requires.next c.requires.symbol
