use Rattle.grammar_chart.proofs.StepLemmas.{chart_whole}
use Rattle.grammar_chart.proofs.chart.take_up_whole.Goals as goal

pub returns-clause-chart : goal.returns-clause-chart
returns-clause-chart c =
    let chart = c.args.chart.now in
    chart_whole c.args.productions.now chart.from chart.entries.keys chart.visits.items chart.begun.items chart.passages.keys c.finish.new.passages.keys chart.readings.items chart.opened chart.taken chart.left c.args.one c.requires.chart c.requires.next c.requires.whole c.in_ok-finish.ensures
