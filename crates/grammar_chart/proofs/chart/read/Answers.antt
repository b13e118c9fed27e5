use Rattle.grammar_chart.proofs.AddingLemmas.{contains_at}
use Rattle.grammar_chart.proofs.ReadLemmas.{chart_reads}
use Rattle.grammar_chart.proofs.chart.read.Goals as goal

pub returns-clause-chart : goal.returns-clause-chart
returns-clause-chart c = λ ps h.
    let chart = c.args.chart.now in
    chart_reads ps chart.from chart.entries.keys chart.visits.items chart.begun.items chart.passages.keys c.number.new.keys.keys chart.readings.items c.push.new.self.items chart.opened chart.taken chart.left c.args.reading h c.requires.entered c.in_ok-push.ensures.items c.requires.low c.requires.high c.in_ok-number.ensures.keeps c.in_ok-number.ensures.adds

pub returns-clause-passage : goal.returns-clause-passage
returns-clause-passage c = contains_at _ _ _ c.in_ok-number.ensures.number
