use Rattle.grammar_chart.specs.Kept.{lefts_of}
use Rattle.numbered_sets.proofs.ChainLemmas.{chains_fall}
use Rattle.grammar_chart.proofs.StepLemmas.{chart_opens}
use Rattle.grammar_chart.proofs.chart.open_nonterminal.Goals as goal

pub begin_all-requires-clause-falls : goal.begin_all-requires-clause-falls
begin_all-requires-clause-falls c = chains_fall _ _ _ c.requires.places

pub returns-clause-chart : goal.returns-clause-chart
returns-clause-chart c =
    let chart = c.args.chart.now in
    chart_opens c.args.productions.now chart.from chart.entries.keys chart.visits.items chart.begun.items chart.passages.keys chart.passages.keys chart.readings.items chart.opened chart.taken chart.left c.requires.chart c.begin_all.new.begun.items c.args.entry c.args.left c.count-entries.ensures.different c.requires.next c.requires.symbol (c.in_ok-begin_all.ensures (lefts_of c.args.productions.now) c.requires.places)
