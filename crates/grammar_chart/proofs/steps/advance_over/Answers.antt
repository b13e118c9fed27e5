use Rattle.grammar_chart.specs.Rules.{read_on}
use Rattle.grammar_chart.proofs.AddingLemmas.{adding_more, adding_all}
use Rattle.grammar_chart.proofs.steps.advance_over.Goals as goal

pub loop-exit-preserved : goal.loop-exit-preserved
loop-exit-preserved c =
    adding_more c.args.begun.now.items c.loop-exit.begun.items _ c.args.exits.now c.loop-exit.exit-index 0 (λ t. read_on c.args.one t) c.advanced.result c.loop-exit-test.true c.loop-exit.invariant c.advanced.ensures c.in_ok-push.ensures.items

pub returns : goal.returns
returns c = adding_all c.args.begun.now.items c.loop-exit.begun.items c.args.exits.now c.loop-exit.exit-index (λ t. read_on c.args.one t) c.loop-exit-test.false c.loop-exit.invariant
