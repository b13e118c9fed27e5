use Rattle.resolving.proofs.OrderLemmas.{read_rule, ready_at, may_at, added_more, all_added}
use Rattle.resolving.proofs.resolution.add_rules.Goals as goal

pub add_rule-requires-clause-ready : goal.add_rule-requires-clause-ready
add_rule-requires-clause-ready c =
    let n = c.loop-ranked.ranked-index in
    let w = read_rule c.args.s.now c.args.numbers.now c.args.order.now c.requires.order n _ c.index-rule.result.now c.index-rule.ensures c.loop-ranked-test.true in
    ready_at c.args.s.now c.args.numbers.now c.args.order.now c.requires.order n _ c.index-rule.result.now c.loop-ranked.draft w.0 w.1 c.loop-ranked.invariant

pub add_rule-requires-clause-next : goal.add_rule-requires-clause-next
add_rule-requires-clause-next c =
    let n = c.loop-ranked.ranked-index in
    let w = read_rule c.args.s.now c.args.numbers.now c.args.order.now c.requires.order n _ c.index-rule.result.now c.index-rule.ensures c.loop-ranked-test.true in
    may_at c.args.s.now c.args.numbers.now c.args.order.now c.requires.order n _ c.index-rule.result.now c.loop-ranked.draft w.0 w.1 c.loop-ranked.invariant

pub loop-ranked-preserved : goal.loop-ranked-preserved
loop-ranked-preserved c =
    let n = c.loop-ranked.ranked-index in
    let w = read_rule c.args.s.now c.args.numbers.now c.args.order.now c.requires.order n _ c.index-rule.result.now c.index-rule.ensures c.loop-ranked-test.true in
    added_more c.args.s.now c.args.numbers.now c.args.order.now c.requires.order n _ c.index-rule.result.now c.loop-ranked.draft c.add_rule.new.draft w.0 w.1 c.loop-ranked.invariant c.in-Ok.ensures.adds

pub returns-clause-added : goal.returns-clause-added
returns-clause-added c = all_added c.args.s.now c.args.numbers.now c.args.order.now c.requires.order c.loop-ranked.ranked-index c.loop-ranked.draft c.loop-ranked-test.false c.loop-ranked.invariant
