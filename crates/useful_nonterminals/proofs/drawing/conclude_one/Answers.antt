use Rattle.std.proofs.Common.{◌≡◌, Some, slice_get, sym}
use Rattle.useful_nonterminals.proofs.DrawLemmas.{concludes_result, marked_read, rule_below}
use Rattle.useful_nonterminals.proofs.drawing.conclude_one.Goals as goal

pub returns : goal.returns
returns c =
    let at : slice_get c.args.rules.now c.args.place ≡ Some c.in-Some.rule = sym c.in-Some.ensures in
    let e = c.mark.ensures in
    let below = rule_below _ _ _ _ c.requires.below at in
    concludes_result c.args.rules.now c.mark.result c.args.place c.in-Some.rule c.args.marks.now.items c.mark.new.marks.items c.args.order.now.items c.mark.new.order.items c.requires.noted at
    (marked_read c.args.marks.now.items c.in-Some.rule.first c.index.result.now below.first c.index.ensures c.if-not-index.false)
    (marked_read c.args.marks.now.items c.in-Some.rule.second c.index-2.result.now below.second c.index-2.ensures c.if-not-index-2.false)
    e.long e.noted e.keeps e.adds e.listed
