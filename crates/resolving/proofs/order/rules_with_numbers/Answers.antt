use Rattle.std.proofs.Common.{◌≡◌, ◌+◌, List, Some, slice_get, length, refl, sym, subst, arith}
use Rattle.std.proofs.lemmas.Option.{slice_get_read, slice_get-get_or}
use Rattle.op_system.specs.declared.system.OpRule.{OpRule}
use Rattle.op_bytes.proofs.EdgeLemmas.{rule_left_below, contained}
use Rattle.resolving.specs.declared.order.Ranked.{Ranked}
use Rattle.resolving.specs.Order.{AreRankedBelow}
use Rattle.resolving.proofs.OrderLemmas.{ranked_more}
use Rattle.resolving.proofs.order.rules_with_numbers.Goals as goal

pub loop-place-preserved : goal.loop-place-preserved
loop-place-preserved c =
    let s = c.args.s.now in
    let n = c.loop-place.place in
    let rule = c.rule-item.result in
    let among = slice_get_read c.as_slice-rule-items.result.now (length c.as_slice-rule-items.result.now) n rule refl c.loop-place-test.true c.rule-item.is in
    let at = subst (λ (rs : List OpRule). slice_get rs n ≡ Some rule) c.as_slice-rule-items.ensures.value among in
    let left = rule_left_below s.grammar.count s.ops.items rule s.rules_below (contained s.ops.items n rule at) in
    let number = slice_get-get_or c.args.numbers.now rule.left.0 0 (omega (arith, left, c.requires.size)) in
    subst (λ (xs : List Ranked). AreRankedBelow s c.args.numbers.now (n + 1) xs) (sym c.in_ok-push.ensures.items)
    (ranked_more s c.args.numbers.now n c.loop-place.ranked.items rule _ at number refl c.loop-place.invariant)
