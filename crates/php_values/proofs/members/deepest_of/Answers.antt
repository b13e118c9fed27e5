use Rattle.std.proofs.Common.{◌<◌, ◌^◌, ◌∷◌, ◌++◌, [], take, length, rules, sym, ap, ◌∙◌, subst, arith}
use Rattle.std.proofs.lemmas.List.{take_more, length-take-le}
use Rattle.php_values.specs.Index.{HasDeepest}
use Rattle.php_values.proofs.members.deepest_of.Goals as goal

pub loop-pair-preserved : goal.loop-pair-preserved
loop-pair-preserved c =
    let xs = c.args.pairs.now in
    let i = c.loop-pair.pair-index in
    let x = c.pair-item.result in
    let long : length xs < 2 ^ 63 = search rules in
    let short : length (take i xs) < 2 ^ 63 = omega (arith, length-take-le i xs (omega (arith, c.loop-pair-test.true)), c.loop-pair-test.true, long) in
    subst (HasDeepest c.deepest_with-deepest.result.depth c.deepest_with-deepest.result.count) (ap (λ y. take i xs ++ y ∷ []) c.pair-item.is ∙ sym (take_more xs i x c.loop-pair-test.true)) (c.deepest_with-deepest.ensures (take i xs) x short c.loop-pair.invariant c.depth.ensures.depth)
