use Rattle.std.proofs.Common.{◌≡◌, ◌+◌, ◌-◌, set, sym, subst, arith}
use Rattle.php_values.specs.Index.{HasDeepest}
use Rattle.php_values.proofs.DeepestLemmas.{few, deeper_set, both_set, neither_set, more_set, fewer_set}
use Rattle.php_values.proofs.members.deepest_after.Goals as goal

pub returns-then-after-deepest : goal.returns-then-after-deepest
returns-then-after-deepest c = λ xs place old new l s h b a e.
    subst (HasDeepest c.args.after 1) (sym e) (deeper_set c.args.deepest.depth c.args.deepest.count xs place c.args.before c.args.after old new l h b a c.if-after-deepest.true)

pub returns-then-after-deepest-2 : goal.returns-then-after-deepest-2
returns-then-after-deepest-2 c = λ xs place old new l s h b a e.
    subst (HasDeepest c.args.deepest.depth c.args.deepest.count) (sym e) (both_set c.args.deepest.depth c.args.deepest.count xs place c.args.before c.args.after old new l h b a c.if-before-deepest.true c.if-after-deepest-2.true)

pub returns-then-deepest-gt1 : goal.returns-then-deepest-gt1
returns-then-deepest-gt1 c = λ xs place old new l s h b a e.
    subst (HasDeepest c.args.deepest.depth (c.args.deepest.count - 1)) (sym e) (fewer_set c.args.deepest.depth c.args.deepest.count xs place c.args.before c.args.after old new l h b a c.if-before-deepest.true (omega (arith, c.if-after-deepest.false, c.if-after-deepest-2.false)) c.if-deepest-gt1.true)

pub returns-then-after-deepest-3 : goal.returns-then-after-deepest-3
returns-then-after-deepest-3 c = λ xs place old new l s h b a e.
    let count : c.saturating_add.result ≡ c.args.deepest.count + 1 = omega (arith, c.saturating_add.ensures, few c.args.deepest.depth c.args.deepest.count xs h, s) in
    subst (HasDeepest c.args.after c.saturating_add.result) (sym e) (subst (λ m. HasDeepest c.args.after m (set xs place new)) (sym count) (more_set c.args.deepest.depth c.args.deepest.count xs place c.args.before c.args.after old new l h b a c.if-before-deepest.false c.if-after-deepest-3.true))

pub returns : goal.returns
returns c = λ xs place old new l s h b a e.
    subst (HasDeepest c.args.deepest.depth c.args.deepest.count) (sym e) (neither_set c.args.deepest.depth c.args.deepest.count xs place c.args.before c.args.after old new l h b a c.if-before-deepest.false (omega (arith, c.if-after-deepest.false, c.if-after-deepest-3.false)))
