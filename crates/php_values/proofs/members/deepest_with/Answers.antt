use Rattle.std.proofs.Common.{◌≡◌, ◌+◌, ◌∷◌, ◌++◌, [], sym, subst, arith}
use Rattle.php_values.specs.Index.{HasDeepest}
use Rattle.php_values.proofs.DeepestLemmas.{few, deeper_push, flatter_push, equal_push}
use Rattle.php_values.proofs.members.deepest_with.Goals as goal

pub returns-then-depth-deepest : goal.returns-then-depth-deepest
returns-then-depth-deepest c = λ xs x short h e. deeper_push c.args.deepest.depth c.args.deepest.count xs x c.args.depth h e c.if-depth-deepest.true

pub returns-then-depth-deepest-2 : goal.returns-then-depth-deepest-2
returns-then-depth-deepest-2 c = λ xs x short h e. flatter_push c.args.deepest.depth c.args.deepest.count xs x c.args.depth h e c.if-depth-deepest-2.true

pub returns : goal.returns
returns c = λ xs x short h e.
    let count : c.saturating_add.result ≡ c.args.deepest.count + 1 = omega (arith, c.saturating_add.ensures, few c.args.deepest.depth c.args.deepest.count xs h, short) in
    subst (λ m. HasDeepest c.args.depth m (xs ++ x ∷ [])) (sym count) (equal_push c.args.deepest.depth c.args.deepest.count xs x c.args.depth h e (omega (arith, c.if-depth-deepest.false, c.if-depth-deepest-2.false)))
