use Rattle.std.proofs.Common.{◌≡◌, length}
use Rattle.std.specs.Prelude.{not}
use Rattle.std.specs.List.{list_all}
use Rattle.plain_values.specs.Walks as walks
use Rattle.php_values.specs.View.{plain_list}
use Rattle.expr_evaluator.proofs.rows.none_is_null.Given as goal

abbrev pub invariant-loop-value : goal.invariant-loop-value
invariant-loop-value l = list_all (λ v. not (walks.is_null v)) (plain_list l.values) ≡ list_all (λ v. not (walks.is_null v)) (plain_list l.rest)

abbrev pub decreases-loop-value : goal.decreases-loop-value
decreases-loop-value l = length l.rest
