use Rattle.std.proofs.Common.{◌≡◌, ◌+◌, ◌*◌, take}
use Rattle.plain_values.specs.Plain.{weight, weight_of}
use Rattle.php_values.specs.View.{plain_of, pairs_of}
use Rattle.value_operations.proofs.identity.+same.Given as goal

abbrev pub decreases-same : goal.decreases-same
decreases-same l = 2 * weight_of (plain_of l.a.now)

abbrev pub decreases-same_pairs : goal.decreases-same_pairs
decreases-same_pairs l = 2 * weight (pairs_of l.a.now) + 1

abbrev pub decreases-same_pair : goal.decreases-same_pair
decreases-same_pair l = 2 * weight_of (plain_of l.a.now.1) + 1

abbrev pub invariant-same_pairs-loop-place : goal.invariant-same_pairs-loop-place
invariant-same_pairs-loop-place l = pairs_of (take l.place l.a) ≡ pairs_of (take l.place l.b)
