use Rattle.std.proofs.Common.{◌+◌, ◌*◌, length}
use Rattle.php_values.proofs.array.+let_go.Given as goal

-- how much of the path is left, and which of the three functions comes before which
abbrev pub decreases-Value::let_go : goal.decreases-Value::let_go
decreases-Value::let_go l = 3 * length l.path.now

abbrev pub decreases-Array::let_go : goal.decreases-Array::let_go
decreases-Array::let_go l = 3 * length l.rest.now + 2

abbrev pub decreases-Members::let_go : goal.decreases-Members::let_go
decreases-Members::let_go l = 3 * length l.rest.now + 1
