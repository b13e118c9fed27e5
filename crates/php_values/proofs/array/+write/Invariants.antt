use Rattle.std.proofs.Common.{◌+◌, ◌*◌, length}
use Rattle.php_values.proofs.array.+write.Given as goal

-- how much of the path is left, and which of the three functions comes before which
abbrev pub decreases-Value::write_if : goal.decreases-Value::write_if
decreases-Value::write_if l = 3 * length l.path.now

abbrev pub decreases-Array::write : goal.decreases-Array::write
decreases-Array::write l = 3 * length l.rest.now + 2

abbrev pub decreases-Members::write : goal.decreases-Members::write
decreases-Members::write l = 3 * length l.rest.now + 1
