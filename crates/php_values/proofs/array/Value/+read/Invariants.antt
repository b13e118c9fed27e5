use Rattle.std.proofs.Common.{length}
use Rattle.php_values.proofs.array.Value.+read.Given as goal

-- how much of the path is left
abbrev pub decreases-read : goal.decreases-read
decreases-read l = length l.path.now
