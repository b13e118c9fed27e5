-- What is within a bound is within a larger one.
use Rattle.std.proofs.Common.{ℕ, ◌≤◌, Result, Ok, Err, arith}
use Rattle.std.specs.Result.{IfOk}
use Rattle.php_lexer.specs.declared.found.Found.{Found}
use Rattle.php_lexer.specs.declared.found.Found.TheVariants.{Item, Wrong, Over, Missing}
use Rattle.php_lexer.specs.Rows.{FoundWithin}

pub within_more : {X : Type 0} (most more : ℕ) (found : Found X) → most ≤ more → FoundWithin most found → FoundWithin more found
within_more most more (Item x n) h within = (within.0, omega (arith, within.1))
within_more most more (Wrong n) h within = (within.0, omega (arith, within.1))
within_more most more (Over n) h within = omega arith
within_more most more Missing h within = tt

pub ok_within_more : {X E : Type 0} (most more : ℕ) (r : Result (Found X) E) → most ≤ more → IfOk r (FoundWithin most) → IfOk r (FoundWithin more)
ok_within_more most more (Ok found) h within = within_more most more found h within
ok_within_more most more (Err e) h within = tt
