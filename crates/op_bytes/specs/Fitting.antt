-- What rules add are bytes, so far. No public clause cites this.
use Rattle.std.specs.Prelude.{◌≡◌, ◌<◌, ℕ, List, Some, slice_get}
use Rattle.op_system.specs.declared.system.OpRule.{OpRule}
use Rattle.least_sets.specs.Bytes.{Adds}

-- what the first rules add
abbrev pub AreFittingRules : List OpRule → ℕ → Type 0
AreFittingRules rules n = (k : ℕ) (rule : OpRule) (byte : ℕ) → k < n → slice_get rules k ≡ Some rule → Adds rule.op byte → byte < 256
