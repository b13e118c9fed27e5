-- Going on to the next height.
use Rattle.std.specs.Prelude.{◌+◌, ℕ, if◌then◌else◌, nat_lt, length}
use Rattle.summary_decision.specs.declared.table.Table.{Table}

-- where all pairs before the bound are taken up, all pairs that are found so far come before the bound
abbrev pub raised : {S : Type 0} → ℕ → Table S → Table S
raised n t = if nat_lt n t.bound then t else record t { height = t.height + 1; bound = length t.entries.keys }
