-- Counts of faults, misses and reads: they never fall, and stay at the largest u64 once they reach it.
use Rattle.std.specs.Prelude.{◌≤◌, ◌+◌, ◌-◌, ◌^◌, ℕ, min}

-- the count after one more
abbrev pub one_more : ℕ → ℕ
one_more count = min (count + 1) (2 ^ 64 - 1)

-- a count rose in a call: it is greater after the call, or stands at the largest u64 after it
abbrev pub Rises : ℕ → ℕ → Type 0
Rises before now = min (before + 1) (2 ^ 64 - 1) ≤ now
