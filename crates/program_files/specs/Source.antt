-- A source of files in a call: what it tells after the call, and its counts of faults, of misses and of reads, before the call and after
-- it.
use Rattle.std.specs.Prelude.{◌≡◌, ℕ, zero, suc}
use Rattle.io_edge.specs.Counts.{one_more, Rises}
use Rattle.io_edge.specs.Told.{Content}

-- what a source tells after a call, and its counts of faults, misses and reads before the call and (with a prime) after it
pub record SourceCall : Type 0 where
  pub content : Content
  pub faults : ℕ
  pub faults' : ℕ
  pub misses : ℕ
  pub misses' : ℕ
  pub reads : ℕ
  pub reads' : ℕ

-- such a call by its parts
abbrev pub source_call : Content → ℕ → ℕ → ℕ → ℕ → ℕ → ℕ → SourceCall
source_call content faults faults' misses misses' reads reads' =
    record { content = content; faults = faults; faults' = faults'; misses = misses; misses' = misses'; reads = reads; reads' = reads' }

-- a count after so many more
unfoldable pub so_many_more : ℕ → ℕ → ℕ
so_many_more zero count = count
so_many_more (suc n) count = one_more (so_many_more n count)

-- a count rose so many times, one behind another
unfoldable pub RisesBy : ℕ → ℕ → ℕ → Type 0
RisesBy zero before now = now ≡ before
RisesBy (suc n) before now = (between : ℕ) × RisesBy n before between × Rises between now
