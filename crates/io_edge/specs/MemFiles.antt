-- What files in memory are seen as.
use Rattle.std.specs.Prelude.{ℕ, List}
use Rattle.io_edge.specs.declared.mem_files.MemFiles.{MemFiles}

-- its files, each a name and its bytes
abbrev pub held_files : MemFiles → List (List ℕ × List ℕ)
held_files m = m.files.items

-- the numbers of the calls that are to fail
abbrev pub planned_faults : MemFiles → List ℕ
planned_faults m = m.fail.items

-- how many calls were made, which is the number of the next
abbrev pub calls_made : MemFiles → ℕ
calls_made m = m.calls

-- how often it failed
abbrev pub fault_count : MemFiles → ℕ
fault_count m = m.faults

-- how often it had no such name
abbrev pub miss_count : MemFiles → ℕ
miss_count m = m.misses
