use Rattle.std.proofs.Common.{◌≡◌, ◌++◌, length, map}
use Rattle.broken_readers.specs.Starts.{silent_way}
use Rattle.broken_readers.proofs.starting.silent_ways.Given as goal

abbrev pub invariant-loop-first : goal.invariant-loop-first
invariant-loop-first l = l.ways.items ++ map (silent_way l.numbers) l.left ≡ map (silent_way l.numbers) l.fn.rows

abbrev pub decreases-loop-first : goal.decreases-loop-first
decreases-loop-first l = length l.left
