use Rattle.broken_readers.proofs.coarse.+bytes_then.Given as goal

abbrev pub decreases-bytes_then : goal.decreases-bytes_then
decreases-bytes_then l = l.count
