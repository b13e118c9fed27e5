use Rattle.broken_readers.proofs.coarse.+same_bytes.Given as goal

abbrev pub decreases-same_bytes : goal.decreases-same_bytes
decreases-same_bytes l = l.count
