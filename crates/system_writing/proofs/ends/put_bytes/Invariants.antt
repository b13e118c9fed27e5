use Rattle.std.proofs.Common.{length}
use Rattle.system_writing.proofs.PutLemmas.{SoFar}
use Rattle.system_writing.proofs.ends.put_bytes.Given as goal

abbrev pub invariant-loop-last : goal.invariant-loop-last
invariant-loop-last l = SoFar l.initial.lines l.lines l.bytes l.rest l.fn.behind l.symbol

abbrev pub decreases-loop-last : goal.decreases-loop-last
decreases-loop-last l = length l.rest
