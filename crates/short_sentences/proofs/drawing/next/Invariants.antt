use Rattle.short_sentences.specs.Queues.{waiting_count}
use Rattle.short_sentences.specs.Tables.{AreQueued}
use Rattle.short_sentences.proofs.drawing.next.Given as goal

abbrev pub invariant-loop-length : goal.invariant-loop-length
invariant-loop-length l = AreQueued l.drafts l.queue

abbrev pub decreases-loop-length : goal.decreases-loop-length
decreases-loop-length l = waiting_count l.queue
