use Rattle.std.specs.BinaryHeap.{heap_items}
use Rattle.short_sentences.proofs.QueueLemmas.{put_there, put_keeps}
use Rattle.short_sentences.proofs.queue.Queue.put.Goals as goal

pub returns : goal.returns
returns c =
    record {
      has = put_there (λ r. r.0) (heap_items c.args.self.now.heap) (heap_items c.push.new.self) _ c.in_ok-push.ensures.permutation;
      keeps = put_keeps (λ r. r.0) (heap_items c.args.self.now.heap) (heap_items c.push.new.self) _ c.in_ok-push.ensures.permutation;
    }
