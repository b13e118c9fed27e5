use Rattle.std.specs.BinaryHeap.{heap_items}
use Rattle.short_sentences.proofs.QueueLemmas.{drawn_least, drawn_rest}
use Rattle.short_sentences.proofs.queue.Queue.draw.Goals as goal

pub returns-in-Some-clause-draws : goal.returns-in-Some-clause-draws
returns-in-Some-clause-draws c =
    record {
      least = drawn_least (λ r. r.0) c.in-Some.field-0 (heap_items c.args.self.now.heap) (c.in-Some.ensures.heap_order c.args.self.now.ordered).1;
      rest = drawn_rest (λ r. r.0) (heap_items c.args.self.now.heap) (heap_items c.pop.new.self) c.in-Some.field-0 c.in-Some.ensures.permutation;
    }
