use Rattle.std.proofs.Common.{◌≡◌, ◌<◌, ◌≤◌, length, vec_capacity}
use Rattle.derivations.specs.Stacked.{pending, AreStacked}
use Rattle.derivations.proofs.WriteLemmas.{SoFar}
use Rattle.derivations.proofs.sentence_writing.put_first.Given as goal

abbrev pub invariant-parts : goal.invariant-parts
invariant-parts g l =
    record {
      stacked : AreStacked (length l.forks) 0 l.stack.items;
      room : length l.forks < vec_capacity l.stack;
      wide : 4096 ≤ vec_capacity l.chunk;
      so_far : SoFar (g.S.Sink.written l.fn.sink) (g.S.Sink.written l.sink) (pending l.forks l.fn.stack.items) (pending l.forks l.stack.items) l.most l.left;
      faults : g.S.Sink.faults l.sink ≡ g.S.Sink.faults l.fn.sink;
    }

abbrev pub decreases-parts : goal.decreases-parts
decreases-parts g l = l.left
