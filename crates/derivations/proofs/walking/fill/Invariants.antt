use Rattle.std.proofs.Common.{◌≡◌, ◌<◌, ◌≤◌, ◌++◌, length, vec_capacity}
use Rattle.derivations.specs.Stacked.{pending, AreStacked}
use Rattle.derivations.proofs.walking.fill.Given as goal

abbrev pub invariant-loop-turn : goal.invariant-loop-turn
invariant-loop-turn l =
    record {
      made : l.chunk.items ++ pending l.forks l.stack.items ≡ pending l.forks l.fn.stack.items;
      filled : length l.chunk.items ≡ l._turn;
      stacked : AreStacked (length l.forks) 0 l.stack.items;
      room : length l.forks < vec_capacity l.stack;
      wide : 4096 ≤ vec_capacity l.chunk;
    }
