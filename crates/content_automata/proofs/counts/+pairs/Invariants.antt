use Rattle.std.proofs.Common.{◌≡◌, ◌≤◌, ◌+◌, drop, length}
use Rattle.dtd_model.specs.Table.{models_in}
use Rattle.content_automata.specs.Counts.{ahead, pairs_in_turn, pairs_of_each}
use Rattle.content_automata.proofs.counts.+pairs.Given as goal

abbrev pub invariant-pairs_in_turn-parts : goal.invariant-pairs_in_turn-parts
invariant-pairs_in_turn-parts l =
    record {
      within : l.left ≤ length l.parts;
      sum : l.sum ≡ pairs_in_turn (models_in (drop l.left l.parts)) l.behind;
      next : l.next ≡ ahead (models_in (drop l.left l.parts)) l.behind;
    }

abbrev pub decreases-pairs_in_turn-parts : goal.decreases-pairs_in_turn-parts
decreases-pairs_in_turn-parts l = l.left

abbrev pub invariant-pairs_of_each-loop-part : goal.invariant-pairs_of_each-loop-part
invariant-pairs_of_each-loop-part l = l.sum + pairs_of_each (models_in (drop l.part-index l.parts)) l.behind ≡ pairs_of_each (models_in l.parts) l.behind
