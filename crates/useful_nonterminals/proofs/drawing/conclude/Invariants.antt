use Rattle.std.proofs.Common.{◌≡◌, ◌+◌, ℕ, List, length, if◌then◌else◌, nat_lt}
use Rattle.numbered_sets.specs.Chains.{AreChains}
use Rattle.numbered_sets.proofs.WalkLemmas.{HasWalked}
use Rattle.useful_nonterminals.specs.Work.{IsNoted, Concludes}
use Rattle.useful_nonterminals.proofs.drawing.conclude.Given as goal

abbrev pub invariant-loop-next : goal.invariant-loop-next
invariant-loop-next l = record {
  long : length l.marks.items ≡ length l.initial.marks.items;
  noted : IsNoted l.marks.items l.order.items;
  walk : (keys : List ℕ) → AreChains keys l.chains.last.items l.chains.before.items
      → HasWalked keys l.n l.place (λ asked. Concludes l.rules asked l.initial.marks.items l.initial.order.items l.marks.items l.order.items);
}

abbrev pub decreases-loop-next : goal.decreases-loop-next
decreases-loop-next l = if nat_lt l.place (length l.chains.before.items) then l.place + 1 else 0
