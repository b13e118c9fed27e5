use Rattle.std.proofs.Common.{◌≡◌, ◌<◌, ◌+◌, ℕ, List, length, All}
use Rattle.numbered_sets.specs.Chains.{AreChains}
use Rattle.numbered_sets.proofs.chains.Chains.widen.Given as goal

abbrev pub invariant-loop : goal.invariant-loop
invariant-loop l = record {
  len : length l.self.last.items ≡ length l.fn.self.last.items + l.counter;
  chains : (keys : List ℕ) → All (λ k. k < length l.fn.self.last.items) keys → AreChains keys l.fn.self.last.items l.fn.self.before.items
      → AreChains keys l.self.last.items l.self.before.items;
}
