use Rattle.std.proofs.Common.{◌≡◌, length, take}
use Rattle.numbered_sets.specs.Chains.{AreChains}
use Rattle.numbered_sets.proofs.chains.chains_of.Given as goal

abbrev pub invariant-loop-key : goal.invariant-loop-key
invariant-loop-key l = record {
  len : length l.chains.last.items ≡ l.count;
  chains : AreChains (take l.key-index l.keys) l.chains.last.items l.chains.before.items;
}
