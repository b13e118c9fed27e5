use Rattle.std.proofs.Common.{[], ℕ, List, subst, sym, arith}
use Rattle.std.proofs.lemmas.List.Elements.{All-nil}
use Rattle.numbered_sets.specs.Chains.{AreChains}
use Rattle.numbered_sets.proofs.chains.chains_of.Goals as goal

pub loop-key-init : goal.loop-key-init
loop-key-init c =
    let widened = c.in_ok-widen.ensures.chains [] (All-nil _) c.new-chains.ensures.chains in
    record {
      len = omega (arith, c.in_ok-widen.ensures.len, c.new-chains.ensures.len);
      chains = subst (λ (xs : List ℕ). AreChains [] c.widen.new.self.last.items xs) (sym c.in_ok-reserve.ensures.items) widened;
    }
