use Rattle.std.proofs.Common.{List, ℕ, subst, sym}
use Rattle.numbered_sets.specs.Chains.{AreChains}
use Rattle.numbered_sets.proofs.ChainLemmas.{chains_wider}
use Rattle.numbered_sets.proofs.chains.Chains.add.Goals as goal

pub returns-clause-chains : goal.returns-clause-chains
returns-clause-chains c = λ keys below chains.
    subst (λ (xs : List ℕ). AreChains keys xs c.args.self.now.before.items) (sym c.in_ok-push.ensures.items)
    (chains_wider keys c.args.self.now.last.items c.args.self.now.before.items below chains)
