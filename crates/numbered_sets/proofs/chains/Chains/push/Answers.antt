use Rattle.std.proofs.Common.{◌≡◌, ◌<◌, ◌+◌, ◌++◌, ◌∷◌, [], List, ℕ, length, set, Some, slice_get, refl, subst, sym, arith}
use Rattle.std.proofs.lemmas.Option.{slice_get_read}
use Rattle.numbered_sets.specs.Chains.{no_place, AreChains}
use Rattle.numbered_sets.proofs.ChainLemmas.{chains_more}
use Rattle.numbered_sets.proofs.chains.Chains.push.Goals as goal

pub returns-clause-chains : goal.returns-clause-chains
returns-clause-chains c = λ keys chains.
    let last = c.args.self.now.last.items in
    let before = c.args.self.now.before.items in
    let number = c.args.number in
    let place : c.len-place.result ≡ length before = omega (arith, c.len-place.ensures, c.args.self.now.before.ok.0) in
    let few : length before + 1 < no_place = omega (arith, c.args.self.now.before.ok.0, c.args.self.now.before.ok.1, c.args.self.now.before.small) in
    let is : slice_get last number ≡ Some c.index-before.result.now = slice_get_read last (length last) number c.index-before.result.now refl c.requires c.index-before.ensures in
    subst (λ (xs : List ℕ). AreChains (keys ++ number ∷ []) (set last number c.len-place.result) xs) (sym c.in_ok-push.ensures.items)
    (subst (λ (n : ℕ). AreChains (keys ++ number ∷ []) (set last number n) (before ++ c.index-before.result.now ∷ [])) (sym place)
    (chains_more keys number last before c.index-before.result.now few is chains))
