use Rattle.std.proofs.Common.{List, ℕ, ap, length, subst, sym, arith}
use Rattle.numbered_sets.specs.Chains.{AreChains}
use Rattle.numbered_sets.proofs.ChainLemmas.{all_below}
use Rattle.numbered_sets.proofs.chains.Chains.widen.Goals as goal

pub loop-init : goal.loop-init
loop-init c =
    let same = c.in_ok-reserve.ensures.items in
    record {
      len = (let l = ap (λ (xs : List ℕ). length xs) same in omega (arith, l));
      chains = λ keys below chains. subst (λ (xs : List ℕ). AreChains keys xs c.args.self.now.before.items) (sym same) chains;
    }

pub loop-preserved : goal.loop-preserved
loop-preserved c =
    let i = c.loop.invariant in
    let e = c.in_ok-add.ensures in
    record {
      len = omega (arith, i.len, e.len);
      chains = λ keys below chains. e.chains keys (all_below keys _ _ (omega (arith, i.len)) below) (i.chains keys below chains);
    }
