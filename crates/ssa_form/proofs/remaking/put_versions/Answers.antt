use Rattle.std.proofs.Common.{◌≡◌, ◌+◌, ℕ, suc, length, subst, arith}
use Rattle.ssa_form.specs.Replacing.{AreHeld}
use Rattle.ssa_form.proofs.remaking.put_versions.Goals as goal

pub loop-place-preserved : goal.loop-place-preserved
loop-place-preserved c flow are asked =
    let next : suc c.loop-place.place ≡ c.loop-place.place + 1 = omega arith in
    subst (λ (n : ℕ). AreHeld flow c.args.placed.asks.now.keys c.args.old.now c.put_version.new.versions c.put_version.new.asks.keys n) next
    (c.in_ok-put_version.ensures flow are asked (c.loop-place.invariant flow are asked))

pub returns : goal.returns
returns c flow are asked =
    let all : c.loop-place.place ≡ length c.args.old.now.entries = omega arith in
    subst (λ (n : ℕ). AreHeld flow c.args.placed.asks.now.keys c.args.old.now c.loop-place.versions c.loop-place.asks.keys n) all (c.loop-place.invariant flow are asked)
