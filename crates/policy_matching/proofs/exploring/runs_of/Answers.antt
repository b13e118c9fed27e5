use Rattle.std.proofs.Common.{◌<◌, ◌+◌, ℕ, List, sym, subst, arith}
use Rattle.derivatives.specs.Standing.{expr_at}
use Rattle.derivatives.proofs.BehindLemmas.{grows_on}
use Rattle.policy_matching.specs.declared.rows.Run.{Run}
use Rattle.policy_matching.specs.Outside.{AreRuns}
use Rattle.policy_matching.proofs.StateLemmas.{reaches_both, runs_turn}
use Rattle.policy_matching.proofs.exploring.runs_of.Goals as goal

pub loop-next-preserved : goal.loop-next-preserved
loop-next-preserved c =
    let o = c.args.arena.now in
    let a = c.loop-next.arena in
    let b = c.next_run.new.arena in
    let old = c.loop-next.places.keys in
    let new = c.next_run.new.places.keys in
    let run = c.in_ok-run.run' in
    let e = expr_at o c.args.place in
    let before = c.loop-next.invariant in
    let behind = c.in_ok-run.ensures in
    let small : run.last < 256 = omega arith in
    let runs : AreRuns b new e (run.last + 1) c.push.new.self.items =
    subst (λ (rs : List Run). AreRuns b new e (run.last + 1) rs) (sym c.in_ok-push.ensures.items)
    (runs_turn o a b old new c.args.place c.loop-next.next c.loop-next.runs.items run c.requires before.grows behind.grows behind.reaches.keeps behind.last before.runs behind.leads) in
    record {
      most = (let is = c.from-next.ensures in omega (arith, small, is));
      grows = grows_on o a b before.grows behind.grows;
      reaches = reaches_both o a b c.args.places.now.keys old new c.args.place before.grows c.requires before.reaches behind.reaches;
      runs = subst (λ (n : ℕ). AreRuns b new e (n + 1) c.push.new.self.items) (sym c.from-next.ensures) runs;
    }
