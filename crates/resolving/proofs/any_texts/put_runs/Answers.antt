use Rattle.std.proofs.Common.{arith}
use Rattle.resolving.proofs.AnyLemmas.{runs_more, runs_done}
use Rattle.resolving.proofs.any_texts.put_runs.Goals as goal

pub loop-next-preserved : goal.loop-next-preserved
loop-next-preserved c = (
  c.in_ok-next.ensures.within,
  runs_more c.args.texts c.args.set.now 0 c.loop-next.next c.in_ok-next.next c.args.draft.now c.loop-next.draft c.put_run.new.draft c.loop-next.invariant.1 c.in_ok-next.ensures.puts,
)

pub returns : goal.returns
returns c = runs_done c.args.texts c.args.set.now c.loop-next.next c.args.draft.now c.loop-next.draft (omega (arith, c.loop-next-test.false)) c.loop-next.invariant.0 c.loop-next.invariant.1
