use Rattle.script_runs.proofs.UnitRuns.{runs_so}
use Rattle.script_runs.proofs.running.run.Goals as goal

pub returns : goal.returns
returns c = runs_so _ c.args.program.now.functions.items _ c.args.program.now.main.items _ _ _ _ c.deref.ensures.value c.deref-2.ensures.value c.new-pending.ensures c.in_ok-end.ensures
