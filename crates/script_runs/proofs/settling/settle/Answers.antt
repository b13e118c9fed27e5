use Rattle.script_runs.proofs.SettleLemmas.{comes_first, comes_on, comes_less, comes_to}
use Rattle.script_runs.proofs.settling.settle.Goals as goal

pub loop-further-init : goal.loop-further-init
loop-further-init c = comes_first _ _ _ _ c.requires

pub loop-further-preserved : goal.loop-further-preserved
loop-further-preserved c = comes_on _ _ _ _ _ _ _ _ _ c.loop-further.invariant c.in_ok-further.ensures c.in-On.is

pub loop-further-smaller : goal.loop-further-smaller
loop-further-smaller c = comes_less _ _ _ _ _ _ _ c.in_ok-further.ensures c.in-On.is

pub returns-in-At : goal.returns-in-At
returns-in-At c = comes_to _ _ _ _ _ _ _ _ _ c.loop-further.invariant c.in_ok-further.ensures c.in-At.is
