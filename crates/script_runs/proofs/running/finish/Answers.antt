use Rattle.std.proofs.Common.{arith, ◌≡◌, ◌-◌, suc}
use Rattle.script_runs.proofs.UnitRuns.{way_begins, way_ends, way_spent, may_take, way_goes_on}
use Rattle.script_runs.proofs.running.finish.Goals as goal

pub loop-end-init : goal.loop-end-init
loop-end-init c = way_begins _ _ _ _ _ c.requires

pub settle-requires : goal.settle-requires
settle-requires c = c.loop-end.invariant.ready

pub returns-in-Over : goal.returns-in-Over
returns-in-Over c = way_ends _ _ _ _ _ _ _ _ _ _ _ c.loop-end.invariant c.in_ok-end.ensures c.in-Over.is

pub returns-then-left-eq0 : goal.returns-then-left-eq0
returns-then-left-eq0 c = way_spent _ _ _ _ _ _ _ _ _ _ _ c.loop-end.invariant c.in_ok-end.ensures c.in-Wants.is c.if-left-eq0.true

pub go_on-requires : goal.go_on-requires
go_on-requires c = may_take _ _ c.args.pending.now c.args.first c.args.steps _ _ c.loop-end.left _ _ _ c.in_ok-end.ensures c.in-Wants.is

pub loop-end-preserved : goal.loop-end-preserved
loop-end-preserved c =
    let some : c.loop-end.left ≡ suc (c.loop-end.left - 1) = omega (arith, c.if-left-eq0.false) in
    way_goes_on _ _ _ _ _ _ _ _ _ _ _ _ _ _ c.loop-end.invariant c.in_ok-end.ensures c.in-Wants.is some (c.in_ok-next-in-Wants.ensures _ _)
