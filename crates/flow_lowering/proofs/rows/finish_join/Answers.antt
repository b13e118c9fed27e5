use Rattle.std.proofs.Common.{arith, map}
use Rattle.flow_code.specs.View.{slot_number}
use Rattle.flow_lowering.specs.View.{progress}
use Rattle.flow_lowering.proofs.JoinLemmas.{lone_finishes, other_finishes}
use Rattle.flow_lowering.proofs.rows.finish_join.Goals as goal

pub returns-then-parts-eq1 : goal.returns-then-parts-eq1
returns-then-parts-eq1 c = lone_finishes (progress c.args.points.now) _ (map slot_number c.args.slots.items) c.args.parts.now c.join_alone.result (omega (arith, c.if-parts-eq1.true)) c.join_alone.ensures

pub returns-else-parts-eq1 : goal.returns-else-parts-eq1
returns-else-parts-eq1 c = other_finishes (progress c.args.points.now) _ (map slot_number c.args.slots.items) c.args.parts.now c.join_all.result (λ e. omega (arith, e, c.if-parts-eq1.false)) c.join_all.ensures
