use Rattle.std.proofs.Common.{[], ◌∷◌, refl, arith, length-append}
use Rattle.strong_components.specs.declared.order.Mark.TheVariants.{New}
use Rattle.strong_components.proofs.WalkLemmas.{all_new_push}
use Rattle.strong_components.proofs.order.new_marks.Goals as goal

pub loop-edge-init : goal.loop-edge-init
loop-edge-init c = rw c.new-marks.ensures.items (refl, λ k h. absurd (omega arith))

pub loop-edge-preserved : goal.loop-edge-preserved
loop-edge-preserved c = let sizes = c.loop-edge.invariant.0 in let more = length-append c.loop-edge.marks.items (New ∷ []) in rw c.in_ok-push.ensures.items (omega (arith, more), all_new_push c.loop-edge.marks.items c.loop-edge.invariant.1)

pub returns-clause-size : goal.returns-clause-size
returns-clause-size c = let sizes = c.loop-edge.invariant.0 in let all = c.loop-edge-test.false in let within = c.loop-edge.auto._edge-index-end in omega arith

pub returns-clause-all : goal.returns-clause-all
returns-clause-all c = c.loop-edge.invariant.1
