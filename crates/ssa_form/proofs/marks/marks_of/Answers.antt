use Rattle.std.proofs.Common.{◌≡◌, ◌+◌, ◌<◌, ℕ, suc, length, subst, sym, ap, ◌∙◌, Some, arith}
use Rattle.std.specs.Option.{option_map}
use Rattle.std.proofs.lemmas.Option.{slice_get-get_or, slice_get-map}
use Rattle.flow_graph.specs.Steps.{step_seen, steps_seen}
use Rattle.flow_graph.specs.declared.step.Step.{Step}
use Rattle.ssa_form.specs.Marks.{AreMarked}
use Rattle.ssa_form.proofs.EdgeLemmas.{is_point}
use Rattle.ssa_form.proofs.marks.marks_of.Goals as goal

pub loop-point-preserved : goal.loop-point-preserved
loop-point-preserved c flow all graph =
    let below : c.loop-point.point < length c.args.heads.now = (let r = c.requires in let t = c.loop-point-test.true in omega arith) in
    let next : suc c.loop-point.point ≡ c.loop-point.point + 1 = omega arith in
    subst (λ (n : ℕ). AreMarked flow c.args.heads.now c.mark.new.marks n) next
    (c.in_ok-mark.ensures flow c.args.heads.now (is_point flow (steps_seen c.args.steps.now) all c.args.heads.now graph _ c.loop-point.point (step_seen c.index-steps-point.result) (slice_get-get_or c.args.heads.now c.loop-point.point 0 below)
    (slice_get-map step_seen c.args.steps.now c.loop-point.point
    ∙ ap (option_map step_seen) (slice_get-get_or c.args.steps.now c.loop-point.point c.index-steps-point.result c.loop-point-test.true ∙ ap (λ (s : Step). Some s) (sym c.index-steps-point.is))))
    (c.loop-point.invariant flow all graph))

pub returns : goal.returns
returns c flow all graph =
    let end : c.loop-point.point ≡ length c.args.steps.now = omega arith in
    subst (λ (n : ℕ). AreMarked flow c.args.heads.now c.loop-point.marks n) end (c.loop-point.invariant flow all graph)
