use Rattle.std.proofs.Common.{◌+◌, [], ◌∷◌, subst}
use Rattle.flow_code.specs.Points.{PlainSource, set_point, number_source}
use Rattle.flow_code.specs.Expressions.{step_work}
use Rattle.flow_lowering.specs.View.{progress}
use Rattle.flow_lowering.specs.Emits.{Puts, place}
use Rattle.flow_lowering.proofs.WriteLemmas.{step_before}
use Rattle.flow_lowering.proofs.writes.lower_step_before.Goals as goal

pub returns : goal.returns
returns c =
    let d : Puts (progress c.args.points.now) (progress c.set_variable.new.points) (set_point c.args.variable.0 (number_source (step_work c.args.up) (c.args.variable.0 ∷ [])) (place (progress c.args.points.now) + 1) ∷ []) 0 =
    subst (λ (s : PlainSource). Puts (progress c.args.points.now) (progress c.set_variable.new.points) (set_point c.args.variable.0 s (place (progress c.args.points.now) + 1) ∷ []) 0) c.in_ok-source.ensures c.in_ok-set_variable.ensures in
    step_before c.args.variable.0 c.args.up d c.in_ok-copy.ensures
