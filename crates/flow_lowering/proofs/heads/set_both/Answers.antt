use Rattle.std.proofs.Common.{ℕ, ◌+◌, [], ◌∷◌, subst}
use Rattle.flow_code.specs.Points.{key_point, value_point}
use Rattle.flow_lowering.specs.View.{progress}
use Rattle.flow_lowering.specs.Emits.{Puts, place}
use Rattle.flow_lowering.proofs.LoopLemmas.{puts_pair}
use Rattle.flow_lowering.proofs.heads.set_both.Goals as goal

pub returns : goal.returns
returns c =
    let start = progress c.args.points.now in
    subst (λ (n : ℕ). Puts start (progress c.set_value.new.points) (key_point c.args.key.0 c.args.walk.0 n ∷ value_point c.args.value.0 c.args.walk.0 (place start + 2) ∷ []) 0) c.ahead-next.ensures
    (puts_pair (λ (n : ℕ). value_point c.args.value.0 c.args.walk.0 n) c.in_ok-push.ensures c.in_ok-set_value.ensures)
