use Rattle.std.proofs.Common.{ℕ, ◌+◌}
use Rattle.flow_code.specs.Points.{print_point}
use Rattle.flow_lowering.specs.View.{progress}
use Rattle.flow_lowering.proofs.EmitLemmas.{emits_known}
use Rattle.flow_lowering.proofs.BlockLemmas.{lays_ending}
use Rattle.program_lowering.proofs.alone.lower_inline.Goals as goal

pub returns : goal.returns
returns c =
    let none : ℕ = 0 in
    lays_ending (λ x to p. print_point c.args.bytes.now (p + 1)) (emits_known (progress c.args.points.now) none) c.in_ok-push.ensures (λ to. λ i. print_point (c.in_ok-bytes.ensures i) (c.ahead-next.ensures i))
