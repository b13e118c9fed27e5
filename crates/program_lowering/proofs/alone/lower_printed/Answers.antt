use Rattle.std.proofs.Common.{◌+◌}
use Rattle.flow_code.specs.Points.{echo_point}
use Rattle.flow_lowering.proofs.BlockLemmas.{lays_ending}
use Rattle.program_lowering.proofs.alone.lower_printed.Goals as goal

pub returns : goal.returns
returns c = lays_ending (λ x to p. echo_point x (p + 1)) c.in_ok-slot.ensures c.in_ok-push.ensures (λ to. λ i. echo_point c.in_ok-slot.slot.0 (c.ahead-next.ensures i))
