use Rattle.std.proofs.Common.{arith}
use Rattle.flow_code.specs.View.{maybe_slot}
use Rattle.flow_lowering.proofs.EmitLemmas.{puts_length}
use Rattle.flow_lowering.proofs.LoopLemmas.{opens_walk}
use Rattle.flow_lowering.proofs.heads.begin_walk.Goals as goal

pub returns : goal.returns
returns c = record {
  opens = λ before a d. opens_walk (maybe_slot c.args.key) c.args.value.0 c.in_ok-walk.walk c.in_ok-next.next d c.in_ok-walk.ensures.puts c.in_ok-walk.ensures.slot c.in_ok-next.ensures c.in_ok-set_pair.ensures;
  again = omega (arith, c.place-again.ensures, puts_length c.in_ok-walk.ensures.puts, c.in_ok-walk.ensures.puts.first);
}
