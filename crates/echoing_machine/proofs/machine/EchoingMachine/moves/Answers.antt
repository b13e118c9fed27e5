use Rattle.std.proofs.Common.{arith}
use Rattle.echoing_machine.proofs.machine.EchoingMachine.moves.Goals as goal

pub returns-clause-exact : goal.returns-clause-exact
returns-clause-exact g c = λ byte r t letters. c.in_ok-moves.ensures.exact byte r.0 (omega (arith, r.1)) t letters
