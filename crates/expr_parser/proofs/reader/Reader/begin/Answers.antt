use Rattle.std.proofs.Common.{ap}
use Rattle.expr_machine.specs.Machine as machine
use Rattle.expr_machine.specs.Machine.{Move, moves}
use Rattle.expr_parser.proofs.MovedLemmas.{moved}
use Rattle.expr_parser.proofs.reader.Reader.begin.Goals as goal

pub returns-in-None : goal.returns-in-None
returns-in-None c = ap (machine.begin_move c.args.self.now) c.in-None.ensures

pub returns-in-Some : goal.returns-in-Some
returns-in-Some c = moved c.begin_with.result _ _ _ (ap (machine.begin_move c.args.self.now) c.in-Some.ensures) c.begin_with.ensures
