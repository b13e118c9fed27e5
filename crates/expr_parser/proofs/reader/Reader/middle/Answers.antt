use Rattle.std.proofs.Common.{ap}
use Rattle.expr_machine.specs.Machine as machine
use Rattle.expr_machine.specs.Machine.{Move, moves}
use Rattle.expr_parser.proofs.MovedLemmas.{moved}
use Rattle.expr_parser.proofs.NextLemmas as nl
use Rattle.expr_parser.proofs.reader.Reader.middle.Goals as goal

pub returns-in-None : goal.returns-in-None
returns-in-None c = nl.middle_other _ _ c.in-None.ensures

pub returns-in-Some : goal.returns-in-Some
returns-in-Some c = moved c.open.result _ _ _ (ap (machine.middle_move c.args.self.now) c.in-Some.ensures) c.open.ensures
