use Rattle.std.proofs.Common.{ap}
use Rattle.expr_machine.specs.Machine as machine
use Rattle.expr_machine.specs.Machine.{Move, moves}
use Rattle.expr_parser.specs.Heads.{terminals_of}
use Rattle.expr_parser.proofs.MovedLemmas.{moved}
use Rattle.expr_parser.proofs.reader.Reader.argument.Goals as goal

pub returns-in-None : goal.returns-in-None
returns-in-None c = moved c.next_argument.result _ _ _ (ap (λ x. machine.escape_move x c.args.name c.args.count c.args.self.now (terminals_of c.args.rest.now)) c.in-None.ensures) c.next_argument.ensures

pub returns-in-Some : goal.returns-in-Some
returns-in-Some c = ap (λ x. machine.escape_move x c.args.name c.args.count c.args.self.now (terminals_of c.args.rest.now)) c.in-Some.ensures
