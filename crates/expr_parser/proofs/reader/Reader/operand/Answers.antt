use Rattle.std.proofs.Common.{ap}
use Rattle.expr_machine.specs.Machine as machine
use Rattle.expr_machine.specs.Machine.{Move, moves}
use Rattle.expr_parser.specs.Heads.{terminals_of}
use Rattle.expr_parser.proofs.reader.Reader.operand.Goals as goal

pub returns-then-gap : goal.returns-then-gap
returns-then-gap c = ap (λ g. machine.operand_move c.args.place.name c.args.place.keys g c.args.self.now (terminals_of c.args.rest.now)) c.if-gap.true

pub returns : goal.returns
returns c = ap (λ g. machine.operand_move c.args.place.name c.args.place.keys g c.args.self.now (terminals_of c.args.rest.now)) c.if-gap.false
