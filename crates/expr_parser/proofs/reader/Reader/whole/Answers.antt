use Rattle.std.proofs.Common.{ap}
use Rattle.expr_machine.specs.Machine as machine
use Rattle.expr_machine.specs.Machine.{Move, moves}
use Rattle.expr_parser.specs.Heads.{terminals_of}
use Rattle.expr_parser.proofs.MovedLemmas.{moved}
use Rattle.expr_parser.proofs.reader.Reader.whole.Goals as goal

pub returns-in-None : goal.returns-in-None
returns-in-None c = ap (λ fs. machine.whole_move fs (terminals_of c.args.rest.now)) c.in-None.ensures.0

pub returns-in-Some : goal.returns-in-Some
returns-in-Some c = moved c.whole_over.result _ _ _ (ap (λ fs. machine.whole_move fs (terminals_of c.args.rest.now)) c.in-Some.ensures) c.whole_over.ensures
