use Rattle.std.proofs.Common.{ap, sym}
use Rattle.expr_machine.specs.Machine as machine
use Rattle.expr_machine.specs.Machine.{Move, moves}
use Rattle.expr_parser.specs.Heads.{terminals_of}
use Rattle.expr_parser.proofs.MovedLemmas.{moved}
use Rattle.expr_parser.proofs.reader.Reader.word.Goals as goal

pub returns-in-Some : goal.returns-in-Some
returns-in-Some c = ap (λ x. machine.word_move x c.args.word c.args.self.now (terminals_of c.args.rest.now)) (sym (rw c.in-Some.is at c.in_ok-tree.ensures))

pub returns-in-None : goal.returns-in-None
returns-in-None c = moved c.keyword.result _ _ _ (ap (λ x. machine.word_move x c.args.word c.args.self.now (terminals_of c.args.rest.now)) (sym (rw c.in-None.is at c.in_ok-tree.ensures))) c.keyword.ensures
