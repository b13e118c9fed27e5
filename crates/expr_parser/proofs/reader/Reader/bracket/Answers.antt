use Rattle.std.proofs.Common.{ap}
use Rattle.expr_machine.specs.Machine as machine
use Rattle.expr_machine.specs.Machine.{Move, moves}
use Rattle.expr_parser.specs.Heads.{terminals_of}
use Rattle.expr_parser.proofs.MovedLemmas.{moved}
use Rattle.expr_parser.proofs.NextLemmas as nl
use Rattle.expr_parser.proofs.reader.Reader.bracket.Goals as goal

pub returns-in-OpenParen : goal.returns-in-OpenParen
returns-in-OpenParen c = moved c.open.result _ _ _ (ap (λ s. machine.bracket_move s c.args.self.now (terminals_of c.args.rest.now)) c.in-OpenParen.is) c.open.ensures

pub returns-in-OpenBracket : goal.returns-in-OpenBracket
returns-in-OpenBracket c = moved c.array.result _ _ _ (ap (λ s. machine.bracket_move s c.args.self.now (terminals_of c.args.rest.now)) c.in-OpenBracket.is) c.array.ensures

pub returns-in_default : goal.returns-in_default
returns-in_default c = nl.bracket_stuck c.args.sign _ _ c.in_default.not-OpenParen c.in_default.not-OpenBracket
