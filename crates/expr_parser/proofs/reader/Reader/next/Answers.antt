use Rattle.std.proofs.Common.{ap}
use Rattle.expr_machine.specs.Machine as machine
use Rattle.expr_machine.specs.Machine.{move}
use Rattle.expr_parser.specs.Heads.{terminals_of}
use Rattle.expr_parser.proofs.MovedLemmas.{moved}
use Rattle.expr_parser.proofs.reader.Reader.next.Goals as goal

pub returns-in-Begin : goal.returns-in-Begin
unfolding move
returns-in-Begin c = moved c.begin.result _ _ _ (ap (λ f. machine.move f c.args.self.now (terminals_of c.args.rest.now)) c.in-Begin.is) c.begin.ensures

pub returns-in-Place : goal.returns-in-Place
unfolding move
returns-in-Place c = moved c.place.result _ _ _ (ap (λ f. machine.move f c.args.self.now (terminals_of c.args.rest.now)) c.in-Place.is) c.place.ensures

pub returns-in-Subscripted : goal.returns-in-Subscripted
unfolding move
returns-in-Subscripted c = moved c.subscripted.result _ _ _ (ap (λ f. machine.move f c.args.self.now (terminals_of c.args.rest.now)) c.in-Subscripted.is) c.subscripted.ensures

pub returns-in-Unary : goal.returns-in-Unary
unfolding move
returns-in-Unary c = moved c.unary.result _ _ _ (ap (λ f. machine.move f c.args.self.now (terminals_of c.args.rest.now)) c.in-Unary.is) c.unary.ensures

pub returns-in-Operand : goal.returns-in-Operand
unfolding move
returns-in-Operand c = moved c.level.result _ _ _ (ap (λ f. machine.move f c.args.self.now (terminals_of c.args.rest.now)) c.in-Operand.is) c.level.ensures

pub returns-in-Chain : goal.returns-in-Chain
unfolding move
returns-in-Chain c = moved c.coalesce.result _ _ _ (ap (λ f. machine.move f c.args.self.now (terminals_of c.args.rest.now)) c.in-Chain.is) c.coalesce.ensures

pub returns-in-Coalesced : goal.returns-in-Coalesced
unfolding move
returns-in-Coalesced c = moved c.choice.result _ _ _ (ap (λ f. machine.move f c.args.self.now (terminals_of c.args.rest.now)) c.in-Coalesced.is) c.choice.ensures

pub returns-in-Whole : goal.returns-in-Whole
unfolding move
returns-in-Whole c = moved c.whole.result _ _ _ (ap (λ f. machine.move f c.args.self.now (terminals_of c.args.rest.now)) c.in-Whole.is) c.whole.ensures
