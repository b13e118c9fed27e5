use Rattle.std.proofs.Common.{ap, ◌∙◌}
use Rattle.expr_machine.specs.Machine as machine
use Rattle.expr_machine.specs.Machine.{Move, moves}
use Rattle.expr_parser.specs.Heads.{terminals_of}
use Rattle.expr_parser.proofs.MovedLemmas.{moved}
use Rattle.expr_parser.proofs.NextLemmas as nl
use Rattle.expr_parser.proofs.reader.Reader.place.Goals as goal

pub returns-in-None : goal.returns-in-None
returns-in-None c = moved c.operand.result _ _ _ (nl.place_other c.args.place.name c.args.place.keys c.args.place.gap c.args.self.now _ c.in-None.ensures) c.operand.ensures

pub returns-in-OpenBracket : goal.returns-in-OpenBracket
returns-in-OpenBracket c = moved c.key.result _ _ _ (ap (machine.place_move c.args.place.name c.args.place.keys c.args.place.gap c.args.self.now) c.in-Some.ensures ∙ ap (λ s. machine.placed_move c.args.place.name c.args.place.keys c.args.place.gap c.args.self.now s (terminals_of c.in-Some.behind.now)) c.in-OpenBracket.is) c.key.ensures

pub returns-in-Assign : goal.returns-in-Assign
returns-in-Assign c = moved c.assign.result _ _ _ (ap (machine.place_move c.args.place.name c.args.place.keys c.args.place.gap c.args.self.now) c.in-Some.ensures ∙ ap (λ s. machine.placed_move c.args.place.name c.args.place.keys c.args.place.gap c.args.self.now s (terminals_of c.in-Some.behind.now)) c.in-Assign.is) c.assign.ensures

pub returns-in_default : goal.returns-in_default
returns-in_default c = moved c.updated.result _ _ _ (ap (machine.place_move c.args.place.name c.args.place.keys c.args.place.gap c.args.self.now) c.in-Some.ensures ∙ nl.placed_other c.args.place.name c.args.place.keys c.args.place.gap c.args.self.now c.in-Some.sign (terminals_of c.in-Some.behind.now) c.in_default.not-OpenBracket c.in_default.not-Assign) c.updated.ensures
