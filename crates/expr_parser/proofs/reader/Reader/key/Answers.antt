use Rattle.std.proofs.Common.{[], ◌∷◌, ap, sym, ◌∙◌, true}
use Rattle.expr_machine.specs.declared.frame.Focus.TheVariants as focus
use Rattle.expr_machine.specs.Machine as machine
use Rattle.expr_machine.specs.Machine.{Move, moves}
use Rattle.expr_machine.specs.Actions.{absent_action}
use Rattle.expr_parser.specs.Heads.{terminals_of}
use Rattle.expr_parser.proofs.MovedLemmas.{moved}
use Rattle.expr_parser.proofs.NextLemmas as nl
use Rattle.expr_parser.proofs.reader.Reader.key.Goals as goal

pub returns-in_ok-one_more-in-Some : goal.returns-in_ok-one_more-in-Some
returns-in_ok-one_more-in-Some c = ap (machine.key_move c.args.place.name c.args.place.keys c.args.place.gap c.args.self.now) c.in-Some.ensures ∙ ap (λ n. moves (focus.Place c.args.place.name n true) c.args.self.now (terminals_of c.in-Some.behind.now) (absent_action ∷ [])) (sym c.in_ok-one_more-in-Some.ensures)

pub returns-in-None : goal.returns-in-None
returns-in-None c = moved c.open.result _ _ _ (nl.key_other c.args.place.name c.args.place.keys c.args.place.gap _ _ c.in-None.ensures) c.open.ensures
