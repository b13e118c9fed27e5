use Rattle.std.proofs.Common.{[], ◌∷◌, ap, sym, ◌∙◌}
use Rattle.expr_machine.specs.declared.frame.Focus.TheVariants as focus
use Rattle.expr_machine.specs.declared.frame.Frame.TheVariants as frame
use Rattle.expr_machine.specs.Machine as machine
use Rattle.expr_machine.specs.Machine.{Move, moves}
use Rattle.expr_machine.specs.Actions.{isset_action}
use Rattle.expr_parser.specs.Heads.{terminals_of}
use Rattle.expr_parser.proofs.MovedLemmas.{moved}
use Rattle.expr_parser.proofs.NextLemmas as nl
use Rattle.expr_parser.proofs.reader.Reader.isset.Goals as goal

pub returns-in-Some : goal.returns-in-Some
returns-in-Some c = ap (machine.isset_move c.args.count c.args.self.now) c.in-Some.ensures ∙ ap (λ n. moves focus.Unary c.args.self.now (terminals_of c.in-Some.behind.now) (isset_action n ∷ [])) (sym c.in_ok-count.ensures)

pub returns-in-None : goal.returns-in-None
returns-in-None c = nl.isset_other c.args.count c.args.self.now _ c.in_default.ensures c.in-None.ensures

pub returns-in-Some-behind_sign : goal.returns-in-Some-behind_sign
returns-in-Some-behind_sign c = moved c.open.result _ _ _ (ap (machine.isset_move c.args.count c.args.self.now) c.in-Some-behind_sign.ensures ∙ ap (λ n. moves focus.Begin (frame.Isset n ∷ c.args.self.now) (terminals_of c.in-Some-behind_sign.behind.now) []) (sym c.in_ok-count.ensures)) c.open.ensures
