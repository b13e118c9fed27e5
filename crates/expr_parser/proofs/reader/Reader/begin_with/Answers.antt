use Rattle.std.proofs.Common.{[], ◌∷◌, ap, sym, ◌∙◌, false}
use Rattle.expr_machine.specs.declared.frame.Focus.TheVariants as focus
use Rattle.expr_machine.specs.Machine as machine
use Rattle.expr_machine.specs.Machine.{Move, moves}
use Rattle.expr_parser.specs.Heads.{terminals_of, terminal_at}
use Rattle.expr_parser.proofs.MovedLemmas.{moved}
use Rattle.expr_parser.proofs.reader.Reader.begin_with.Goals as goal

pub returns-in-Inline : goal.returns-in-Inline
returns-in-Inline c = ap (λ h. machine.begin_move c.args.self.now (terminal_at h ∷ (terminals_of c.args.rest.now))) c.in-Inline.is

pub returns-in_ok-name-in-Var : goal.returns-in_ok-name-in-Var
returns-in_ok-name-in-Var c = ap (λ h. machine.begin_move c.args.self.now (terminal_at h ∷ (terminals_of c.args.rest.now))) c.in-Var.is ∙ ap (λ x. moves (focus.Place x 0 false) c.args.self.now (terminals_of c.args.rest.now) []) (sym c.in_ok-name-in-Var.ensures)

pub returns-in-Word : goal.returns-in-Word
returns-in-Word c = moved c.word.result _ _ _ (ap (λ h. machine.begin_move c.args.self.now (terminal_at h ∷ (terminals_of c.args.rest.now))) c.in-Word.is) c.word.ensures

pub returns-in-Name : goal.returns-in-Name
returns-in-Name c = moved c.call.result _ _ _ (ap (λ h. machine.begin_move c.args.self.now (terminal_at h ∷ (terminals_of c.args.rest.now))) c.in-Name.is) c.call.ensures

pub returns-in-Template : goal.returns-in-Template
returns-in-Template c = ap (λ h. machine.begin_move c.args.self.now (terminal_at h ∷ (terminals_of c.args.rest.now))) c.in-Template.is

pub returns-in-Sign : goal.returns-in-Sign
returns-in-Sign c = moved c.sign.result _ _ _ (ap (λ h. machine.begin_move c.args.self.now (terminal_at h ∷ (terminals_of c.args.rest.now))) c.in-Sign.is) c.sign.ensures
