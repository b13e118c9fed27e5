use Rattle.std.proofs.Common.{[], ◌∷◌, ap, sym, ◌∙◌}
use Rattle.expr_machine.specs.declared.frame.Focus.TheVariants as focus
use Rattle.expr_machine.specs.Machine as machine
use Rattle.expr_machine.specs.Machine.{Move, moves}
use Rattle.expr_parser.specs.Heads.{terminals_of}
use Rattle.expr_parser.proofs.MovedLemmas.{moved}
use Rattle.expr_parser.proofs.reader.Reader.chain.Goals as goal

pub returns-in-Some : goal.returns-in-Some
returns-in-Some c = moved c.open.result _ _ _ (ap (λ o. machine.chain_move o c.args.level c.args.self.now (terminals_of c.args.rest.now)) c.in-Some.is ∙ ap (λ f. moves focus.Begin (f ∷ c.args.self.now) (machine.behind (terminals_of c.args.rest.now)) []) (sym c.begun_frame.ensures) ∙ ap (λ r. moves focus.Begin (c.begun_frame.result ∷ c.args.self.now) r []) (sym c.behind_first.ensures)) c.open.ensures

pub returns-in-None : goal.returns-in-None
returns-in-None c = ap (λ o. machine.chain_move o c.args.level c.args.self.now (terminals_of c.args.rest.now)) c.in-None.is ∙ ap (λ f. moves f c.args.self.now (terminals_of c.args.rest.now) []) (sym c.looser.ensures)
