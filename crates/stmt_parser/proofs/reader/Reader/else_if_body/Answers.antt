use Rattle.std.proofs.Common.{[], ◌∷◌, ap, sym, ◌∙◌, false}
use Rattle.expr_parser.specs.Heads.{terminals_of}
use Rattle.stmt_builder.specs.Views.{made_of}
use Rattle.stmt_machine.specs.Actions.{open_action}
use Rattle.stmt_machine.specs.Machine.{moves}
use Rattle.stmt_parser.specs.Nexts.{else_if_next}
use Rattle.stmt_parser.specs.Outcomes.{acted}
use Rattle.stmt_parser.proofs.ReadLemmas.{on_ok}
use Rattle.stmt_parser.proofs.TestLemmas.{else_if_plain}
use Rattle.stmt_machine.specs.declared.frame.Focus.TheVariants as focus
use Rattle.stmt_machine.specs.declared.frame.Frame.TheVariants as frame
use Rattle.stmt_parser.proofs.reader.Reader.else_if_body.Goals as goal

pub returns-in_ok-push-in-Some : goal.returns-in_ok-push-in-Some
returns-in_ok-push-in-Some c = on_ok _ c.open_body.result (ap (λ ts. acted (else_if_next c.args.count c.args.self.now.frames ts) (made_of c.args.self.now.maker)) c.in-Some.ensures ∙ ap (λ fs. acted (moves focus.Behind (frame.ColonArm 1 ∷ fs) (terminals_of c.in-Some.behind.now) (open_action false ∷ [])) (made_of c.args.self.now.maker)) (sym c.in_ok-push-in-Some.ensures.ok)) c.open_body.ensures

pub returns-in_ok-more-in-None : goal.returns-in_ok-more-in-None
returns-in_ok-more-in-None c = on_ok _ c.enter.result (ap (λ x. acted x (made_of c.args.self.now.maker)) (else_if_plain c.args.count c.args.self.now.frames (terminals_of c.args.rest.now) c.in-None.ensures) ∙ ap (λ k. acted (moves focus.Begin (frame.Arm k ∷ c.args.self.now.frames) (terminals_of c.args.rest.now) []) (made_of c.args.self.now.maker)) (sym c.in_ok-more-in-None.ensures)) c.enter.ensures
