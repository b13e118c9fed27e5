use Rattle.std.proofs.Common.{[], ◌∷◌, ap, sym, ◌∙◌, false}
use Rattle.expr_parser.specs.Heads.{terminals_of}
use Rattle.stmt_builder.specs.Views.{made_of}
use Rattle.stmt_machine.specs.Actions.{open_action}
use Rattle.stmt_machine.specs.Machine.{moves}
use Rattle.stmt_parser.specs.Nexts.{colon_elseif_next}
use Rattle.stmt_parser.specs.Outcomes.{acted}
use Rattle.stmt_parser.proofs.ActedLemmas.{acted_stuck}
use Rattle.stmt_parser.proofs.ReadLemmas.{on_ok}
use Rattle.stmt_parser.proofs.TestLemmas.{colon_elseif_none}
use Rattle.stmt_machine.specs.declared.frame.Focus.TheVariants as focus
use Rattle.stmt_machine.specs.declared.frame.Frame.TheVariants as frame
use Rattle.stmt_parser.proofs.reader.Reader.colon_elseif_body.Goals as goal

pub returns-in_default : goal.returns-in_default
returns-in_default c = ap (λ x. acted x (made_of c.args.self.now.maker)) (colon_elseif_none c.args.count c.args.self.now.frames (terminals_of c.args.rest.now) c.in_default.ensures) ∙ acted_stuck (made_of c.args.self.now.maker)

pub returns : goal.returns
returns c = on_ok _ c.open_body.result (ap (λ ts. acted (colon_elseif_next c.args.count c.args.self.now.frames ts) (made_of c.args.self.now.maker)) c.in-Some.ensures ∙ ap (λ k. acted (moves focus.Behind (frame.ColonArm k ∷ c.args.self.now.frames) (terminals_of c.in-Some.behind.now) (open_action false ∷ [])) (made_of c.args.self.now.maker)) (sym c.in_ok-more.ensures)) c.open_body.ensures
