use Rattle.std.proofs.Common.{ap, ◌∙◌}
use Rattle.expr_parser.specs.Heads.{terminals_of}
use Rattle.stmt_builder.specs.Views.{made_of}
use Rattle.stmt_parser.specs.Outcomes.{acted}
use Rattle.stmt_parser.proofs.ActedLemmas.{acted_none}
use Rattle.stmt_parser.proofs.ReadLemmas.{on_ok}
use Rattle.stmt_parser.proofs.TestLemmas.{start_some, start_none}
use Rattle.stmt_machine.specs.declared.frame.Focus.TheVariants as focus
use Rattle.stmt_parser.proofs.reader.Reader.start_step.Goals as goal

pub returns-in-Some : goal.returns-in-Some
returns-in-Some c = ap (λ x. acted x (made_of c.args.self.now.maker)) (start_none c.args.row c.args.self.now.frames (terminals_of c.args.rest.now) c.in-Some.ensures.0) ∙ acted_none (focus.Listed c.args.row 0) c.args.self.now.frames (terminals_of c.args.rest.now) (made_of c.args.self.now.maker)

pub returns-in-None : goal.returns-in-None
returns-in-None c = on_ok _ c.listed_step.result (ap (λ x. acted x (made_of c.args.self.now.maker)) (start_some c.args.row c.args.self.now.frames (terminals_of c.args.rest.now) c.in-None.ensures)) c.listed_step.ensures
