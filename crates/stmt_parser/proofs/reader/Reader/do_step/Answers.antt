use Rattle.std.proofs.Common.{ap, ◌∙◌}
use Rattle.expr_parser.specs.Heads.{terminals_of}
use Rattle.stmt_builder.specs.Views.{made_of}
use Rattle.stmt_machine.specs.Machine.{do_move}
use Rattle.stmt_parser.specs.Outcomes.{acted}
use Rattle.stmt_parser.proofs.ActedLemmas.{acted_stuck}
use Rattle.stmt_parser.proofs.OtherLemmas.{do_none}
use Rattle.stmt_parser.proofs.ReadLemmas.{on_ok}
use Rattle.stmt_parser.proofs.reader.Reader.do_step.Goals as goal

pub returns-in-None : goal.returns-in-None
returns-in-None c = ap (λ x. acted x (made_of c.args.self.now.maker)) (do_none c.args.self.now.frames (terminals_of c.args.rest.now) c.in-None.ensures) ∙ acted_stuck (made_of c.args.self.now.maker)

pub returns-in-Some : goal.returns-in-Some
returns-in-Some c = on_ok _ c.do_end_step.result (ap (λ ts. acted (do_move c.args.self.now.frames ts) (made_of c.args.self.now.maker)) c.in-Some.ensures) c.do_end_step.ensures
