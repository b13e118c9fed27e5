use Rattle.std.proofs.Common.{ap, ◌∙◌}
use Rattle.expr_parser.specs.Heads.{terminals_of}
use Rattle.stmt_machine.specs.Machine.{block_move}
use Rattle.stmt_parser.specs.Outcomes.{acted}
use Rattle.stmt_parser.proofs.ActedLemmas.{acted_none}
use Rattle.stmt_parser.proofs.OtherLemmas.{block_none}
use Rattle.stmt_machine.specs.declared.frame.Focus.TheVariants as focus
use Rattle.stmt_parser.proofs.ReadLemmas.{on_ok}
use Rattle.stmt_builder.specs.Views.{made_of}
use Rattle.stmt_parser.proofs.reader.Reader.block_step.Goals as goal

pub returns-in-Some : goal.returns-in-Some
returns-in-Some c = ap (λ ts. acted (block_move c.args.self.now.frames ts) (made_of c.args.self.now.maker)) c.in-Some.ensures ∙ acted_none focus.Behind c.args.self.now.frames (terminals_of c.in-Some.behind.now) (made_of c.args.self.now.maker)

pub returns-in-None : goal.returns-in-None
returns-in-None c = on_ok _ c.enter.result (ap (λ x. acted x (made_of c.args.self.now.maker)) (block_none c.args.self.now.frames (terminals_of c.args.rest.now) c.in-None.ensures)) c.enter.ensures
