use Rattle.std.proofs.Common.{ap, ◌∙◌}
use Rattle.expr_parser.specs.Heads.{terminals_of}
use Rattle.stmt_machine.specs.Machine.{for_begin_move, behind_paren}
use Rattle.stmt_parser.specs.Outcomes.{acted}
use Rattle.stmt_parser.proofs.ActedLemmas.{acted_none, acted_stuck}
use Rattle.stmt_parser.proofs.OtherLemmas.{no_paren}
use Rattle.stmt_machine.specs.declared.frame.Row.TheVariants as row
use Rattle.stmt_machine.specs.declared.frame.Focus.TheVariants as focus
use Rattle.stmt_parser.proofs.begins.for_step.Goals as goal

pub returns-in-None : goal.returns-in-None
returns-in-None c = λ fs m. ap (λ x. acted (for_begin_move fs x) m) (no_paren (terminals_of c.args.rest.now) c.in-None.ensures) ∙ acted_stuck m

pub returns-in-Some : goal.returns-in-Some
returns-in-Some c = λ fs m. ap (λ ts. acted (for_begin_move fs (behind_paren ts)) m) c.in-Some.ensures ∙ acted_none (focus.Start row.Begin) fs (terminals_of c.in-Some.inner.now) m
