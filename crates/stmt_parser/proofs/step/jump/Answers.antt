use Rattle.std.proofs.Common.{ap, ◌∙◌}
use Rattle.expr_machine.specs.Machine.{behind}
use Rattle.expr_parser.specs.Heads.{terminals_of}
use Rattle.stmt_parser.specs.Outcomes.{failed, gone_if, jump_if}
use Rattle.stmt_parser.proofs.OtherLemmas.{no_semicolon}
use Rattle.std.specs.Prelude.{if◌then◌else◌}
use Rattle.stmt_machine.specs.declared.frame.Focus.TheVariants as focus
use Rattle.stmt_parser.proofs.step.jump.Goals as goal

pub returns-in-None : goal.returns-in-None
returns-in-None c = λ fs m. ap (λ b. if b then gone_if c.args.done focus.Behind fs (behind (terminals_of c.args.rest.now)) m else failed) (no_semicolon (terminals_of c.args.rest.now) c.in-None.ensures)

pub returns-in-Some : goal.returns-in-Some
returns-in-Some c = λ fs m. ap (λ ts. jump_if c.args.done fs ts m) c.in-Some.ensures ∙ c.gone.ensures fs m
