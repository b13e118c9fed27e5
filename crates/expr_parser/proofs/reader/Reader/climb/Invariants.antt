use Rattle.std.proofs.Common.{[]}
use Rattle.expr_machine.specs.declared.frame.Focus.TheVariants as focus
use Rattle.expr_machine.specs.Reading.{weight}
use Rattle.expr_parser.specs.Heads.{terminals_of}
use Rattle.expr_parser.specs.Leads.{Leads}
use Rattle.expr_parser.proofs.reader.Reader.climb.Given as goal

abbrev pub invariant-levels : goal.invariant-levels
invariant-levels l = Leads (focus.Operand l.fn.level) (focus.Operand l.level) l.fn.self (terminals_of l.fn.rest)

abbrev pub decreases-levels : goal.decreases-levels
decreases-levels l = weight (focus.Operand l.level) [] []
