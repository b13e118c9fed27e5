use Rattle.expr_parser.proofs.HeadLemmas as hl
use Rattle.expr_parser.proofs.head.variable_of.Goals as goal

pub returns-in_default : goal.returns-in_default
returns-in_default c = hl.no_variable c.args.kind.now c.in_default.not-Var
