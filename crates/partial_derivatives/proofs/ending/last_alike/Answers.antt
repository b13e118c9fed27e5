use Rattle.std.proofs.Common.{sym, ap}
use Rattle.derivatives.specs.Classes.{last_alike}
use Rattle.partial_derivatives.proofs.Rows.{no_expr_at, not_shown}
use Rattle.partial_derivatives.proofs.ending.last_alike.Goals as goal

pub returns-else-is_expression : goal.returns-else-is_expression
returns-else-is_expression c = sym (ap (last_alike c.args.byte) (no_expr_at c.args.arena.now c.args.place (not_shown c.is_expression.result c.if-is_expression.false c.is_expression.ensures)))
