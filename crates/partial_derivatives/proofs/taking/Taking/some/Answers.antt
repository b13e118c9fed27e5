use Rattle.partial_derivatives.proofs.Rows.{no_expr_at, not_shown, none_behind, none_put}
use Rattle.derivatives.specs.Standing.{expr_at}
use Rattle.partial_derivatives.specs.Parts.{behind}
use Rattle.partial_derivatives.proofs.taking.Taking.some.Goals as goal

pub returns-else-is_expression : goal.returns-else-is_expression
returns-else-is_expression c =
    let a = c.args.self.now.arena.now in
    let b = c.args.self.now.byte in
    none_put c.args.rows.now.items (behind a b (expr_at a c.args.place) c.args.place c.args.rest.now)
    (none_behind a b c.args.place c.args.rest.now (no_expr_at a c.args.place (not_shown c.is_expression.result c.if-is_expression.false c.is_expression.ensures)))
