use Rattle.std.proofs.Common.{List, ap, ◌∙◌}
use Rattle.std.specs.Prelude.{Option}
use Rattle.php_syntax.specs.declared.tree.Expr.{Expr}
use Rattle.php_syntax.specs.Trees.{plain_expr, exprs_of, items_of, path_of, boxed_of, maybe_of}
use Rattle.php_syntax.specs.Height.{nodes, maybe_nodes, path_nodes, height, maybe_height, path_height}
use Rattle.program_sizes.specs.Sizes as sizes
use Rattle.program_sizes.proofs.SizeLemmas.{over_two_is, over_three_is, over_assignment_is}
use Rattle.program_sizes.proofs.LoopLemmas.{begin_at, go_on, finish, exprs_left, no_exprs_left, items_left, no_items_left, keys_left, no_keys_left}
use Rattle.program_sizes.proofs.expressions.+expressions.Goals as goal

pub over_one-returns : goal.over_one-returns
over_one-returns t c = c.above.ensures (sizes.of_expr (plain_expr c.args.operand.now)) c.size_of_expr.ensures

pub over_two-returns : goal.over_two-returns
over_two-returns t c =
    let l = plain_expr c.args.left.now in
    let r = plain_expr c.args.right.now in
    c.above.ensures (sizes.beside (sizes.of_expr l) (sizes.of_expr r)) (c.beside.ensures (sizes.of_expr l) (sizes.of_expr r) c.size_of_expr.ensures c.size_of_expr-2.ensures)
    ∙ ap sizes.capped (over_two_is (nodes l) (nodes r) (height l) (height r))

pub over_three-returns : goal.over_three-returns
over_three-returns t c =
    let l = plain_expr c.args.left.now in
    let m = boxed_of c.args.middle.now in
    let r = plain_expr c.args.right.now in
    c.above.ensures (sizes.beside (sizes.beside (sizes.of_expr l) (sizes.of_maybe m)) (sizes.of_expr r))
    (c.beside.ensures (sizes.beside (sizes.of_expr l) (sizes.of_maybe m)) (sizes.of_expr r) (c.beside-first.ensures (sizes.of_expr l) (sizes.of_maybe m) c.size_of_expr.ensures c.size_of_boxed.ensures) c.size_of_expr-2.ensures)
    ∙ ap sizes.capped (over_three_is (nodes l) (maybe_nodes m) (nodes r) (height l) (maybe_height m) (height r))

pub over_assignment-returns : goal.over_assignment-returns
over_assignment-returns t c =
    let p = path_of c.args.keys.now in
    let v = plain_expr c.args.value.now in
    c.above.ensures (sizes.beside (sizes.above (sizes.of_path p)) (sizes.of_expr v))
    (c.beside.ensures (sizes.above (sizes.of_path p)) (sizes.of_expr v) (c.above-target.ensures (sizes.of_path p) c.size_of_path.ensures) c.size_of_expr.ensures)
    ∙ ap sizes.capped (over_assignment_is (path_nodes p) (nodes v) (path_height p) (height v))

pub over_exprs-returns : goal.over_exprs-returns
over_exprs-returns t c = c.above.ensures (sizes.of_exprs (exprs_of c.args.exprs.now)) c.size_of_exprs.ensures

pub over_items-returns : goal.over_items-returns
over_items-returns t c = c.above.ensures (sizes.of_items (items_of c.args.items.now)) c.size_of_items.ensures

pub size_of_exprs-loop-expr-init : goal.size_of_exprs-loop-expr-init
size_of_exprs-loop-expr-init t c = begin_at (λ (xs : List Expr). sizes.of_exprs (exprs_of xs)) c.args.exprs.now c.none-size.result c.none-size.ensures

pub size_of_exprs-loop-expr-preserved : goal.size_of_exprs-loop-expr-preserved
size_of_exprs-loop-expr-preserved t c =
    go_on c.loop-expr.size c.size_of_expr.result c.beside-size.result (sizes.of_expr (plain_expr c.expr-item.result)) _ _ _ c.loop-expr.invariant (exprs_left c.args.exprs.now c.loop-expr.expr-index c.expr-item.result c.loop-expr-test.true c.expr-item.is) c.size_of_expr.ensures c.beside-size.ensures

pub size_of_exprs-returns : goal.size_of_exprs-returns
size_of_exprs-returns t c = finish c.loop-expr.size _ _ c.loop-expr.invariant (no_exprs_left c.args.exprs.now c.loop-expr.expr-index c.loop-expr-test.false)

pub size_of_items-loop-item-init : goal.size_of_items-loop-item-init
size_of_items-loop-item-init t c = begin_at (λ (xs : List (Option Expr × Expr)). sizes.of_items (items_of xs)) c.args.items.now c.none-size.result c.none-size.ensures

pub size_of_items-loop-item-preserved : goal.size_of_items-loop-item-preserved
size_of_items-loop-item-preserved t c =
    let key = sizes.of_maybe (maybe_of c.item-item.result.0) in
    let value = sizes.of_expr (plain_expr c.item-item.result.1) in
    go_on c.loop-item.size c.beside.result c.beside-size.result (sizes.beside key value) _ _ _ c.loop-item.invariant (items_left c.args.items.now c.loop-item.item-index c.item-item.result c.loop-item-test.true c.item-item.is)
    (c.beside.ensures key value c.size_of_maybe-key.ensures c.size_of_expr.ensures) c.beside-size.ensures

pub size_of_items-returns : goal.size_of_items-returns
size_of_items-returns t c = finish c.loop-item.size _ _ c.loop-item.invariant (no_items_left c.args.items.now c.loop-item.item-index c.loop-item-test.false)

pub size_of_path-loop-key-init : goal.size_of_path-loop-key-init
size_of_path-loop-key-init t c = begin_at (λ (xs : List (Option Expr)). sizes.of_path (path_of xs)) c.args.keys.now c.none-size.result c.none-size.ensures

pub size_of_path-loop-key-preserved : goal.size_of_path-loop-key-preserved
size_of_path-loop-key-preserved t c =
    go_on c.loop-key.size c.size_of_maybe.result c.beside-size.result (sizes.of_maybe (maybe_of c.key-item.result)) _ _ _ c.loop-key.invariant (keys_left c.args.keys.now c.loop-key.key-index c.key-item.result c.loop-key-test.true c.key-item.is) c.size_of_maybe.ensures c.beside-size.ensures

pub size_of_path-returns : goal.size_of_path-returns
size_of_path-returns t c = finish c.loop-key.size _ _ c.loop-key.invariant (no_keys_left c.args.keys.now c.loop-key.key-index c.loop-key-test.false)
