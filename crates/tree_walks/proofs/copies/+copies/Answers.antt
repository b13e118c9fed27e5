use Rattle.std.proofs.Common.{◌∙◌, ap, sym}
use Rattle.php_syntax.specs.Trees.{PlainExpr, plain_expr, update_expr, target_name, target_path}
use Rattle.php_syntax.proofs.Views.{plain_expr-Update}
use Rattle.tree_walks.proofs.CopyLemmas.{exprs_step, exprs_end, items_step, items_end, path_step, path_end}
use Rattle.tree_walks.proofs.copies.+copies.Goals as goal

pub copy_exprs-loop-expr-preserved : goal.copy_exprs-loop-expr-preserved
copy_exprs-loop-expr-preserved t c =
    exprs_step c.args.exprs.now c.loop-expr.copies.items c.push.new.self.items c.loop-expr.expr-index c.expr-item.result c.in_ok-copy.copy c.loop-expr-test.true c.expr-item.is c.in_ok-copy.ensures c.in_ok-push.ensures.items c.loop-expr.invariant

pub copy_exprs-returns : goal.copy_exprs-returns
copy_exprs-returns t c = exprs_end c.args.exprs.now c.loop-expr.copies.items c.loop-expr.expr-index c.loop-expr-test.false c.loop-expr.invariant

pub copy_items-loop-item-preserved : goal.copy_items-loop-item-preserved
copy_items-loop-item-preserved t c =
    items_step c.args.items.now c.loop-item.copies.items c.push.new.self.items c.loop-item.item-index c.item-item.result c.in_ok-key.key c.in_ok-value.value c.loop-item-test.true c.item-item.is c.in_ok-key.ensures c.in_ok-value.ensures c.in_ok-push.ensures.items c.loop-item.invariant

pub copy_items-returns : goal.copy_items-returns
copy_items-returns t c = items_end c.args.items.now c.loop-item.copies.items c.loop-item.item-index c.loop-item-test.false c.loop-item.invariant

pub copy_path-loop-key-preserved : goal.copy_path-loop-key-preserved
copy_path-loop-key-preserved t c =
    path_step c.args.keys.now c.loop-key.copies.items c.push.new.self.items c.loop-key.key-index c.key-item.result c.in_ok-copy.copy c.loop-key-test.true c.key-item.is c.in_ok-copy.ensures c.in_ok-push.ensures.items c.loop-key.invariant

pub copy_path-returns : goal.copy_path-returns
copy_path-returns t c = path_end c.args.keys.now c.loop-key.copies.items c.loop-key.key-index c.loop-key-test.false c.loop-key.invariant

pub copy_expr-returns-in_ok-copy-in-Update : goal.copy_expr-returns-in_ok-copy-in-Update
copy_expr-returns-in_ok-copy-in-Update t c =
    c.in_ok-copy-in-Update.ensures ∙ ap (λ (v : PlainExpr). update_expr c.in-Update.sign (target_name c.in-Update.target) (target_path c.in-Update.target) v) (ap plain_expr c.deref-in-Update.ensures)
    ∙ sym (ap plain_expr c.in-Update.is ∙ plain_expr-Update c.in-Update.sign c.in-Update.target c.in-Update.value)
