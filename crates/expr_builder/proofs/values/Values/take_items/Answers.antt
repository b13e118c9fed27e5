use Rattle.std.proofs.Common.{ap, reverse, arith}
use Rattle.std.specs.Prelude.{Some}
use Rattle.php_syntax.specs.Trees.{items_of}
use Rattle.expr_builder.specs.Views.{plain_value}
use Rattle.expr_builder.specs.Rows.{items_shown}
use Rattle.expr_builder.proofs.RowLemmas.{items_begin, items_next, items_end, items_stop}
use Rattle.expr_builder.proofs.values.Values.take_items.Goals as goal

pub taking-init : goal.taking-init
taking-init c = items_begin _ _ _ (ap (λ es. Some (items_of (reverse es), 0)) c.new.ensures.items)

pub taking-preserved : goal.taking-preserved
taking-preserved c =
    items_next _ c.taking.left (items_shown c.taking.items) _ (plain_value c.in-Some.key) (plain_value c.in-Some.value) _ (omega arith) c.in_ok-items-in-Some.ensures (rw c.in-Some.ensures at c.taking.invariant)

pub returns-in-None : goal.returns-in-None
returns-in-None c = items_stop _ c.taking.left (items_shown c.taking.items) c.taking.self (omega arith) c.in-None.ensures c.taking.invariant

pub returns : goal.returns
returns c = items_end _ c.taking.left _ _ (omega arith) c.taking.invariant
