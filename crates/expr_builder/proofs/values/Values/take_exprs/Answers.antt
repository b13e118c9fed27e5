use Rattle.std.proofs.Common.{ap, reverse, arith}
use Rattle.std.specs.Prelude.{Some}
use Rattle.php_syntax.specs.Trees.{exprs_of}
use Rattle.expr_builder.specs.Views.{plain_value}
use Rattle.expr_builder.specs.Rows.{exprs_shown}
use Rattle.expr_builder.proofs.RowLemmas.{row_begins, row_next, row_ends, row_stops}
use Rattle.expr_builder.proofs.values.Values.take_exprs.Goals as goal

pub taking-init : goal.taking-init
taking-init c = row_begins _ _ _ (ap (λ es. Some (exprs_of (reverse es), 0)) c.new.ensures.items)

pub taking-preserved : goal.taking-preserved
taking-preserved c =
    row_next _ c.taking.left (exprs_shown c.taking.exprs) _ c.taking.places _ _ (plain_value c.in-Some.value) _ (omega arith) c.in_ok-exprs-in-Some.ensures c.is_place-place.ensures c.both-places.ensures (rw c.in-Some.ensures at c.taking.invariant)

pub returns-in-None : goal.returns-in-None
returns-in-None c = row_stops _ c.taking.left (exprs_shown c.taking.exprs) c.taking.places (omega arith) (rw c.in-None.ensures.0 at c.taking.invariant)

pub returns : goal.returns
returns c = row_ends _ c.taking.left _ _ _ (omega arith) c.taking.invariant
