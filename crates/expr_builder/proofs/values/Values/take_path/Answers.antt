use Rattle.std.proofs.Common.{not, ap, reverse, arith}
use Rattle.std.specs.Prelude.{Some}
use Rattle.php_syntax.specs.Trees.{path_of}
use Rattle.expr_builder.specs.Views.{plain_value}
use Rattle.expr_builder.specs.Rows.{path_shown}
use Rattle.expr_builder.proofs.RowLemmas.{path_begins, path_next, path_ends, path_stops}
use Rattle.expr_builder.proofs.values.Values.take_path.Goals as goal

pub taking-init : goal.taking-init
taking-init c = path_begins _ _ _ (ap (λ es. Some (path_of (reverse es), 0)) c.new.ensures.items)

pub taking-preserved : goal.taking-preserved
taking-preserved c =
    path_next _ c.taking.left (path_shown c.taking.keys) _ c.taking.complete c.taking.before_last c.taking.first (not c.is_absent-present.result) _ _ _ (plain_value c.in-Some.key) _ (omega arith) c.in_ok-keys-in-Some.ensures (ap not c.is_absent-present.ensures) c.either.ensures c.both-before_last.ensures c.both-complete.ensures (rw c.in-Some.ensures at c.taking.invariant)

pub returns-in-None : goal.returns-in-None
returns-in-None c = path_stops _ c.taking.left (path_shown c.taking.keys) c.taking.complete c.taking.before_last c.taking.first (omega arith) (rw c.in-None.ensures.0 at c.taking.invariant)

pub returns : goal.returns
returns c = path_ends _ c.taking.left _ _ _ c.taking.first _ (omega arith) c.taking.invariant
