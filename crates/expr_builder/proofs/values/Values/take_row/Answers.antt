use Rattle.std.proofs.Common.{◌∙◌, ap, arith}
use Rattle.expr_machine.specs.Values.{take_values}
use Rattle.expr_builder.specs.Views.{plain_value, plain_values}
use Rattle.expr_builder.proofs.RowLemmas.{take_next, take_all, take_none}
use Rattle.expr_builder.proofs.values.Values.take_row.Goals as goal

pub taking-preserved : goal.taking-preserved
taking-preserved c =
    rw c.in_ok-push-in-Some.ensures (c.taking.invariant
    ∙ ap (λ vs. take_values c.taking.left (plain_values c.taking.row) (plain_values vs)) c.in-Some.ensures
    ∙ take_next c.taking.left (plain_values c.taking.row) (plain_value c.in-Some.value) (plain_values c.pop.new.self) (omega arith))

pub returns-in-None : goal.returns-in-None
returns-in-None c =
    c.taking.invariant
    ∙ ap (λ vs. take_values c.taking.left (plain_values c.taking.row) (plain_values vs)) c.in-None.ensures.0
    ∙ take_none c.taking.left (plain_values c.taking.row) (omega arith)

pub returns : goal.returns
returns c = c.taking.invariant ∙ take_all c.taking.left (plain_values c.taking.row) (plain_values c.taking.self) (omega arith)
