use Rattle.string_ops.proofs.CutLemmas.{no_length, early_length, plain_length}
use Rattle.string_ops.proofs.cut.front_machine.Goals as goal

pub returns-then-is_rest : goal.returns-then-is_rest
returns-then-is_rest c =
    no_length c.rest_machine.result c.args.start c.args.len c.is_rest.result c.is_rest.ensures c.if-is_rest.true c.rest_machine.ensures

pub returns-then-ends_before : goal.returns-then-ends_before
returns-then-ends_before c =
    early_length c.inner_machine.result c.args.start c.args.len c.size-number.result c.ends_before.result c.size-number.ensures c.ends_before.ensures c.if-ends_before.true c.inner_machine.ensures

pub returns : goal.returns
returns c =
    plain_length c.next_machine.result c.args.start c.args.len c.size-number.result c.is_rest.result c.ends_before.result c.size-number.ensures c.is_rest.ensures c.if-is_rest.false c.ends_before.ensures c.if-ends_before.false c.next_machine.ensures
