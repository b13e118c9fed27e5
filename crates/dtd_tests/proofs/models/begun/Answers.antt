use Rattle.std.proofs.Common.{length, ap, ◌∙◌, arith}
use Rattle.std.proofs.lemmas.List.{length-map}
use Rattle.dtd_model.specs.Table.{rule_of}
use Rattle.dtd_tests.proofs.models.begun.Goals as goal

pub init-first-requires : goal.init-first-requires
init-first-requires c =
    let long = c.in_ok-contents.ensures.elements ∙ length-map c.args.dtd.now.elements.items rule_of in
    let same = ap length c.as_slice.ensures.value in
    let some = c.in-len1-up.len_at_least in
    omega (arith, long, same, some)
