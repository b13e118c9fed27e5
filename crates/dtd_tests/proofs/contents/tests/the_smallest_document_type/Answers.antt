use Rattle.std.proofs.Common.{length, ap, ◌∙◌, arith}
use Rattle.dtd_model.specs.Table.{Table}
use Rattle.dtd_model.specs.Mini.{mini_table}
use Rattle.dtd_tests.proofs.contents.tests.the_smallest_document_type.Goals as goal

pub init-requires : goal.init-requires
unfolding mini_table
init-requires g c =
    let three = c.in_ok-contents.ensures.elements ∙ ap (λ (t : Table). length t.elements) c.in_ok-dtd.ensures in
    omega (arith, three)
