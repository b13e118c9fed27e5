use Rattle.std.proofs.Common.{◌≤◌, map, length, arith}
use Rattle.std.proofs.lemmas.List.{length-map}
use Rattle.dtd_model.specs.Table.{rule_of}
use Rattle.page_rules.proofs.Rules.{few}
use Rattle.way_reader.proofs.pages.element_count.Goals as goal

pub overflow_cast-result : goal.overflow_cast-result
overflow_cast-result c =
    let d = c.args.dtd.now in
    let f : length (map rule_of d.elements.items) ≤ 1024 = few (map rule_of d.elements.items) d.entities.items d.lawful in
    let l = length-map d.elements.items rule_of in
    omega (arith, f, l)
