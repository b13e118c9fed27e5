use Rattle.std.proofs.Common.{◌<◌, sym, ◌∙◌, map, arith}
use Rattle.dtd_model.specs.Table.{rule_of}
use Rattle.page_rules.proofs.Rules.{fits, element_found, element_absent}
use Rattle.page_rules.proofs.elements.element.Goals as goal

pub returns-in-Some : goal.returns-in-Some
returns-in-Some c =
    let d = c.args.indexed.now.dtd.now in
    element_found (map rule_of d.elements.items) c.args.name.now c.in-Some.place (sym c.in-Some.is ∙ c.element.ensures)

pub returns-in-None : goal.returns-in-None
returns-in-None c = element_absent (map rule_of c.args.indexed.now.dtd.now.elements.items) c.args.name.now (sym c.in-None.is ∙ c.element.ensures)

pub overflow_cast-result : goal.overflow_cast-result
overflow_cast-result c =
    let d = c.args.indexed.now.dtd.now in
    let found = element_found (map rule_of d.elements.items) c.args.name.now c.in-Some.place (sym c.in-Some.is ∙ c.element.ensures) in
    let f : c.in-Some.place < 1024 = fits d.elements.items d.entities.items c.in-Some.place d.lawful found.1 in
    omega (arith, f)
