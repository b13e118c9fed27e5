use Rattle.std.proofs.Common.{ap, ◌∙◌}
use Rattle.dtd_model.specs.TableOf.{table_of}
use Rattle.page_model.specs.Attributes.{find_rule}
use Rattle.page_model.specs.PageTokens.{element_of}
use Rattle.page_steps.specs.PageSteps as steps
use Rattle.tag_stepping.proofs.tags.empty_move.Goals as goal

pub returns-in-Some : goal.returns-in-Some
returns-in-Some c =
    let table = table_of c.args.indexed.now.dtd.now in
    c.empty_end.ensures table (c.in-Some.ensures.place ∙ ap (element_of table) c.as_slice.ensures)
    ∙ ap (steps.empty_move table c.args.name.now c.args.names.now c.args.c) (c.in-Some.ensures.rule ∙ ap (find_rule table.elements) c.as_slice.ensures)
