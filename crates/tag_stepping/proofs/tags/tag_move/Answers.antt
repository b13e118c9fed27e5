use Rattle.std.proofs.Common.{◌≡◌, IfOk, ap, subst, ◌∙◌}
use Rattle.dtd_model.specs.Table.{rule_of}
use Rattle.dtd_model.specs.TableOf.{table_of}
use Rattle.page_model.specs.Attributes.{find_rule}
use Rattle.page_model.specs.PageTokens.{element_of}
use Rattle.page_steps.specs.PageSteps as steps
use Rattle.open_pieces.specs.Views.{plain_attribute}
use Rattle.remark_stepping.specs.Views.{plain_move}
use Rattle.tag_stepping.proofs.tags.tag_move.Goals as goal

pub returns-in_ok-moved-in-Some : goal.returns-in_ok-moved-in-Some
returns-in_ok-moved-in-Some c =
    let table = table_of c.args.indexed.now.dtd.now in
    let moved = ap (steps.tag_by table c.args.name.now (rule_of c.in-Some.found.rule.now) c.args.names.now c.args.c) c.in_ok-moved-in-Some.ensures in
    let rule = c.in-Some.ensures.rule ∙ ap (find_rule table.elements) c.as_slice.ensures in
    subst (λ (to : steps.OpenMove). IfOk c.tag_by.result (λ m. plain_move m ≡ to))
    (moved ∙ ap (steps.tag_move table c.args.name.now c.args.names.now (plain_attribute c.args.inside.now) c.args.c) rule)
    (c.tag_by.ensures table (c.in-Some.ensures.place ∙ ap (element_of table) c.as_slice.ensures))
