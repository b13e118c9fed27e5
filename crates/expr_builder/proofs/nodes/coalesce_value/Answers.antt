use Rattle.std.proofs.Common.{false, ◌∙◌, sym, ap}
use Rattle.expr_builder.specs.Views.{plain_value, both_shown}
use Rattle.expr_machine.specs.Values.{node_value}
use Rattle.expr_builder.proofs.NodeLemmas.{coalesce_by}
use Rattle.expr_builder.proofs.nodes.coalesce_value.Goals as goal

pub returns-in-None : goal.returns-in-None
returns-in-None c = sym (coalesce_by (plain_value c.args.left) (plain_value c.args.right) _ (c.both_known.ensures ∙ ap both_shown c.in-None.is))

pub returns-in_ok-tree-in-Some : goal.returns-in_ok-tree-in-Some
returns-in_ok-tree-in-Some c = c.node.ensures ∙ ap (λ e. node_value e c.in-Some.height false) c.in_ok-tree-in-Some.ensures ∙ sym (coalesce_by (plain_value c.args.left) (plain_value c.args.right) _ (c.both_known.ensures ∙ ap both_shown c.in-Some.is))
