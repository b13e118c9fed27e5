use Rattle.std.proofs.Common.{◌∙◌, sym, ap}
use Rattle.expr_builder.specs.Views.{plain_value, both_shown}
use Rattle.expr_machine.specs.Values.{node_value}
use Rattle.expr_builder.proofs.NodeLemmas.{member_by}
use Rattle.expr_builder.proofs.nodes.member_value.Goals as goal

pub returns-in-None : goal.returns-in-None
returns-in-None c = sym (member_by (plain_value c.args.array) (plain_value c.args.key) _ _ c.is_place-place.ensures (c.both_known.ensures ∙ ap both_shown c.in-None.is))

pub returns-in_ok-tree-in-Some : goal.returns-in_ok-tree-in-Some
returns-in_ok-tree-in-Some c = c.node.ensures ∙ ap (λ e. node_value e c.in-Some.height c.is_place-place.result) c.in_ok-tree-in-Some.ensures ∙ sym (member_by (plain_value c.args.array) (plain_value c.args.key) _ _ c.is_place-place.ensures (c.both_known.ensures ∙ ap both_shown c.in-Some.is))
