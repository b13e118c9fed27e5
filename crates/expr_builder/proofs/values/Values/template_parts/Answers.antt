use Rattle.std.proofs.Common.{ap, ◌∙◌}
use Rattle.std.specs.Prelude.{map}
use Rattle.expr_builder.specs.Views.{plain_values}
use Rattle.php_syntax.specs.Tokens.{plain_part_of}
use Rattle.expr_machine.specs.Actions.{part_actions, parts_actions}
use Rattle.expr_machine.specs.Values.{execute}
use Rattle.expr_builder.proofs.TemplateLemmas as tl
use Rattle.expr_builder.proofs.values.Values.template_parts.Goals as goal

pub returns-then-not-fine : goal.returns-then-not-fine
returns-then-not-fine c = λ r. c.parts.invariant r ∙ ap (λ ps. execute (parts_actions (map plain_part_of ps) r) (plain_values c.parts.self)) c.in-Some.ensures ∙ tl.first_false c.in_ok-fine.fine (part_actions (plain_part_of c.in-Some.part.now)) _ _ c.if-not-fine.true c.in_ok-fine.ensures (parts_actions (map plain_part_of c.in-Some.behind.now) r)

pub parts-preserved : goal.parts-preserved
parts-preserved c = λ r. c.parts.invariant r ∙ ap (λ ps. execute (parts_actions (map plain_part_of ps) r) (plain_values c.parts.self)) c.in-Some.ensures ∙ tl.first_true c.in_ok-fine.fine (part_actions (plain_part_of c.in-Some.part.now)) _ _ c.if-not-fine.false c.in_ok-fine.ensures (parts_actions (map plain_part_of c.in-Some.behind.now) r)

pub returns : goal.returns
returns c = λ r. c.parts.invariant r ∙ ap (λ ps. execute (parts_actions (map plain_part_of ps) r) (plain_values c.parts.self)) c.in_default.ensures
