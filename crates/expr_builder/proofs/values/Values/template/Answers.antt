use Rattle.std.proofs.Common.{◌≡◌, [], ◌∷◌, ap, length}
use Rattle.std.specs.Prelude.{map}
use Rattle.expr_machine.specs.Actions.{join_action, parts_actions}
use Rattle.php_syntax.specs.Tokens.{plain_part_of}
use Rattle.expr_builder.proofs.TemplateLemmas as tl
use Rattle.std.proofs.lemmas.List.{length-map}
use Rattle.expr_builder.proofs.values.Values.template.Goals as goal

pub returns-then-not-fine : goal.returns-then-not-fine
returns-then-not-fine c = tl.first_false c.in_ok-fine.fine (parts_actions (map plain_part_of c.args.parts.now)) _ _ c.if-not-fine.true c.in_ok-fine.ensures (join_action (length (map plain_part_of c.args.parts.now)) ∷ [])

pub returns : goal.returns
returns c = let e : length (map plain_part_of c.args.parts.now) ≡ length c.args.parts.now = length-map c.args.parts.now plain_part_of in tl.passed_actions c.join.result _ _ _ _ (ap (λ n. parts_actions (map plain_part_of c.args.parts.now) (join_action n ∷ [])) e) (tl.passed_after c.join.result (parts_actions (map plain_part_of c.args.parts.now)) (join_action (length c.args.parts.now)) _ _ _ (tl.first_true c.in_ok-fine.fine (parts_actions (map plain_part_of c.args.parts.now)) _ _ c.if-not-fine.false c.in_ok-fine.ensures) c.join.ensures)
