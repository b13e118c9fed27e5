use Rattle.std.proofs.Common.{◌∷◌, ap, ◌∙◌}
use Rattle.std.specs.Prelude.{map}
use Rattle.expr_machine.specs.Actions.{member_action, key_action, keys_actions}
use Rattle.expr_builder.specs.Views.{plain_values}
use Rattle.php_syntax.specs.Tokens.{plain_key}
use Rattle.expr_machine.specs.Values.{execute}
use Rattle.expr_builder.proofs.TemplateLemmas as tl
use Rattle.expr_builder.proofs.values.Values.template_keys.Goals as goal

pub returns-then-not-fine : goal.returns-then-not-fine
returns-then-not-fine c = λ r. c.keys.invariant r ∙ ap (λ ks. execute (keys_actions (map plain_key ks) r) (plain_values c.keys.self)) c.in-Some.ensures ∙ tl.run_none (key_action (plain_key c.in-Some.key.now)) (member_action ∷ (keys_actions (map plain_key c.in-Some.behind.now) r)) _ (tl.one_false c.in_ok-fine.fine (key_action (plain_key c.in-Some.key.now)) _ _ c.if-not-fine.true c.in_ok-fine.ensures)

pub returns-then-not-member : goal.returns-then-not-member
returns-then-not-member c = λ r. c.keys.invariant r ∙ ap (λ ks. execute (keys_actions (map plain_key ks) r) (plain_values c.keys.self)) c.in-Some.ensures ∙ tl.run_one (key_action (plain_key c.in-Some.key.now)) (member_action ∷ (keys_actions (map plain_key c.in-Some.behind.now) r)) _ _ (tl.one_true c.in_ok-fine.fine (key_action (plain_key c.in-Some.key.now)) _ _ c.if-not-fine.false c.in_ok-fine.ensures) ∙ tl.run_none member_action (keys_actions (map plain_key c.in-Some.behind.now) r) _ (tl.one_false c.in_ok-member.member member_action _ _ c.if-not-member.true c.in_ok-member.ensures)

pub keys-preserved : goal.keys-preserved
keys-preserved c = λ r. c.keys.invariant r ∙ ap (λ ks. execute (keys_actions (map plain_key ks) r) (plain_values c.keys.self)) c.in-Some.ensures ∙ tl.run_one (key_action (plain_key c.in-Some.key.now)) (member_action ∷ (keys_actions (map plain_key c.in-Some.behind.now) r)) _ _ (tl.one_true c.in_ok-fine.fine (key_action (plain_key c.in-Some.key.now)) _ _ c.if-not-fine.false c.in_ok-fine.ensures) ∙ tl.run_one member_action (keys_actions (map plain_key c.in-Some.behind.now) r) _ _ (tl.one_true c.in_ok-member.member member_action _ _ c.if-not-member.false c.in_ok-member.ensures)

pub returns : goal.returns
returns c = λ r. c.keys.invariant r ∙ ap (λ ks. execute (keys_actions (map plain_key ks) r) (plain_values c.keys.self)) c.in_default.ensures
