use Rattle.std.proofs.Common.{◌≡◌, ℕ, ◌<◌, true, None, get_or, take, sym, ◌∙◌, ap, subst}
use Rattle.plain_values.specs.Plain.{Pairs, keys, depth, deepest}
use Rattle.php_values.specs.View.{plain_of, plain_key, pairs_of}
use Rattle.plain_values.specs.Members.{put_pair}
use Rattle.plain_values.specs.Keys.{are_distinct}
use Rattle.php_values.specs.Index.{place}
use Rattle.php_values.specs.declared.key.Key.{Key}
use Rattle.php_values.specs.declared.array.Value.{Value}
use Rattle.php_values.proofs.Places.{absent_before, deepest_at, put_step}
use Rattle.php_values.proofs.array.Members.copy.Goals as goal

pub add-requires-clause-absent : goal.add-requires-clause-absent
add-requires-clause-absent c =
    let distinct : are_distinct (keys (pairs_of c.deref-pair-items.result.now)) ≡ true = rw c.deref-pair-items.ensures.value c.self.invariant.distinct in
    let key_is : c.in_ok-key.key ≡ (get_or c.deref-pair-items.result.now c.loop-pair.pair-index c.pair-item.result).0 = c.in_ok-key.ensures ∙ ap (λ (p : Key × Value). p.0) c.pair-item.is in
    subst (λ (ps : Pairs). place (keys ps) (plain_key c.in_ok-key.key) ≡ None) (sym c.loop-pair.invariant)
    (subst (λ (k : Key). place (keys (pairs_of (take c.loop-pair.pair-index c.deref-pair-items.result.now))) (plain_key k) ≡ None) (sym key_is)
    (absent_before c.deref-pair-items.result.now c.loop-pair.pair-index c.pair-item.result distinct c.loop-pair-test.true))

pub add-requires-clause-shallow : goal.add-requires-clause-shallow
add-requires-clause-shallow c =
    let shallow : deepest (pairs_of c.deref-pair-items.result.now) < 1000 = rw c.deref-pair-items.ensures.value (subst (λ (n : ℕ). n < 1000) c.self.invariant.depth c.self.invariant.shallow) in
    let value_is : c.in_ok-value.value ≡ (get_or c.deref-pair-items.result.now c.loop-pair.pair-index c.pair-item.result).1 = c.in_ok-value.ensures ∙ ap (λ (p : Key × Value). p.1) c.pair-item.is in
    subst (λ (v : Value). depth (plain_of v) < 1000) (sym value_is) (deepest_at c.deref-pair-items.result.now c.loop-pair.pair-index 1000 c.pair-item.result shallow c.loop-pair-test.true)

pub loop-pair-preserved : goal.loop-pair-preserved
loop-pair-preserved c =
    let distinct : are_distinct (keys (pairs_of c.deref-pair-items.result.now)) ≡ true = rw c.deref-pair-items.ensures.value c.self.invariant.distinct in
    let key_is : c.in_ok-key.key ≡ (get_or c.deref-pair-items.result.now c.loop-pair.pair-index c.pair-item.result).0 = c.in_ok-key.ensures ∙ ap (λ (p : Key × Value). p.0) c.pair-item.is in
    let value_is : c.in_ok-value.value ≡ (get_or c.deref-pair-items.result.now c.loop-pair.pair-index c.pair-item.result).1 = c.in_ok-value.ensures ∙ ap (λ (p : Key × Value). p.1) c.pair-item.is in
    c.in_ok-add.ensures.ok
    ∙ ap (λ (ps : Pairs). put_pair ps (plain_key c.in_ok-key.key) (plain_of c.in_ok-value.value)) c.loop-pair.invariant
    ∙ put_step c.deref-pair-items.result.now c.loop-pair.pair-index c.in_ok-key.key c.in_ok-value.value c.pair-item.result distinct c.loop-pair-test.true key_is value_is
