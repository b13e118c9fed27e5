use Rattle.std.proofs.Common.{◌≡◌, ◌<◌, ◌+◌, inr, length, get_or, ◌∙◌, ap, arith}
use Rattle.plain_values.specs.Text.{text_of}
use Rattle.php_values.specs.View.{plain_of}
use Rattle.php_values.specs.declared.array.Value.{Value}
use Rattle.value_operations.specs.Joined.{joined}
use Rattle.value_operations.proofs.JoinLemmas.{joined_longer, joined_front, too_long}
use Rattle.value_operations.proofs.joins.join.Goals as goal

pub returns-then-total-gt-TEXT_LIMIT-clause-err : goal.returns-then-total-gt-TEXT_LIMIT-clause-err
returns-then-total-gt-TEXT_LIMIT-clause-err c =
    let own : c.in_ok-total.field-0 ≡ length (text_of (plain_of (get_or c.args.parts.now c.loop-part.part-index c.part-item.result))) = c.in_ok-total.ensures.value ∙ ap (λ (v : Value). length (text_of (plain_of v))) c.part-item.is in
    let over : 16777216 < length (joined c.args.parts.now) =
    omega (arith, own, c.loop-part.invariant.0, c.if-total-gt-TEXT_LIMIT.true, joined_longer c.args.parts.now c.loop-part.part-index c.part-item.result c.loop-part-test.true, joined_front c.args.parts.now (c.loop-part.part-index + 1)) in
    inr (too_long (joined c.args.parts.now) over)

pub loop-part-preserved : goal.loop-part-preserved
loop-part-preserved c =
    let own : c.in_ok-total.field-0 ≡ length (text_of (plain_of (get_or c.args.parts.now c.loop-part.part-index c.part-item.result))) = c.in_ok-total.ensures.value ∙ ap (λ (v : Value). length (text_of (plain_of v))) c.part-item.is in
    (omega (arith, own, c.loop-part.invariant.0, joined_longer c.args.parts.now c.loop-part.part-index c.part-item.result c.loop-part-test.true), c.if-total-gt-TEXT_LIMIT.false)
