use Rattle.std.proofs.Common.{List, ℕ, ◌++◌, take, sym, ◌∙◌, ap}
use Rattle.plain_values.specs.Text.{text_of}
use Rattle.php_values.specs.View.{plain_of}
use Rattle.php_values.specs.declared.array.Value.{Value}
use Rattle.value_operations.specs.Joined.{joined}
use Rattle.value_operations.proofs.JoinLemmas.{joined_more}
use Rattle.value_operations.proofs.joins.joined.Goals as goal

pub loop-part-preserved : goal.loop-part-preserved
loop-part-preserved c =
    c.in_ok-extend_from_slice.ensures.items
    ∙ ap (λ (bs : List ℕ). bs ++ c.as_slice.result.now) c.loop-part.invariant
    ∙ ap (λ (bs : List ℕ). joined (take c.loop-part.part-index c.args.parts.now) ++ bs) (c.as_slice.ensures.bytes ∙ c.in_ok-form.ensures ∙ ap (λ (v : Value). text_of (plain_of v)) c.part-item.is)
    ∙ sym (joined_more c.args.parts.now c.loop-part.part-index c.part-item.result c.loop-part-test.true)
