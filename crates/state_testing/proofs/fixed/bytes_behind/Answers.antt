use Rattle.std.proofs.Common.{◌∙◌, ap, length, min}
use Rattle.state_testing.proofs.Rests.{further}
use Rattle.state_testing.proofs.fixed.bytes_behind.Goals as goal

pub loop-c-preserved : goal.loop-c-preserved
loop-c-preserved c =
    further c.loop-c.rest.now c.split_at.result.1.now c.args.value.now c.loop-c.c-index c.c-item.result c.min.result c.loop-c-test.true c.c-item.is
    (c.min.ensures ∙ ap (λ n. min n (length c.loop-c.rest.now)) c.len_utf8.ensures.value) c.split_at.ensures.back
    ∙ c.loop-c.invariant
