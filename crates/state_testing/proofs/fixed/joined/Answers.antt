use Rattle.std.proofs.Common.{sym, ◌∙◌, ap, chars, ◌++◌, append-nil}
use Rattle.std.proofs.lemmas.Str.{IsUtf8-past_char, chars_past_char, chars-nil}
use Rattle.std.proofs.lemmas.List.{nil_from_length}
use Rattle.state_testing.proofs.Rests.{moved}
use Rattle.state_testing.proofs.fixed.joined.Goals as goal

pub loop-c-preserved : goal.loop-c-preserved
loop-c-preserved c =
    let held = c.loop-c.invariant in
    let parts = c.in-Some.ensures.steps.0 in
    let step = chars_past_char _ _ c.in-Some.c held.0 parts in
    let put : _ = c.in_ok-push.ensures in
    (IsUtf8-past_char _ _ c.in-Some.c held.0 parts, moved _ _ _ _ _ c.in-Some.c held.1 step put)

pub returns : goal.returns
returns c =
    let none = nil_from_length _ c.in-None.ensures.steps.0.0 in
    sym (append-nil c.loop-c.whole) ∙ sym (ap (λ t. c.loop-c.whole ++ chars t) none ∙ ap (λ l. c.loop-c.whole ++ l) chars-nil) ∙ c.loop-c.invariant.1
