use Rattle.std.proofs.Common.{◌≡◌, ap, sym, ◌∙◌, ◌<◌, List, Some, length, get_or, slice_get}
use Rattle.grammar_chart.specs.declared.keys.Begun.{Begun}
use Rattle.grammar_chart.specs.Rules.{read_on, begun_at}
use Rattle.grammar_chart.proofs.MemberLemmas.{keeps_more}
use Rattle.grammar_chart.proofs.AddingLemmas.{adding_more, adding_all, begun_same, begun_there}
use Rattle.grammar_chart.proofs.steps.advance_all.Goals as goal

pub unreachable-requires : goal.unreachable-requires
unreachable-requires c =
    let old = c.args.begun.now.items in
    let n = get_or c.args.waiting.now c.loop-number.number-index 0 in
    let below : n < length old = c.requires c.loop-number.number-index 0 c.loop-number-test.true in
    begun_there old c.loop-number.begun.items n (keeps_more _ _ _ c.loop-number.invariant) below
    (ap (λ (xs : List Begun). slice_get xs n) (sym c.as_slice.ensures.value) ∙ sym c.in_default.ensures)

pub loop-number-preserved : goal.loop-number-preserved
loop-number-preserved c =
    let old = c.args.begun.now.items in
    let n = get_or c.args.waiting.now c.loop-number.number-index 0 in
    let below : n < length old = c.requires c.loop-number.number-index 0 c.loop-number-test.true in
    let at : slice_get c.loop-number.begun.items n ≡ Some c.in-Some.one = ap (λ (xs : List Begun). slice_get xs n) (sym c.as_slice.ensures.value) ∙ sym c.in-Some.ensures in
    let one = begun_same old c.loop-number.begun.items n c.in-Some.one (keeps_more _ _ _ c.loop-number.invariant) below at in
    adding_more old c.loop-number.begun.items _ c.args.waiting.now c.loop-number.number-index 0 (λ m. read_on (begun_at old m) c.args.exit) c.advanced.result c.loop-number-test.true c.loop-number.invariant
    (c.advanced.ensures ∙ ap (λ (b : Begun). read_on b c.args.exit) one) c.in_ok-push.ensures.items

pub returns : goal.returns
returns c = adding_all c.args.begun.now.items c.loop-number.begun.items c.args.waiting.now c.loop-number.number-index (λ n. read_on (begun_at c.args.begun.now.items n) c.args.exit) c.loop-number-test.false c.loop-number.invariant
