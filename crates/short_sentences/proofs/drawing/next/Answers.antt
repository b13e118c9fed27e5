use Rattle.std.proofs.Common.{sym, ◌∙◌, true≢false}
use Rattle.short_sentences.proofs.DrawLemmas.{next_is, skipped}
use Rattle.short_sentences.proofs.drawing.next.Goals as goal

pub returns-then-is_open-clause-some : goal.returns-then-is_open-clause-some
returns-then-is_open-clause-some c =
    let is = c.is_open.ensures.0 c.if-is_open.true in
    next_is c.args.drafts.now c.loop-length.queue c.draw.new.self c.in-Some.length c.in-Some.place is.0 c.loop-length.invariant c.in-Some.ensures.draws is.1 is.2 is.3

pub loop-length-preserved : goal.loop-length-preserved
loop-length-preserved c =
    skipped c.args.drafts.now c.loop-length.queue c.draw.new.self (c.in-Some.length, c.in-Some.place) c.loop-length.invariant c.in-Some.ensures.draws
    (λ d at is_open same. true≢false (sym (c.is_open.ensures.1 (d, at, is_open, same)) ∙ c.if-is_open.false))
