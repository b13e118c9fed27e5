use Rattle.std.proofs.Common.{List, sym, subst, arith}
use Rattle.short_sentences.specs.declared.table.Draft.{Draft}
use Rattle.short_sentences.specs.Tables.{AreQueued}
use Rattle.short_sentences.specs.Taking.{AreAllTaken, IsNext}
use Rattle.short_sentences.proofs.RunLemmas.{all_whole}
use Rattle.short_sentences.proofs.running.run.Goals as goal

pub next-requires : goal.next-requires
next-requires g c = subst (λ (ds : List Draft). AreQueued ds c.loop-place.table.queue) (sym c.as_slice.ensures.value) c.loop-place.invariant.table.queued

pub take-requires-clause-up : goal.take-requires-clause-up
take-requires-clause-up g c = (c.loop-place.table.queue, c.loop-place.invariant)

pub take-requires-clause-is_next : goal.take-requires-clause-is_next
take-requires-clause-is_next g c = subst (λ (ds : List Draft). IsNext ds c.next.new.queue c.in-Some.place) c.as_slice.ensures.value c.in-Some.ensures.some

pub loop-place-preserved : goal.loop-place-preserved
loop-place-preserved g c = c.in_ok-give.ensures

pub loop-place-smaller : goal.loop-place-smaller
loop-place-smaller g c = omega (arith, c.in_ok-take.ensures.one_more, c.take.new.taken.entries.small)

pub returns-clause-ok : goal.returns-clause-ok
returns-clause-ok g c =
    all_whole (g.S.Summary.sum_of c.args.question.now.summary.now) (g.S.Summary.composed c.args.question.now.summary.now) (g.S.Summary.is_whole c.args.question.now.summary.now) c.args.question.now.grammar.now.productions.items c.args.question.now.grammar.now.start c.args.question.now.grammar.now.count (g.S.Summary.appended c.args.question.now.summary.now) c.loop-place.table c.loop-place.taken c.loop-place.chains c.loop-place.invariant
    (subst (λ (ds : List Draft). AreAllTaken ds) c.as_slice.ensures.value c.in_default.ensures.none)
