use Rattle.std.proofs.Common.{◌∙◌}
use Rattle.fst_core.proofs.OfferLemmas.{lasts_push}
use Rattle.fst_core.proofs.IndexLemmas.{last_push, last_other}
use Rattle.fst_core.proofs.offering.offer_last.Goals as goal

pub returns-clause-more : goal.returns-clause-more
returns-clause-more c =
    lasts_push c.args.lasts.now.items c.push.new.self.items c.args.end.now c.args.state c.in_ok-from_slice.field-0 c.if-end-state.false c.in_ok-push.ensures.items (c.in_ok-from_slice.ensures.items ∙ c.as_slice.ensures.value)

pub returns-clause-once : goal.returns-clause-once
returns-clause-once c =
    last_push c.args.lasts.now.items c.push.new.self.items c.args.end.now c.args.state c.in_ok-from_slice.field-0 c.if-end-state.false c.in_ok-push.ensures.items (c.in_ok-from_slice.ensures.items ∙ c.as_slice.ensures.value)

pub returns-then-end-state-clause-once : goal.returns-then-end-state-clause-once
returns-then-end-state-clause-once c = last_other c.args.lasts.now.items c.args.end.now c.args.state c.if-end-state.true
