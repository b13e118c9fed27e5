use Rattle.std.proofs.Common.{◌∙◌, refl, ℕ}
use Rattle.fst_core.proofs.OfferLemmas.{offers_push}
use Rattle.fst_core.proofs.IndexLemmas.{once_push, once_other, once_apart}
use Rattle.fst_core.specs.declared.machine.Move.{Move}
use Rattle.fst_core.proofs.offering.offer.Goals as goal

pub returns-clause-more : goal.returns-clause-more
returns-clause-more c =
    let x : Move ℕ = record { range = c.in-Some.met; out = c.in_ok-out.out; to = c.args.step.now.to } in
    offers_push c.args.moves.now.items c.push.new.self.items c.args.step.now c.args.state c.args.range c.in-Some.met x c.if-step-state.false c.in_ok-push.ensures.items refl (c.in_ok-out.ensures.items ∙ c.as_slice.ensures.value) refl c.in-Some.ensures.both

pub returns-clause-once : goal.returns-clause-once
returns-clause-once c =
    let x : Move ℕ = record { range = c.in-Some.met; out = c.in_ok-out.out; to = c.args.step.now.to } in
    once_push c.args.moves.now.items c.push.new.self.items c.args.step.now c.args.state c.args.range c.in-Some.met x c.if-step-state.false c.in_ok-push.ensures.items refl (c.in_ok-out.ensures.items ∙ c.as_slice.ensures.value) refl c.in-Some.ensures.both

pub returns-then-step-state-clause-once : goal.returns-then-step-state-clause-once
returns-then-step-state-clause-once c =
    once_other c.args.moves.now.items c.args.step.now c.args.state c.args.range c.if-step-state.true

pub returns-in_default-clause-once : goal.returns-in_default-clause-once
returns-in_default-clause-once c =
    once_apart c.args.moves.now.items c.args.step.now c.args.state c.args.range (c.in_default.ensures.none.0 refl)
