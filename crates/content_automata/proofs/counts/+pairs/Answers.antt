use Rattle.std.proofs.Common.{◌≡◌, ◌∙◌, ◌+◌, ◌-◌, ◌<◌, length, drop, sym, ap, arith}
use Rattle.dtd_model.specs.Table.{models_in}
use Rattle.content_automata.specs.Counts.{ahead, pairs_in_turn}
use Rattle.content_automata.proofs.PartLemmas.{no_more, pairs_more, ahead_more}
use Rattle.content_automata.proofs.counts.+pairs.Goals as goal

pub pairs_in_turn-parts-init : goal.pairs_in_turn-parts-init
unfolding pairs_in_turn ahead
pairs_in_turn-parts-init n c =
    let all = no_more c.args.parts.now (length c.args.parts.now) (omega arith) in
    record { within = omega arith; sum = sym (ap (λ ms. pairs_in_turn ms c.args.behind) all); next = sym (ap (λ ms. ahead ms c.args.behind) all) }

pub pairs_in_turn-parts-preserved : goal.pairs_in_turn-parts-preserved
pairs_in_turn-parts-preserved n c =
    let step : (c.parts.left - 1) + 1 ≡ c.parts.left = (let l = c.parts-test.true in omega (arith, l)) in
    let within : c.parts.left - 1 < length c.args.parts.now = (let l = c.parts-test.true in let w = c.parts.invariant.within in omega (arith, l, w)) in
    record {
      within = (let w = within in omega (arith, w));
      sum = pairs_more c.args.parts.now (c.parts.left - 1) c.parts.left _ c.args.behind _ _ _ _ step within c.index-parts-left.is c.parts.invariant.sum c.parts.invariant.next c.in_ok-count.ensures c.in_ok-more.ensures;
      next = ahead_more c.args.parts.now (c.parts.left - 1) c.parts.left _ c.args.behind _ _ step within c.index-parts-left.is c.parts.invariant.next c.in_ok-ahead.ensures;
    }

pub pairs_in_turn-returns-then-left-eq0 : goal.pairs_in_turn-returns-then-left-eq0
pairs_in_turn-returns-then-left-eq0 n c =
    let step : (c.parts.left - 1) + 1 ≡ c.parts.left = (let l = c.parts-test.true in omega (arith, l)) in
    let within : c.parts.left - 1 < length c.args.parts.now = (let l = c.parts-test.true in let w = c.parts.invariant.within in omega (arith, l, w)) in
    pairs_more c.args.parts.now (c.parts.left - 1) c.parts.left _ c.args.behind _ _ _ _ step within c.index-parts-left.is c.parts.invariant.sum c.parts.invariant.next c.in_ok-count.ensures c.in_ok-more.ensures
    ∙ ap (λ k. pairs_in_turn (models_in (drop k c.args.parts.now)) c.args.behind) c.if-left-eq0.true
