use Rattle.std.proofs.Common.{sym, ℕ}
use Rattle.numbered_sets.proofs.WalkLemmas.{walk_begun, walk_further, walk_ended}
use Rattle.grammar_chart.specs.declared.keys.Read.TheVariants.{Nothing}
use Rattle.grammar_chart.proofs.AddingLemmas.{adds_none, adds_more, adds_same}
use Rattle.grammar_chart.proofs.steps.begin_all.Goals as goal

pub loop-before-init : goal.loop-before-init
loop-before-init c = λ keys chains. walk_begun keys _ _ chains c.args.left _ c.last_place-place.ensures
    (adds_none c.args.begun.now.items (λ (p : ℕ). record { place = p; from = c.args.from; read = Nothing }))

pub loop-before-preserved : goal.loop-before-preserved
loop-before-preserved c = λ keys chains. walk_further keys _ _ chains c.args.left c.loop-before.place (c.loop-before.invariant keys chains) c.in-Some.before (sym c.in-Some.ensures)
    (λ P R same met. adds_more _ _ _ (λ (p : ℕ). record { place = p; from = c.args.from; read = Nothing }) c.loop-before.place P R same met c.in_ok-push.ensures.items)

pub returns : goal.returns
returns c = λ keys chains. walk_ended keys _ _ chains c.args.left c.loop-before.place (c.loop-before.invariant keys chains) (sym c.in_default.ensures)
    (λ P. adds_same _ _ (λ (p : ℕ). record { place = p; from = c.args.from; read = Nothing }) P _)
