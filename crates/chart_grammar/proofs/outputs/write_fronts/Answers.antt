use Rattle.std.proofs.Common.{◌≡◌, ◌≤◌, ℕ, Some, IsTrue, slice_get, length, arith, refl, sym, subst}
use Rattle.std.proofs.lemmas.Option.{slice_get_read, slice_get_within}
use Rattle.cfg_grammar.specs.Below.{production_below}
use Rattle.chart_grammar.specs.Lifts.{front_production}
use Rattle.chart_grammar.proofs.OutputLemmas.{fronts_none, fronts_more}
use Rattle.chart_grammar.proofs.outputs.write_fronts.Goals as goal

pub loop-number-init : goal.loop-number-init
loop-number-init c = record { writes = fronts_none c.args.fronts.now c.args.base c.args.count c.args.out.now.items; few = omega arith }

pub loop-number-preserved : goal.loop-number-preserved
loop-number-preserved c =
    let fr = c.args.fronts.now in
    let one = c.index-fronts-number.result in
    let at : slice_get fr c.loop-number.number ≡ Some one = slice_get_read fr (length fr) c.loop-number.number one refl c.loop-number-test.true c.index-fronts-number.is in
    record {
      writes = fronts_more fr c.args.base c.args.count c.loop-number.number one c.args.out.now.items c.loop-number.out.items c.write_front.new.out.items c.requires.count at c.in_ok-write_front.ensures.adds c.loop-number.invariant.writes;
      few = (let a = c.in_ok-write_front.ensures.few in let b = c.loop-number.invariant.few in omega (arith, a, b));
    }

pub returns-clause-has : goal.returns-clause-has
returns-clause-has c = λ n f at fits.
    let w = slice_get_within c.args.fronts.now n f at in
    let past : length c.args.fronts.now ≤ c.loop-number.number = c.loop-number-test.false in
    c.loop-number.invariant.writes.has n f (omega (arith, w, past)) at (subst (λ (m : ℕ). IsTrue (production_below m (front_production c.args.base n f))) (sym c.requires.count) fits)
