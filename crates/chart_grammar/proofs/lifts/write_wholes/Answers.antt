use Rattle.std.proofs.Common.{[], ◌≤◌, length, arith}
use Rattle.chart_grammar.specs.declared.fronts.Front.{Front}
use Rattle.chart_grammar.specs.Writing.{WholeMade, WholeHas}
use Rattle.chart_grammar.proofs.WriteLemmas.{writes_none, writes_more, writes_all}
use Rattle.chart_grammar.proofs.MonoLemmas.{whole_made, whole_has}
use Rattle.chart_grammar.proofs.lifts.write_wholes.Goals as goal

pub loop-one-init : goal.loop-one-init
loop-one-init c =
    record {
      writes = writes_none {X = Front} (WholeMade c.args.productions.now c.args.passages.now.keys) (WholeHas c.args.productions.now c.args.passages.now.keys) c.args.begun.now [] c.args.out.now.items;
      few = omega arith;
      sources = λ h. h;
    }

pub loop-one-preserved : goal.loop-one-preserved
loop-one-preserved c =
    let ps = c.args.productions.now in
    let fs = c.args.passages.now.keys in
    record {
      writes = writes_more {X = Front} (WholeMade ps fs) (WholeHas ps fs) (whole_made ps fs) (whole_has ps fs) c.args.begun.now c.loop-one.one-index _ [] [] [] c.args.out.now.items c.loop-one.out.items c.write_whole.new.out.items c.loop-one-test.true c.loop-one.invariant.writes c.in_ok-write_whole.ensures.writes;
      few = (let a = c.in_ok-write_whole.ensures.few in let b = c.loop-one.invariant.few in omega (arith, a, b));
      sources = λ h. c.in_ok-write_whole.ensures.sources (c.loop-one.invariant.sources h);
    }

pub returns-clause-writes : goal.returns-clause-writes
returns-clause-writes c = writes_all {X = Front} (WholeMade c.args.productions.now c.args.passages.now.keys) (WholeHas c.args.productions.now c.args.passages.now.keys) c.args.begun.now c.loop-one.one-index [] [] c.args.out.now.items c.loop-one.out.items c.loop-one-test.false c.loop-one.invariant.writes

pub returns-clause-few : goal.returns-clause-few
returns-clause-few c =
    let a = c.loop-one.invariant.few in
    let b : c.loop-one.one-index ≤ length c.args.begun.now = omega arith in
    omega (arith, a, b)
