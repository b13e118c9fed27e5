use Rattle.std.proofs.Common.{◌≤◌, length, arith, sym, ◌∙◌}
use Rattle.std.proofs.lemmas.Bool.{false≢true}
use Rattle.fst_core.specs.Letter.{letter_of}
use Rattle.fst_core.specs.declared.out.Out.TheVariants.{Same}
use Rattle.fst_core.proofs.LayerLemmas.{written_more, written_fails, no_letter, other_letter}
use Rattle.fst_core.proofs.layers.written_after.Goals as goal

pub returns-then-at-output-clause-puts : goal.returns-then-at-output-clause-puts
returns-then-at-output-clause-puts c =
    let past : length c.args.output.now ≤ c.loop-one.at = omega arith in
    written_fails (letter_of c.args.byte) c.args.output.now c.args.from c.loop-one.at c.args.out.now c.loop-one.one-index Same c.loop-one-test.true c.loop-one.invariant.puts
    (no_letter c.args.output.now c.loop-one.at _ past)

pub returns-then-not-puts-clause-puts : goal.returns-then-not-puts-clause-puts
returns-then-not-puts-clause-puts c =
    written_fails (letter_of c.args.byte) c.args.output.now c.args.from c.loop-one.at c.args.out.now c.loop-one.one-index Same c.loop-one-test.true c.loop-one.invariant.puts
    (other_letter c.args.output.now c.loop-one.at _ c.if-at-output.false
    (λ e. false≢true (sym c.if-not-puts.true ∙ c.puts.ensures.1 e)))

pub loop-one-preserved : goal.loop-one-preserved
loop-one-preserved c =
    record {
      puts = written_more (letter_of c.args.byte) c.args.output.now c.args.from c.loop-one.at c.args.out.now c.loop-one.one-index Same c.loop-one-test.true c.loop-one.invariant.puts c.if-at-output.false (c.puts.ensures.0 c.if-not-puts.false);
      behind = omega (arith, c.loop-one.invariant.behind);
      within = λ h. omega arith;
    }
