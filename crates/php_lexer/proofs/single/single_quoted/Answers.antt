use Rattle.std.proofs.Common.{refl, arith}
use Rattle.lexical_grammar.specs.Texts.{single_at}
use Rattle.php_lexer.proofs.RowLemmas.{row_item, row_over, row_cut_off}
use Rattle.php_lexer.proofs.single.single_quoted.Goals as goal

pub loop-n-preserved : goal.loop-n-preserved
loop-n-preserved c = (row_item single_at c.args.bytes.now c.loop-n.text c.push.new.self c.loop-n.n c.in-Item.byte c.in-Item.k _ c.loop-n.invariant.0 c.loop-n-test.true c.behind.ensures.value c.in-Item.ensures.value c.in-Item.ensures.within.0 c.in_ok-push-in-Item.ensures.ok, omega (arith, c.in-Item.ensures.within))

pub returns-in-Over-clause-value : goal.returns-in-Over-clause-value
returns-in-Over-clause-value c = row_over single_at c.args.bytes.now c.loop-n.text c.loop-n.n c.in-Over.k _ c.loop-n.invariant.0 c.behind.ensures.value c.in-Over.ensures.value

pub returns-clause-value : goal.returns-clause-value
returns-clause-value c = row_cut_off single_at c.args.bytes.now c.loop-n.text c.loop-n.n c.loop-n.invariant.0 c.loop-n-test.false refl
