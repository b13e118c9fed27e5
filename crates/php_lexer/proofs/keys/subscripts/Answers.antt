use Rattle.std.proofs.Common.{map, arith}
use Rattle.php_syntax.specs.Tokens.{plain_key}
use Rattle.lexical_grammar.specs.Texts.{subscript_at}
use Rattle.php_lexer.proofs.RowLemmas.{row_item, row_over, row_wrong, row_missing, row_cut_off}
use Rattle.php_lexer.proofs.KeyLemmas.{map_pushed, whole_is, endless_is, spoiled_is, no_subscript}
use Rattle.php_lexer.proofs.keys.subscripts.Goals as goal

pub loop-n-preserved : goal.loop-n-preserved
loop-n-preserved c =
    let within = rw c.in-Item.is at c.in_ok-key.ensures.within
    in (row_item subscript_at c.args.bytes.now (map plain_key c.loop-n.keys.items) (map plain_key c.push.new.self.items) c.loop-n.n (plain_key c.in-Item.key) c.in-Item.k _ c.loop-n.invariant.0 c.loop-n-test.true c.behind.ensures.value (rw c.in-Item.is at c.in_ok-key.ensures.value) within.0 (map_pushed plain_key _ _ c.in-Item.key c.in_ok-push-in-Item.ensures.items), omega (arith, within))

pub returns-in-Over-clause-value : goal.returns-in-Over-clause-value
returns-in-Over-clause-value c = whole_is _ _ _ (row_over subscript_at c.args.bytes.now (map plain_key c.loop-n.keys.items) c.loop-n.n c.in-Over.k _ c.loop-n.invariant.0 c.behind.ensures.value (rw c.in-Over.is at c.in_ok-key.ensures.value))

pub returns-in-Wrong-clause-value : goal.returns-in-Wrong-clause-value
returns-in-Wrong-clause-value c =
    let within = rw c.in-Wrong.is at c.in_ok-key.ensures.within
    in spoiled_is _ c.loop-n.n _ (row_wrong subscript_at c.args.bytes.now (map plain_key c.loop-n.keys.items) c.loop-n.n c.in-Wrong.field-0 _ c.loop-n.invariant.0 c.loop-n-test.true c.behind.ensures.value (rw c.in-Wrong.is at c.in_ok-key.ensures.value) within.0)

pub returns-in-Missing-clause-value : goal.returns-in-Missing-clause-value
returns-in-Missing-clause-value c = endless_is _ (row_missing subscript_at c.args.bytes.now (map plain_key c.loop-n.keys.items) c.loop-n.n _ c.loop-n.invariant.0 c.behind.ensures.value (rw c.in-Missing.is at c.in_ok-key.ensures.value))

pub returns-clause-value : goal.returns-clause-value
returns-clause-value c = endless_is _ (row_cut_off subscript_at c.args.bytes.now (map plain_key c.loop-n.keys.items) c.loop-n.n c.loop-n.invariant.0 c.loop-n-test.false no_subscript)
