use Rattle.std.proofs.Common.{◌≡◌, ◌-◌, ◌≤◌, length, drop, map}
use Rattle.lexical_grammar.specs.Rows.{row}
use Rattle.lexical_grammar.specs.Texts.{subscript_at}
use Rattle.php_syntax.specs.Tokens.{plain_key}
use Rattle.php_lexer.proofs.RowLemmas.{ahead}
use Rattle.php_lexer.proofs.keys.subscripts.Given as goal

abbrev pub invariant-loop-n : goal.invariant-loop-n
invariant-loop-n l = (row subscript_at 0 l.bytes ≡ ahead (map plain_key l.keys.items) l.n (row subscript_at 0 (drop l.n l.bytes))) × (l.n ≤ length l.bytes)

abbrev pub decreases-loop-n : goal.decreases-loop-n
decreases-loop-n l = length l.bytes - l.n
