use Rattle.std.proofs.Common.{◌≡◌, ◌-◌, ◌≤◌, length, drop}
use Rattle.lexical_grammar.specs.Rows.{row}
use Rattle.lexical_grammar.specs.Texts.{single_at}
use Rattle.php_lexer.proofs.RowLemmas.{ahead}
use Rattle.php_lexer.proofs.single.single_quoted.Given as goal

abbrev pub invariant-loop-n : goal.invariant-loop-n
invariant-loop-n l = (row single_at 0 l.bytes ≡ ahead l.text l.n (row single_at 0 (drop l.n l.bytes))) × (l.n ≤ length l.bytes)

abbrev pub decreases-loop-n : goal.decreases-loop-n
decreases-loop-n l = length l.bytes - l.n
