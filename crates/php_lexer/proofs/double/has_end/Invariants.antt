use Rattle.std.proofs.Common.{◌≡◌, ◌-◌, ◌≤◌, length, drop}
use Rattle.lexical_grammar.specs.Rows.{row}
use Rattle.lexical_grammar.specs.Texts.{unit_at}
use Rattle.php_lexer.specs.Templates.{enclosure_of, has_end_of}
use Rattle.php_lexer.proofs.double.has_end.Given as goal

abbrev pub invariant-places : goal.invariant-places
invariant-places l = (has_end_of (row (unit_at (enclosure_of l.enclosure)) 0 l.bytes) ≡ has_end_of (row (unit_at (enclosure_of l.enclosure)) 0 (drop l.n l.bytes))) × (l.n ≤ length l.bytes)

abbrev pub decreases-places : goal.decreases-places
decreases-places l = length l.bytes - l.n
