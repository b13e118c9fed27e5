use Rattle.std.proofs.Common.{◌≡◌, ◌-◌, ◌≤◌, length, drop, map}
use Rattle.lexical_grammar.specs.Rows.{row}
use Rattle.lexical_grammar.specs.Texts.{unit_at}
use Rattle.php_syntax.specs.Tokens.{plain_part_of}
use Rattle.php_lexer.specs.Templates.{enclosure_of, parts_row}
use Rattle.php_lexer.proofs.PartLemmas.{ahead_parts}
use Rattle.php_lexer.proofs.double.template.Given as goal

abbrev pub invariant-places : goal.invariant-places
invariant-places l = (parts_row (row (unit_at (enclosure_of l.enclosure)) 0 l.bytes) ≡ ahead_parts (map plain_part_of l.parts.items) l.plain l.n (parts_row (row (unit_at (enclosure_of l.enclosure)) 0 (drop l.n l.bytes)))) × (l.n ≤ length l.bytes)

abbrev pub decreases-places : goal.decreases-places
decreases-places l = length l.bytes - l.n
