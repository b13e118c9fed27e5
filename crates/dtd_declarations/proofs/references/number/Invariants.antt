use Rattle.std.proofs.Common.{◌≡◌, true, length}
use Rattle.std.specs.List.{list_all}
use Rattle.std.specs.Char.{is_ascii_hexdigit}
use Rattle.dtd_model.specs.References.{number_written}
use Rattle.dtd_declarations.proofs.references.number.Given as goal

abbrev pub invariant-loop-first : goal.invariant-loop-first
invariant-loop-first l = (number_written l.base l.so_far l.rest ≡ number_written l.base 0 l.fn.digits) × (list_all is_ascii_hexdigit l.rest ≡ true)

abbrev pub decreases-loop-first : goal.decreases-loop-first
decreases-loop-first l = length l.rest
