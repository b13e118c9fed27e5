-- Lines of generated scripts, and near misses.
use Rattle.std.proofs.Common.{◌≡◌, [], refl, codes, arith}
use Rattle.std.specs.Fmt.{digits}
use Rattle.script_maker.specs.Made.{line_of, lines_from, IsSize}

third : line_of 2 1 ≡ codes "function f2() { echo '<div>'; while (isset($_GET['k2'])) { f1(); } echo '</div>'; }\n"
unfolding digits
third = refl

-- the first function has its own line, so that one function has none of these
no_line : lines_from 0 0 ≡ []
unfolding lines_from
no_line = refl

two_lines : lines_from 8 2 ≡ codes "function f9() { echo '<div>'; while (isset($_GET['k9'])) { f8(); } echo '</div>'; }\nfunction f10() { echo '<div>'; while (isset($_GET['k10'])) { f9(); } echo '</div>'; }\n"
unfolding digits lines_from
two_lines = refl

most : IsSize 1000
most = (omega arith, omega arith)

too_many : IsSize 1001 → ⊥
too_many size = (let h = size.1 in omega (arith, h))

none : IsSize 0 → ⊥
none size = (let h = size.0 in omega (arith, h))
