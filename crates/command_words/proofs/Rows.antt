-- The rows that `clap` makes of canonical words.
use Rattle.std.proofs.Common.{List, [], ◌∷◌, Option, Some, None, codes}
use Rattle.clap.specs.Words.{App, Shape, Row, Rule, Text}
use Rattle.clap.specs.Walk.{reading_by}
use Rattle.clap.specs.Simple.{filled, with_index, built_leaf, inherited}
use Rattle.clap.specs.declared.parser.matches.ValueSource.{ValueSource}
use Rattle.clap.specs.declared.builder.value_parser.Reading.{Reading}
use Rattle.clap.specs.declared.builder.action.ArgAction.TheVariants.{Set, SetTrue}
use Rattle.command_words.specs.Program as program
use Rattle.command_words.specs.Canonical.{Part, place, joined, apart, flag}

abbrev pub new_row : Text → Reading → List Text → Row
new_row n how vs = record { id = n; values = vs; count = None; source = Some ValueSource.CommandLine; reading = how }

abbrev pub option_rule : Text → Rule
option_rule n = filled (program.named Set n)

abbrev pub flag_rule : Text → Rule
flag_rule n = filled (program.named SetTrue n)

abbrev pub place_rule : Text → Rule
place_rule n = with_index 1 (filled (program.place n))

abbrev pub option_row : Text → Text → Row
option_row n v = new_row n (reading_by (option_rule n)) (v ∷ [])

abbrev pub flag_row : Text → Row
flag_row n = new_row n (reading_by (flag_rule n)) (codes "true" ∷ [])

abbrev pub place_row : Text → Text → Row
place_row n v = new_row n (reading_by (place_rule n)) (v ∷ [])

abbrev pub part_row : Text → Part → Row
part_row at (place v) = place_row at v
part_row at (joined n v) = option_row n v
part_row at (apart n v) = option_row n v
part_row at (flag n) = flag_row n

abbrev pub end_rows : Text → Option Text → List Row
end_rows at None = []
end_rows at (Some v) = place_row at v ∷ []

abbrev pub parts_rows : Text → Option Text → List Part → List Row
parts_rows at last [] = end_rows at last
parts_rows at last (p ∷ ps) = part_row at p ∷ parts_rows at last ps

-- a command below the program, as it is built
abbrev pub below : App → Shape
below a = built_leaf (inherited program.base.top a.top)
