use Rattle.std.proofs.Common.{◌≡◌}
use Rattle.expr_parser.specs.Heads.{terminals_of}
use Rattle.stmt_builder.specs.Views.{made_of}
use Rattle.stmt_machine.specs.Reading.{weight, makes_on, makes_file}
use Rattle.stmt_parser.proofs.reader.read_file.Given as goal

abbrev pub invariant-moves : goal.invariant-moves
invariant-moves l = makes_file (terminals_of l.tokens) ≡ makes_on l.focus l.reader.frames (terminals_of l.rest) (made_of l.reader.maker)

abbrev pub decreases-moves : goal.decreases-moves
decreases-moves l = weight l.focus l.reader.frames (terminals_of l.rest)
