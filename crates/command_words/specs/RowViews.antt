-- The plain form of a command's row.
use Rattle.std.specs.Prelude.{List, map}
use Rattle.std.specs.Borrow.{Bor}
use Rattle.clap.specs.Words.{Text}
use Rattle.command_words.specs.Program.{row_of}
use Rattle.command_words.specs.Program as program
use Rattle.command_words.specs.declared.builder.Row.{Row}

-- texts as their bytes
abbrev pub texts : List (Bor Text) → List Text
texts names = map (λ name. name.now) names

-- a row of the code as one of the definitions
abbrev pub row_as : Row → program.Row
row_as row = row_of row.word.now row.place.now (texts row.options.now) (texts row.flags.now)
