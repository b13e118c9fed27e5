-- What the reader of a file answers.
use Rattle.std.specs.Prelude.{◌≡◌, Option, Some, None}
use Rattle.php_syntax.specs.Trees.{plain_file}
use Rattle.stmt_machine.specs.Made.{Made, file_of}
use Rattle.stmt_parser.specs.declared.reader.Reading.{Reading}
use Rattle.stmt_parser.specs.declared.reader.Reading.TheVariants as reading

-- the file's tree; a file whose tree is over 200 high; or no file
abbrev pub IsReading : Option Made → Reading → Type 0
IsReading made (reading.File tree) = (m : Made) × (made ≡ Some m) × (file_of m ≡ Some (plain_file tree))
IsReading made (reading.Tall at) = (m : Made) × (made ≡ Some m) × (file_of m ≡ None)
IsReading made (reading.Stuck at) = made ≡ None
