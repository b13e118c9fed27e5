-- Plain forms.
use Rattle.std.specs.Prelude.{map, string_bytes}
use Rattle.several_files.specs.declared.checks.AskedFile.{AskedFile}
use Rattle.several_files.specs.declared.checks.Checks as declared
use Rattle.several_files.specs.declared.answers.FileAnswer.{FileAnswer}
use Rattle.several_files.specs.Words.{FileName, Checks}
use Rattle.several_files.specs.Lines.{Answer}

-- the plain form of a name
abbrev pub file_as : AskedFile → FileName
file_as f = record { name = string_bytes f.name; is_found = f.is_found }

-- the plain form of what is asked of `check`
abbrev pub checks_as : declared.Checks → Checks
checks_as c = record { options = map string_bytes c.options.items; files = map file_as c.files.items }

-- the plain form of an answer
abbrev pub answer_as : FileAnswer → Answer
answer_as a = record {
  file = file_as a.file;
  status = a.status;
  text = a.text;
  included = map string_bytes a.included.items;
}
